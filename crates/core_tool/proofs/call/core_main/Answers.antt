use Rattle.core_host.specs.declared.host.Port.TheVariants.{Main}
use Rattle.core_tool.specs.declared.status.Status.TheVariants as status
use Rattle.core_tool.specs.Call.{Call, outside_of}
use Rattle.core_tool.specs.Answers.{IsAnswered}
use Rattle.core_tool.specs.Ends.{IsEnd}
use Rattle.core_tool.proofs.Finished.{answered}
use Rattle.core_tool.proofs.Answered.{config_refused_clause, done_clause, image_refused_clause, module_refused_clause, noted, read_fault_clause, rules_refused_clause, runs_clause, usage_clause, write_fault_clause}
use Rattle.core_tool.proofs.Pulls.{pulled_later}
use Rattle.core_tool.proofs.call.core_main.Goals as goal
use Rattle.core_tool.proofs.call.core_main.Goals.{After-finish}

-- behind the work an answer has happened
module _ (g : _) (c : After-finish g) where
  happened : {B : Type 0} (call : Call B)
      → IsEnd (record { call = call; old = outside_of g.H.Host c.args.host.now; new = outside_of g.H.Host c.work-end.new.host }) c.work-end.result
      → IsAnswered c.finish.result (record { call = call; old = outside_of g.H.Host c.args.host.now; new = outside_of g.H.Host c.finish.new.host })
  happened call ends = answered call (outside_of g.H.Host c.args.host.now) (outside_of g.H.Host c.work-end.new.host) (outside_of g.H.Host c.finish.new.host)
      (c.finish.ensures.others Main (λ e. cc)) c.finish.ensures.reads c.finish.ensures.writes c.work-end.result c.finish.result ends c.work-end.ensures.notes
      c.work-end.ensures.writes c.finish.ensures.finished

pub returns-clause-done : goal.returns-clause-done
returns-clause-done g c = done_clause _ c.finish.result (happened g (goal.at.returns-clause-done g c).After-finish _ c.work-end.ensures.ends)

pub returns-clause-usage : goal.returns-clause-usage
returns-clause-usage g c = usage_clause _ c.finish.result (happened g (goal.at.returns-clause-usage g c).After-finish _ c.work-end.ensures.ends)

pub returns-clause-config_refused : goal.returns-clause-config_refused
returns-clause-config_refused g c = config_refused_clause _ c.finish.result (happened g (goal.at.returns-clause-config_refused g c).After-finish _ c.work-end.ensures.ends)

pub returns-clause-rules_refused : goal.returns-clause-rules_refused
returns-clause-rules_refused g c = rules_refused_clause _ c.finish.result (happened g (goal.at.returns-clause-rules_refused g c).After-finish _ c.work-end.ensures.ends)

pub returns-clause-image_refused : goal.returns-clause-image_refused
returns-clause-image_refused g c = image_refused_clause _ c.finish.result (happened g (goal.at.returns-clause-image_refused g c).After-finish _ c.work-end.ensures.ends)

pub returns-clause-read_fault : goal.returns-clause-read_fault
returns-clause-read_fault g c = read_fault_clause _ c.finish.result (happened g (goal.at.returns-clause-read_fault g c).After-finish _ c.work-end.ensures.ends)

pub returns-clause-write_fault : goal.returns-clause-write_fault
returns-clause-write_fault g c = write_fault_clause _ c.finish.result (happened g (goal.at.returns-clause-write_fault g c).After-finish _ c.work-end.ensures.ends)

pub returns-clause-module_refused : goal.returns-clause-module_refused
returns-clause-module_refused g c = module_refused_clause _ c.finish.result (happened g (goal.at.returns-clause-module_refused g c).After-finish _ c.work-end.ensures.ends)

pub returns-clause-runs : goal.returns-clause-runs
returns-clause-runs g c = runs_clause _ c.finish.result (happened g (goal.at.returns-clause-runs g c).After-finish _ c.work-end.ensures.ends)

pub returns-clause-no_memory : goal.returns-clause-no_memory
returns-clause-no_memory g c = noted _ c.finish.result status.NoMemory (λ e. cc) (happened g (goal.at.returns-clause-no_memory g c).After-finish _ c.work-end.ensures.ends)

pub returns-clause-cycles_ended : goal.returns-clause-cycles_ended
returns-clause-cycles_ended g c = noted _ c.finish.result status.CyclesEnded (λ e. cc) (happened g (goal.at.returns-clause-cycles_ended g c).After-finish _ c.work-end.ensures.ends)

pub returns-clause-stopped : goal.returns-clause-stopped
returns-clause-stopped g c = noted _ c.finish.result status.Stopped (λ e. cc) (happened g (goal.at.returns-clause-stopped g c).After-finish _ c.work-end.ensures.ends)

pub returns-clause-pulled : goal.returns-clause-pulled
returns-clause-pulled g c =
    pulled_later _ (outside_of g.H.Host c.args.host.now) (outside_of g.H.Host c.work-end.new.host) (outside_of g.H.Host c.finish.new.host)
    c.finish.ensures.left c.finish.ensures.reads c.work-end.ensures.pulled
