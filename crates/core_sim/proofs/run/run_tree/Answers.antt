use Rattle.verilog_mean.specs.Erase.{plain_tree}
use Rattle.verilog_mean.specs.Zero.{zero_state}
use Rattle.core_sim.specs.Spans.{lines_of}
use Rattle.core_sim.proofs.CorePorts.{is_core}
use Rattle.core_sim.proofs.HonestRuns.{run_is_over}
use Rattle.core_sim.proofs.run.run_tree.Goals as goal
use Rattle.core_sim.specs.Bench.{IsBench}
use Rattle.core_host.specs.Outside.{Appends, IsCut}
use Rattle.core_host.specs.declared.host.Port.TheVariants.{Main}
use Rattle.core_sim.specs.Ends.{end_of, run_text}
use Rattle.core_sim.specs.Joint.{joint_start, run_of}
use Rattle.std.proofs.Common.{◌∙◌, ap, subst}

pub new-requires-clause-core : goal.new-requires-clause-core
new-requires-clause-core g c = is_core c.args.checked.now.tree c.requires.checked.sound c.requires.ports

pub returns-in-Ok-run_cycles-clause-end : goal.returns-in-Ok-run_cycles-clause-end
returns-in-Ok-run_cycles-clause-end g c = c.in-Ok-run_cycles.ensures.end (plain_tree c.args.checked.now.tree) (zero_state (plain_tree c.args.checked.now.tree)) c.args.mem c.args.opts.now.delays
    (is_core c.args.checked.now.tree c.requires.checked.sound c.requires.ports)
    (subst (λ delays. IsBench (plain_tree c.args.checked.now.tree) (joint_start (zero_state (plain_tree c.args.checked.now.tree)) c.args.mem delays) c.in-Ok.bench) (c.as_slice.ensures.value ∙ c.items.ensures) c.in-Ok.ensures.bench)
    ∙ ap (λ l. end_of (run_of (plain_tree c.args.checked.now.tree) (zero_state (plain_tree c.args.checked.now.tree)) c.args.mem c.args.opts.now.delays (lines_of l)) c.args.opts.now.cycles) (c.as_slice-irqs.ensures.value ∙ c.items-2.ensures)

pub returns-in-Ok-run_cycles-clause-text : goal.returns-in-Ok-run_cycles-clause-text
returns-in-Ok-run_cycles-clause-text g c = subst (λ l. Appends (g.H.Host.pushed c.args.host.now Main) (run_text c.args.opts.now.trace (run_of (plain_tree c.args.checked.now.tree) (zero_state (plain_tree c.args.checked.now.tree)) c.args.mem c.args.opts.now.delays (lines_of l)) c.args.opts.now.cycles) (g.H.Host.pushed c.run_cycles.new.host Main)) (c.as_slice-irqs.ensures.value ∙ c.items-2.ensures)
    (c.in-Ok-run_cycles.ensures.whole (plain_tree c.args.checked.now.tree) (zero_state (plain_tree c.args.checked.now.tree)) c.args.mem c.args.opts.now.delays
    (is_core c.args.checked.now.tree c.requires.checked.sound c.requires.ports)
    (subst (λ delays. IsBench (plain_tree c.args.checked.now.tree) (joint_start (zero_state (plain_tree c.args.checked.now.tree)) c.args.mem delays) c.in-Ok.bench) (c.as_slice.ensures.value ∙ c.items.ensures) c.in-Ok.ensures.bench))

pub returns-in-Ok-run_cycles-clause-over : goal.returns-in-Ok-run_cycles-clause-over
returns-in-Ok-run_cycles-clause-over g c = λ ok. run_is_over c.args.checked.now.tree c.requires.checked.bounded c.requires.checked.sound c.requires.ports
    (zero_state (plain_tree c.args.checked.now.tree)) c.in-Ok.ensures.bench.shows.0 c.args.mem c.in-Ok.ensures.memory c.args.opts.now.delays (lines_of c.args.opts.now.irqs)

pub returns-clause-cut : goal.returns-clause-cut
returns-clause-cut g c = λ fault. subst (λ l. IsCut (g.H.Host.pushed c.args.host.now Main) (run_text c.args.opts.now.trace (run_of (plain_tree c.args.checked.now.tree) (zero_state (plain_tree c.args.checked.now.tree)) c.args.mem c.args.opts.now.delays (lines_of l)) c.args.opts.now.cycles) (g.H.Host.pushed c.run_cycles.new.host Main)) (c.as_slice-irqs.ensures.value ∙ c.items-2.ensures)
    (c.in-Err-run_cycles.ensures.part (plain_tree c.args.checked.now.tree) (zero_state (plain_tree c.args.checked.now.tree)) c.args.mem c.args.opts.now.delays
    (is_core c.args.checked.now.tree c.requires.checked.sound c.requires.ports)
    (subst (λ delays. IsBench (plain_tree c.args.checked.now.tree) (joint_start (zero_state (plain_tree c.args.checked.now.tree)) c.args.mem delays) c.in-Ok.bench) (c.as_slice.ensures.value ∙ c.items.ensures) c.in-Ok.ensures.bench))

pub returns-clause-over : goal.returns-clause-over
returns-clause-over g c = λ ok. run_is_over c.args.checked.now.tree c.requires.checked.bounded c.requires.checked.sound c.requires.ports
    (zero_state (plain_tree c.args.checked.now.tree)) c.in-Ok.ensures.bench.shows.0 c.args.mem c.in-Ok.ensures.memory c.args.opts.now.delays (lines_of c.args.opts.now.irqs)

pub run_cycles-requires-clause-empty : goal.run_cycles-requires-clause-empty
run_cycles-requires-clause-empty g c = c.in-Ok-with_room.ensures.empty c.args.opts.now.trace
