use Rattle.std.proofs.Common.{◌+◌, ◌*◌, List, length, map, arith, subst, sym}
use Rattle.hw_gates.proofs.Steps.{◌▸◌, step_as}
use Rattle.hw_module.specs.Scope.{scope_of}
use Rattle.pipe_nets.specs.Picks.{gathered}
use Rattle.pipe_steps.specs.Equations.{any_of}
use Rattle.pipe_steps.specs.Things.{PipeUnit}
use Rattle.pipe_steps.specs.Values.{out_of}
use Rattle.pipe_build.specs.Bears.{Bears}
use Rattle.pipe_build.proofs.Bears.{bears_on}
use Rattle.pipe_build.proofs.UnitOuts.{execs_on}
use Rattle.pipe_build.proofs.units.unit_nets.Goals as goal

pub any_done-done-requires-clause-execs : goal.any_done-done-requires-clause-execs
any_done-done-requires-clause-execs c = (scope_of c.args.m.now, c.requires.execs.0, c.requires.execs.1)

pub gather_units-value-requires-clause-execs : goal.gather_units-value-requires-clause-execs
gather_units-value-requires-clause-execs c = (c.requires.execs.0, execs_on (scope_of c.args.m.now) c.requires.execs.0 (c.any_done-done.ensures.step) c.args.execs.now c.requires.execs.1)

pub gather_units-value-requires-clause-spare : goal.gather_units-value-requires-clause-spare
gather_units-value-requires-clause-spare c = omega (arith, c.requires.spare, c.any_done-done.ensures.step.spare)

pub gather_units-next_pc-requires-clause-execs : goal.gather_units-next_pc-requires-clause-execs
gather_units-next_pc-requires-clause-execs c = (c.requires.execs.0, execs_on (scope_of c.args.m.now) c.requires.execs.0 (c.any_done-done.ensures.step ▸ c.gather_units-value.ensures.step) c.args.execs.now c.requires.execs.1)

pub gather_units-next_pc-requires-clause-spare : goal.gather_units-next_pc-requires-clause-spare
gather_units-next_pc-requires-clause-spare c = omega (arith, c.requires.spare, c.any_done-done.ensures.step.spare, c.gather_units-value.ensures.step.spare)

pub gather_units-trap-requires-clause-execs : goal.gather_units-trap-requires-clause-execs
gather_units-trap-requires-clause-execs c = (c.requires.execs.0, execs_on (scope_of c.args.m.now) c.requires.execs.0 (c.any_done-done.ensures.step ▸ c.gather_units-value.ensures.step ▸ c.gather_units-next_pc.ensures.step) c.args.execs.now c.requires.execs.1)

pub gather_units-trap-requires-clause-spare : goal.gather_units-trap-requires-clause-spare
gather_units-trap-requires-clause-spare c = omega (arith, c.requires.spare, c.any_done-done.ensures.step.spare, c.gather_units-value.ensures.step.spare, c.gather_units-next_pc.ensures.step.spare)

pub gather_units-cause-requires-clause-execs : goal.gather_units-cause-requires-clause-execs
gather_units-cause-requires-clause-execs c = (c.requires.execs.0, execs_on (scope_of c.args.m.now) c.requires.execs.0 (c.any_done-done.ensures.step ▸ c.gather_units-value.ensures.step ▸ c.gather_units-next_pc.ensures.step ▸ c.gather_units-trap.ensures.step) c.args.execs.now c.requires.execs.1)

pub gather_units-cause-requires-clause-spare : goal.gather_units-cause-requires-clause-spare
gather_units-cause-requires-clause-spare c = omega (arith, c.requires.spare, c.any_done-done.ensures.step.spare, c.gather_units-value.ensures.step.spare, c.gather_units-next_pc.ensures.step.spare, c.gather_units-trap.ensures.step.spare)

pub gather_units-tval-requires-clause-execs : goal.gather_units-tval-requires-clause-execs
gather_units-tval-requires-clause-execs c = (c.requires.execs.0, execs_on (scope_of c.args.m.now) c.requires.execs.0 (c.any_done-done.ensures.step ▸ c.gather_units-value.ensures.step ▸ c.gather_units-next_pc.ensures.step ▸ c.gather_units-trap.ensures.step ▸ c.gather_units-cause.ensures.step) c.args.execs.now c.requires.execs.1)

pub gather_units-tval-requires-clause-spare : goal.gather_units-tval-requires-clause-spare
gather_units-tval-requires-clause-spare c = omega (arith, c.requires.spare, c.any_done-done.ensures.step.spare, c.gather_units-value.ensures.step.spare, c.gather_units-next_pc.ensures.step.spare, c.gather_units-trap.ensures.step.spare, c.gather_units-cause.ensures.step.spare)

pub gather_units-fence-requires-clause-execs : goal.gather_units-fence-requires-clause-execs
gather_units-fence-requires-clause-execs c = (c.requires.execs.0, execs_on (scope_of c.args.m.now) c.requires.execs.0 (c.any_done-done.ensures.step ▸ c.gather_units-value.ensures.step ▸ c.gather_units-next_pc.ensures.step ▸ c.gather_units-trap.ensures.step ▸ c.gather_units-cause.ensures.step ▸ c.gather_units-tval.ensures.step) c.args.execs.now c.requires.execs.1)

pub gather_units-fence-requires-clause-spare : goal.gather_units-fence-requires-clause-spare
gather_units-fence-requires-clause-spare c = omega (arith, c.requires.spare, c.any_done-done.ensures.step.spare, c.gather_units-value.ensures.step.spare, c.gather_units-next_pc.ensures.step.spare, c.gather_units-trap.ensures.step.spare, c.gather_units-cause.ensures.step.spare, c.gather_units-tval.ensures.step.spare)

pub returns-clause-units : goal.returns-clause-units
returns-clause-units c = λ nodes p is are.
    let s = scope_of c.args.m.now in
    record {
      done = bears_on (c.gather_units-value.ensures.step ▸ c.gather_units-next_pc.ensures.step ▸ c.gather_units-trap.ensures.step ▸ c.gather_units-cause.ensures.step ▸ c.gather_units-tval.ensures.step ▸ c.gather_units-fence.ensures.step) (subst (λ (us : List PipeUnit). Bears s c.any_done-done.new.pool 1 4 (λ env. any_of (map (λ (u : PipeUnit). out_of env u.ports 0) us)) c.any_done-done.result) (sym is) (c.any_done-done.ensures.bears s nodes are));
      value = bears_on (c.gather_units-next_pc.ensures.step ▸ c.gather_units-trap.ensures.step ▸ c.gather_units-cause.ensures.step ▸ c.gather_units-tval.ensures.step ▸ c.gather_units-fence.ensures.step) (subst (λ (us : List PipeUnit). Bears s c.gather_units-value.new.pool 32 4 (λ env. gathered (map (λ (u : PipeUnit). (env.regs u.chosen, out_of env u.ports 1)) us)) c.gather_units-value.result) (sym is) (c.gather_units-value.ensures.bears nodes (execs_on s nodes (c.any_done-done.ensures.step) c.args.execs.now are)));
      next_pc = bears_on (c.gather_units-trap.ensures.step ▸ c.gather_units-cause.ensures.step ▸ c.gather_units-tval.ensures.step ▸ c.gather_units-fence.ensures.step) (subst (λ (us : List PipeUnit). Bears s c.gather_units-next_pc.new.pool 32 4 (λ env. gathered (map (λ (u : PipeUnit). (env.regs u.chosen, out_of env u.ports 2)) us)) c.gather_units-next_pc.result) (sym is) (c.gather_units-next_pc.ensures.bears nodes (execs_on s nodes (c.any_done-done.ensures.step ▸ c.gather_units-value.ensures.step) c.args.execs.now are)));
      trap = bears_on (c.gather_units-cause.ensures.step ▸ c.gather_units-tval.ensures.step ▸ c.gather_units-fence.ensures.step) (subst (λ (us : List PipeUnit). Bears s c.gather_units-trap.new.pool 1 4 (λ env. gathered (map (λ (u : PipeUnit). (env.regs u.chosen, out_of env u.ports 3)) us)) c.gather_units-trap.result) (sym is) (c.gather_units-trap.ensures.bears nodes (execs_on s nodes (c.any_done-done.ensures.step ▸ c.gather_units-value.ensures.step ▸ c.gather_units-next_pc.ensures.step) c.args.execs.now are)));
      cause = bears_on (c.gather_units-tval.ensures.step ▸ c.gather_units-fence.ensures.step) (subst (λ (us : List PipeUnit). Bears s c.gather_units-cause.new.pool 32 4 (λ env. gathered (map (λ (u : PipeUnit). (env.regs u.chosen, out_of env u.ports 4)) us)) c.gather_units-cause.result) (sym is) (c.gather_units-cause.ensures.bears nodes (execs_on s nodes (c.any_done-done.ensures.step ▸ c.gather_units-value.ensures.step ▸ c.gather_units-next_pc.ensures.step ▸ c.gather_units-trap.ensures.step) c.args.execs.now are)));
      tval = bears_on c.gather_units-fence.ensures.step (subst (λ (us : List PipeUnit). Bears s c.gather_units-tval.new.pool 32 4 (λ env. gathered (map (λ (u : PipeUnit). (env.regs u.chosen, out_of env u.ports 5)) us)) c.gather_units-tval.result) (sym is) (c.gather_units-tval.ensures.bears nodes (execs_on s nodes (c.any_done-done.ensures.step ▸ c.gather_units-value.ensures.step ▸ c.gather_units-next_pc.ensures.step ▸ c.gather_units-trap.ensures.step ▸ c.gather_units-cause.ensures.step) c.args.execs.now are)));
      fence = subst (λ (us : List PipeUnit). Bears s c.gather_units-fence.new.pool 1 4 (λ env. gathered (map (λ (u : PipeUnit). (env.regs u.chosen, out_of env u.ports 6)) us)) c.gather_units-fence.result) (sym is) (c.gather_units-fence.ensures.bears nodes (execs_on s nodes (c.any_done-done.ensures.step ▸ c.gather_units-value.ensures.step ▸ c.gather_units-next_pc.ensures.step ▸ c.gather_units-trap.ensures.step ▸ c.gather_units-cause.ensures.step ▸ c.gather_units-tval.ensures.step) c.args.execs.now are));
    }

pub returns-clause-step : goal.returns-clause-step
returns-clause-step c =
    let all = c.any_done-done.ensures.step ▸ c.gather_units-value.ensures.step ▸ c.gather_units-next_pc.ensures.step ▸ c.gather_units-trap.ensures.step ▸ c.gather_units-cause.ensures.step ▸ c.gather_units-tval.ensures.step ▸ c.gather_units-fence.ensures.step in
    step_as _ _ _ (25 * length c.args.execs.now + 7) (omega arith) all
