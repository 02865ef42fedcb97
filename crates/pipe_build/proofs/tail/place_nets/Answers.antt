use Rattle.std.proofs.Common.{Bool, arith, refl, subst, sym}
use Rattle.hw_module.specs.Scope.{scope_of}
use Rattle.pipe_build.specs.Late.{BearsStage, stage_at}
use Rattle.pipe_build.proofs.Bears.{bears_as, bears_lit, bears_on}
use Rattle.pipe_build.proofs.tail.place_nets.Goals as goal

pub returns-then-there-clause-stage : goal.returns-then-there-clause-stage
returns-then-there-clause-stage c =
    let late = c.late_nets-late.ensures.late in
    let step = c.lit-ready.ensures.step in
    subst (λ (there : Bool). BearsStage (scope_of c.args.m.now) c.lit-ready.new.pool (stage_at there c.args.reg)
    (record { writes = c.late_nets-late.result.writes; rd = c.late_nets-late.result.rd; ready = c.lit-ready.result; value = c.late_nets-late.result.value })) (sym c.if-there.true)
    (record {
      writes = bears_as refl (omega arith) (bears_on step late.writes);
      rd = bears_as refl (omega arith) (bears_on step late.rd);
      ready = bears_lit 1 c.lit-ready.ensures.net c.lit-ready.ensures.width c.lit-ready.ensures.level c.lit-ready.ensures.scope c.lit-ready.ensures.value;
      value = bears_as refl (omega arith) (bears_on step late.value);
    })
