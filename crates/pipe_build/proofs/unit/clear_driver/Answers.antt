use Rattle.std.proofs.Common.{◌∙◌, Bool, cond, subst, sym}
use Rattle.pipe_nets.specs.Unit.{clear_of}
use Rattle.pipe_build.specs.Bears.{Bears}
use Rattle.pipe_build.proofs.Bears.{bears_2, bears_lit}
use Rattle.pipe_build.proofs.unit.clear_driver.Goals as goal

pub returns-then-commits-clause-bears : goal.returns-then-commits-clause-bears
returns-then-commits-clause-bears c = λ s p take u is nets.
    subst (λ (b : Bool). Bears s c.lit.new.pool 1 2 (λ env. cond b 0 (clear_of (env.wires p.wires.kill) (env.wires p.wires.irq))) c.lit.result) (sym (is ∙ c.if-commits.true))
    (bears_lit 0 c.lit.ensures.net c.lit.ensures.width c.lit.ensures.level c.lit.ensures.scope c.lit.ensures.value)

pub returns-else-commits-clause-bears : goal.returns-else-commits-clause-bears
returns-else-commits-clause-bears c = λ s p take u is nets.
    subst (λ (b : Bool). Bears s c.clears.new.pool 1 2 (λ env. cond b 0 (clear_of (env.wires p.wires.kill) (env.wires p.wires.irq))) c.clears.result) (sym (is ∙ c.if-commits.false))
    (bears_2 clear_of nets.known.wires.kill nets.known.wires.irq c.clears.ensures.net c.clears.ensures.scope c.clears.ensures.value_is)
