use Rattle.std.proofs.Common.{◌∙◌, Bool, cond, subst, sym}
use Rattle.pipe_nets.specs.Unit.{go_of}
use Rattle.pipe_build.specs.Bears.{Bears}
use Rattle.pipe_build.proofs.Bears.{bears_2}
use Rattle.pipe_build.proofs.unit.go_driver.Goals as goal

pub returns-then-commits-clause-bears : goal.returns-then-commits-clause-bears
returns-then-commits-clause-bears c = λ s p take u is nets own.
    subst (λ (b : Bool). Bears s c.goes.new.pool 1 3 (λ env. go_of (cond b (env.wires p.wires.run) (env.regs p.own.valid)) (env.regs u.chosen)) c.goes.result) (sym (is ∙ c.if-commits.true))
    (bears_2 go_of nets.known.wires.run own c.goes.ensures.net c.goes.ensures.scope c.goes.ensures.value_is)

pub returns-else-commits-clause-bears : goal.returns-else-commits-clause-bears
returns-else-commits-clause-bears c = λ s p take u is nets own.
    subst (λ (b : Bool). Bears s c.goes-else-commits.new.pool 1 3 (λ env. go_of (cond b (env.wires p.wires.run) (env.regs p.own.valid)) (env.regs u.chosen)) c.goes-else-commits.result) (sym (is ∙ c.if-commits.false))
    (bears_2 go_of nets.known.regs.valid own c.goes-else-commits.ensures.net c.goes-else-commits.ensures.scope c.goes-else-commits.ensures.value_is)
