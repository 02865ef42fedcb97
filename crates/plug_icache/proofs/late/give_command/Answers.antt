use Rattle.std.proofs.Common.{ℕ, subst, arith}
use Rattle.hw_module.specs.declared.rows.Owner.TheVariants.{Entry}
use Rattle.hw_module.specs.Rights.{Makes}
use Rattle.hw_module.proofs.Makes.{makes_then}
use Rattle.plug_icache.proofs.late.give_command.Goals as goal

pub returns-clause-makes : goal.returns-clause-makes
returns-clause-makes c = λ r two four.
    makes_then (Entry c.args.b.now.entry) r c.args.b.now.design c.output.new.self.design c.output-2.new.self.design 1 1 2 (c.output.ensures.makes r two)
    (subst (λ (e : ℕ). Makes (Entry e) r c.output.new.self.design c.output-2.new.self.design 1) c.output.ensures.entry (c.output-2.ensures.makes r four)) (omega arith)
