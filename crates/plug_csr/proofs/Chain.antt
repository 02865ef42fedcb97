-- Registers that are made in two steps.
use Rattle.std.proofs.Common.{◌≡◌, ◌∙◌, ℕ, ◌+◌, subst, arith}
use Rattle.hw_module.specs.declared.rows.Owner.TheVariants.{Entry}
use Rattle.hw_module.specs.Rights.{Makes}
use Rattle.hw_module.proofs.Makes.{makes_then}
use Rattle.plug_build.specs.World.{BuilderValue}
use Rattle.plug_csr.specs.Registers.{MakesRegs}

pub regs_then : (m n total : ℕ) (a b c : BuilderValue) → MakesRegs m a b → MakesRegs n b c → m + n ≡ total → MakesRegs total a c
regs_then m n total a b c f g sum = record {
  entry = g.entry ∙ f.entry;
  wires = g.wires ∙ f.wires;
  arrays = g.arrays ∙ f.arrays;
  outs = g.outs ∙ f.outs;
  count = omega (arith, f.count, g.count, sum);
  before = λ k h. g.before k (omega (arith, f.count, h)) ∙ f.before k h;
  room = omega (arith, f.room, g.room, sum);
  makes = λ r. makes_then (Entry a.entry) r a.design b.design c.design m n total (f.makes r)
      (subst (λ (e : ℕ). Makes (Entry e) r b.design c.design n) f.entry (g.makes r)) (omega (arith, sum));
  drivers = λ pool d. g.drivers pool (f.drivers pool d);
}
