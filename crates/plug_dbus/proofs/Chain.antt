-- Registers that are made, or given their next values, in two steps.
use Rattle.std.proofs.Common.{◌≡◌, ◌∙◌, ℕ, ◌+◌, subst, arith}
use Rattle.hw_module.specs.declared.rows.Owner.TheVariants.{Entry}
use Rattle.hw_module.specs.Rights.{Makes, Rights}
use Rattle.hw_module.proofs.Makes.{makes_then}
use Rattle.plug_build.specs.World.{BuilderValue}
use Rattle.plug_dbus.specs.Registers.{MakesRegs, MovesRegs}

pub regs_then : (m n total : ℕ) (a b c : BuilderValue) → MakesRegs m a b → MakesRegs n b c → m + n ≡ total → MakesRegs total a c
regs_then m n total a b c f g sum = record {
  entry = g.entry ∙ f.entry;
  wires = g.wires ∙ f.wires;
  arrays = g.arrays ∙ f.arrays;
  outs = g.outs ∙ f.outs;
  count = omega (arith, f.count, g.count, sum);
  before = λ k h. g.before k (omega (arith, f.count, h)) ∙ f.before k h;
  room = omega (arith, f.room, g.room, sum);
  makes = λ r. makes_then (Entry a.entry) r a.design b.design c.design m n total (f.makes r)
      (subst (λ (e : ℕ). Makes (Entry e) r b.design c.design n) f.entry (g.makes r)) (omega (arith, sum));
  drivers = λ pool d. g.drivers pool (f.drivers pool d);
}

pub moves_then : (m n total : ℕ) (a b c : BuilderValue) → MovesRegs m a b → MovesRegs n b c → m + n ≡ total → MovesRegs total a c
moves_then m n total a b c f g sum = record {
  entry = g.entry ∙ f.entry;
  wires = g.wires ∙ f.wires;
  arrays = g.arrays ∙ f.arrays;
  outs = g.outs ∙ f.outs;
  count = g.count ∙ f.count;
  room = omega (arith, f.room, g.room, sum);
  makes = λ r. makes_then (Entry a.entry) r a.design b.design c.design m n total (f.makes r)
      (subst (λ (e : ℕ). Makes (Entry e) r b.design c.design n) f.entry (g.makes r)) (omega (arith, sum));
  scope = g.scope ∙ f.scope;
}

-- outputs that are driven in two steps
pub outs_then : (m n total : ℕ) (r : Rights) (a b c : BuilderValue) → Makes (Entry a.entry) r a.design b.design m → b.entry ≡ a.entry
    → Makes (Entry b.entry) r b.design c.design n → m + n ≡ total → Makes (Entry a.entry) r a.design c.design total
outs_then m n total r a b c f same g sum =
    makes_then (Entry a.entry) r a.design b.design c.design m n total f (subst (λ (e : ℕ). Makes (Entry e) r b.design c.design n) same g) (omega (arith, sum))
