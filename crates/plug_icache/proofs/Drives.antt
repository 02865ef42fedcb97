-- Registers that are driven, one step behind the other.
use Rattle.std.proofs.Common.{◌≡◌, ◌∙◌, ℕ, ◌+◌, cond, length, ltb, arith, ap, sym, subst, refl, inl, inr, Some, None}
use Rattle.std.proofs.lemmas.Bool.{cases_eq}
use Rattle.hw_module.specs.declared.rows.Owner.TheVariants.{Entry}
use Rattle.hw_module.specs.declared.rows.RegRow.{RegRow}
use Rattle.hw_module.specs.Rows.{ModuleValue, wire_at, reg_at, array_at}
use Rattle.hw_module.specs.Rights.{Makes}
use Rattle.hw_module.specs.Scope.{scope_of, input_width}
use Rattle.hw_module.proofs.Makes.{makes_nothing, makes_then}
use Rattle.hw_expr.specs.declared.net.Net.{Net}
use Rattle.plug_build.specs.World.{BuilderValue}
use Rattle.plug_icache.specs.Registers.{Drives, MakesRegs}

-- a scope stays where only next values of registers change
pub scope_same : (old new : ModuleValue) → new.wires ≡ old.wires → new.arrays ≡ old.arrays → length new.regs ≡ length old.regs
    → ((k : ℕ) → (reg_at new.regs k).width ≡ (reg_at old.regs k).width) → scope_of new ≡ scope_of old
unfolding scope_of
scope_same old new wires arrays count width = λ i. record {
  inputs = input_width;
  wires = λ k. cond (ltb k (length (wires i))) (Some ((wire_at (wires i) k).width, (wire_at (wires i) k).level)) None;
  regs = λ k. cond (ltb k (count i)) (Some (width k i)) None;
  arrays = λ k. cond (ltb k (length (arrays i))) (Some ((array_at (arrays i) k).width, (array_at (arrays i) k).bits)) None;
}

pub width_same : (old new : ModuleValue) (reg : ℕ) (net : Net) → reg_at new.regs reg ≡ record (reg_at old.regs reg) { next = Some net }
    → ((k : ℕ) → (k ≡ reg → ⊥) → reg_at new.regs k ≡ reg_at old.regs k) → (k : ℕ) → (reg_at new.regs k).width ≡ (reg_at old.regs k).width
width_same old new reg net driven others k = elim (cases_eq k reg) [
  | inl same ↦
      ap (λ (j : ℕ). (reg_at new.regs j).width) same ∙ (ap (λ (row : RegRow). row.width) driven ∙ ap (λ (j : ℕ). (reg_at old.regs j).width) (sym same))
  | inr other ↦ ap (λ (row : RegRow). row.width) (others k other)
]

pub drives_then : (a b c : BuilderValue) (m n total : ℕ) → Drives m a b → Drives n b c → m + n ≡ total → Drives total a c
drives_then a b c m n total first second sum = record {
  entry = second.entry ∙ first.entry;
  wires = second.wires ∙ first.wires;
  arrays = second.arrays ∙ first.arrays;
  outs = second.outs ∙ first.outs;
  count = second.count ∙ first.count;
  room = omega (arith, first.room, second.room);
  makes = λ r. makes_then (Entry a.entry) r a.design b.design c.design m n total (first.makes r)
      (subst (λ (e : ℕ). Makes (Entry e) r b.design c.design n) first.entry (second.makes r)) (omega arith);
  scope = second.scope ∙ first.scope;
}

pub drives_none : (a : BuilderValue) → Drives 0 a a
drives_none a = record {
  entry = refl;
  wires = refl;
  arrays = refl;
  outs = refl;
  count = refl;
  room = omega arith;
  makes = λ r. makes_nothing (Entry a.entry) r a.design;
  scope = refl;
}

-- ---- registers that are made

pub regs_none : (a : BuilderValue) → MakesRegs 0 a a
regs_none a = record {
  entry = refl;
  wires = refl;
  arrays = refl;
  outs = refl;
  count = omega arith;
  before = λ k l. refl;
  room = omega arith;
  makes = λ r. makes_nothing (Entry a.entry) r a.design;
  drivers = λ pool h. h;
}

pub regs_then : (a b c : BuilderValue) (m n total : ℕ) → MakesRegs m a b → MakesRegs n b c → m + n ≡ total → MakesRegs total a c
regs_then a b c m n total first second sum = record {
  entry = second.entry ∙ first.entry;
  wires = second.wires ∙ first.wires;
  arrays = second.arrays ∙ first.arrays;
  outs = second.outs ∙ first.outs;
  count = omega (arith, first.count, second.count);
  before = λ k l. second.before k (omega (arith, first.count)) ∙ first.before k l;
  room = omega (arith, first.room, second.room);
  makes = λ r. makes_then (Entry a.entry) r a.design b.design c.design m n total (first.makes r)
      (subst (λ (e : ℕ). Makes (Entry e) r b.design c.design n) first.entry (second.makes r)) (omega arith);
  drivers = λ pool h. second.drivers pool (first.drivers pool h);
}

-- four steps
pub regs_four : (a b c d e : BuilderValue) → MakesRegs 1 a b → MakesRegs 1 b c → MakesRegs 1 c d → MakesRegs 1 d e → MakesRegs 4 a e
regs_four a b c d e first second third fourth =
    regs_then a d e 3 1 4 (regs_then a c d 2 1 3 (regs_then a b c 1 1 2 first second (omega arith)) third (omega arith)) fourth (omega arith)

pub drives_four : (a b c d e : BuilderValue) → Drives 1 a b → Drives 1 b c → Drives 1 c d → Drives 1 d e → Drives 4 a e
drives_four a b c d e first second third fourth =
    drives_then a d e 3 1 4 (drives_then a c d 2 1 3 (drives_then a b c 1 1 2 first second (omega arith)) third (omega arith)) fourth (omega arith)
