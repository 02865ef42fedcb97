-- What belongs to whom while several owners build one module.
use Rattle.std.specs.Prelude.{◌≡◌, ℕ, ◌<◌, ◌≤◌, Bool, false, true, ◌⊎◌, length}
use Rattle.hw_module.specs.declared.rows.Owner.{Owner}
use Rattle.hw_module.specs.Rows.{ModuleValue, wire_at, reg_at, array_at, out_at}
use Rattle.hw_module.specs.Frame.{Grows}

-- The forward wires that an owner may drive besides its own, those of its own that it may not, and the outputs that it
-- may drive, by their numbers.
pub record Rights : Type 0 where
  pub wires : ℕ → Bool
  pub locked : ℕ → Bool
  pub outs : ℕ → Bool

-- a forward wire of this owner that `by` may drive
abbrev pub MayDrive : (by : Owner) (r : Rights) (owner : Owner) (wire : ℕ) → Type 0
MayDrive by r owner wire = ((owner ≡ by) × (r.locked wire ≡ false)) ⊎ (r.wires wire ≡ true)

-- An owner adds at most n things and drivers to a module within its rights: what is new is its own, and no row of
-- another's, no locked wire and no output changes, the rights aside.
pub record Makes (by : Owner) (r : Rights) (old new : ModuleValue) (n : ℕ) : Type 0 where
  pub grows : Grows old new n
  pub wires : (k : ℕ) → k < length old.wires → ((wire_at old.wires k).owner ≡ by → ⊥) → r.wires k ≡ false → wire_at new.wires k ≡ wire_at old.wires k
  pub locked : (k : ℕ) → k < length old.wires → r.locked k ≡ true → r.wires k ≡ false → wire_at new.wires k ≡ wire_at old.wires k
  pub regs : (k : ℕ) → k < length old.regs → ((reg_at old.regs k).owner ≡ by → ⊥) → reg_at new.regs k ≡ reg_at old.regs k
  pub arrays : (k : ℕ) → k < length old.arrays → ((array_at old.arrays k).owner ≡ by → ⊥) → array_at new.arrays k ≡ array_at old.arrays k
  pub outs : (p : ℕ) → r.outs p ≡ false → out_at new.outs p ≡ out_at old.outs p
  pub new_wires : (k : ℕ) → length old.wires ≤ k → k < length new.wires → (wire_at new.wires k).owner ≡ by
  pub new_regs : (k : ℕ) → length old.regs ≤ k → k < length new.regs → (reg_at new.regs k).owner ≡ by
  pub new_arrays : (k : ℕ) → length old.arrays ≤ k → k < length new.arrays → (array_at new.arrays k).owner ≡ by
