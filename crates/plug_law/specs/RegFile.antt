-- The law of RegFile: 32 registers, read in the same cycle and written at a cycle's end.
use Rattle.std.specs.Prelude.{◌≡◌, ℕ, zero, suc, Bool, cond, List, set}
use Rattle.isa_model.specs.Machine.{register}

pub record RegSignals : Type 0 where
  -- the registers that are read
  pub ra : ℕ → ℕ
  pub rb : ℕ → ℕ
  -- a write: whether there is one, the register and the value
  pub we : ℕ → Bool
  pub wa : ℕ → ℕ
  pub wd : ℕ → ℕ
  -- the values that are read
  pub a : ℕ → ℕ
  pub b : ℕ → ℕ

-- the registers as a cycle begins, from those of the part's start; a write in cycle 0 counts too
unfoldable pub regs_at : RegSignals → (start : List ℕ) → ℕ → List ℕ
regs_at r start zero = start
regs_at r start (suc t) = cond (r.we t) (set (regs_at r start t) (r.wa t) (r.wd t)) (regs_at r start t)

-- register 0 reads 0; a write is read from the next cycle on
pub record RegLaw (r : RegSignals) (start : List ℕ) : Type 0 where
  pub a : (t : ℕ) → r.a t ≡ register (regs_at r start t) (r.ra t)
  pub b : (t : ℕ) → r.b t ≡ register (regs_at r start t) (r.rb t)
