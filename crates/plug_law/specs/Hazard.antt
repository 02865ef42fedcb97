-- The law of Hazard: the operands of an item, from the results ahead of it that are not in the registers yet, and whether the
-- item has to wait for one.
use Rattle.std.specs.Prelude.{◌≡◌, ℕ, suc, Bool, true, false, cond, not, eqb, List, [], ◌∷◌, ◌&&◌, ◌||◌, Option, Some, None}
use Rattle.plug_law.specs.RegFile.{RegSignals}

-- what a stage behind decode shows of its item
pub record Ahead : Type 0 where
  -- it writes register rd, its result is there, and the result
  pub writes : Bool
  pub rd : ℕ
  pub ready : Bool
  pub value : ℕ

pub record HazardSignals : Type 0 where
  -- three stages, the nearest and so the youngest first
  pub stages : ℕ → List Ahead
  -- the registers of the item in decode, and whether it uses them
  pub ra : ℕ → ℕ
  pub rb : ℕ → ℕ
  pub uses_a : ℕ → Bool
  pub uses_b : ℕ → Bool
  -- the item waits; if it does not, its operands
  pub hold : ℕ → Bool
  pub a : ℕ → ℕ
  pub b : ℕ → ℕ

-- the youngest writer of a register other than 0; its result is there only where its stage is bypassed
abbrev pub writer : (bypassed : ℕ → Bool) → List Ahead → ℕ → Option Ahead
writer bypassed [] r = None
writer bypassed (s ∷ rest) r =
    cond (s.writes && (eqb s.rd r && not (eqb r 0))) (Some (record s { ready = s.ready && bypassed 0 })) (writer (λ i. bypassed (suc i)) rest r)

-- there is one, and its result is not there
abbrev pub waits_for : Option Ahead → Bool
waits_for None = false
waits_for (Some s) = not s.ready

-- its result, or what the registers say
abbrev pub value_or : Option Ahead → ℕ → ℕ
value_or None plain = plain
value_or (Some s) plain = s.value

-- bypassed names the stages whose results are used before they are in the registers, by their place from decode on
pub record HazardLaw (bypassed : ℕ → Bool) (h : HazardSignals) (r : RegSignals) : Type 0 where
  -- an item waits exactly where it uses a register whose youngest writer has no result
  pub hold : (t : ℕ) → h.hold (suc t)
      ≡ ((h.uses_a (suc t) && waits_for (writer bypassed (h.stages (suc t)) (h.ra (suc t)))) || (h.uses_b (suc t) && waits_for (writer bypassed (h.stages (suc t)) (h.rb (suc t)))))
  -- an operand that is used is the youngest writer's result, or else the register's value
  pub a : (t : ℕ) → h.hold (suc t) ≡ false → h.uses_a (suc t) ≡ true → h.a (suc t) ≡ value_or (writer bypassed (h.stages (suc t)) (h.ra (suc t))) (r.a (suc t))
  pub b : (t : ℕ) → h.hold (suc t) ≡ false → h.uses_b (suc t) ≡ true → h.b (suc t) ≡ value_or (writer bypassed (h.stages (suc t)) (h.rb (suc t))) (r.b (suc t))
