-- The part in equations over numbers: each operand over the stages behind decode, and whether the item waits.
use Rattle.std.specs.Prelude.{ℕ, zero, suc, Bool, true, false, eqb, List, [], ◌∷◌, bit_and, bit_or}
use Rattle.core_words.specs.Values.{one_if, choose, not_of}

-- what a stage shows of its item: it writes register rd, its result is there, and the result
pub record Told : Type 0 where
  pub writes : ℕ
  pub rd : ℕ
  pub ready : ℕ
  pub value : ℕ

-- an operand, and 1 where it cannot be had yet
pub record Chosen : Type 0 where
  pub value : ℕ
  pub bad : ℕ

-- 1 for a register other than 0
unfoldable pub is_register_of : (r : ℕ) → ℕ
is_register_of r = not_of 1 (one_if (eqb r 0))

-- 1 where the stage writes the register
unfoldable pub hit_of : (r : ℕ) → Told → ℕ
hit_of r s = bit_and (bit_and s.writes (one_if (eqb s.rd r))) (is_register_of r)

-- 1 where the stage's result is not there, or not used
abbrev pub missing_of : (is_bypassed : Bool) → Told → ℕ
missing_of true s = not_of 1 s.ready
missing_of false s = 1

-- the operand with one stage more, which is younger
unfoldable pub after : (r : ℕ) (is_bypassed : Bool) → Told → Chosen → Chosen
after r is_bypassed s below = record { value = choose (hit_of r s) s.value below.value; bad = choose (hit_of r s) (missing_of is_bypassed s) below.bad }

-- the operand over stages, the youngest first; plain is what the registers say
unfoldable pub chosen_of : (r : ℕ) (bypassed : ℕ → Bool) → List Told → (plain : ℕ) → Chosen
chosen_of r bypassed [] plain = record { value = plain; bad = 0 }
chosen_of r bypassed (s ∷ rest) plain = after r (bypassed 0) s (chosen_of r (λ i. bypassed (suc i)) rest plain)

-- 1 where an operand in use cannot be had
unfoldable pub hold_of : (uses_a bad_a uses_b bad_b : ℕ) → ℕ
hold_of uses_a bad_a uses_b bad_b = bit_or (bit_and uses_a bad_a) (bit_and uses_b bad_b)

-- one of three by its place
abbrev pub three : {A : Type 0} → A → A → A → ℕ → A
three a b c zero = a
three a b c (suc zero) = b
three a b c (suc (suc k)) = c
