-- Units that may work for several cycles on an instruction and never trap: what they do in each cycle, by the word, the operands and
-- their registers, and when an instruction ends.
use Rattle.std.specs.Prelude.{◌≡◌, ℕ, zero, suc, ◌<◌, List, length}

-- One cycle of a unit. `working` is 1 where the instruction was given in an earlier cycle, and `held` is what the registers hold.
pub record Machine : Type 0 where
  -- 1 in the last cycle of an instruction
  pub ends : (word a b working : ℕ) (held : List ℕ) → ℕ
  -- the value that the unit shows then
  pub value : (word a b working : ℕ) (held : List ℕ) → ℕ
  -- what the registers hold behind the cycle
  pub next : (word a b working : ℕ) (held : List ℕ) → List ℕ

-- it has so many registers, whatever it does
abbrev pub HasRegisters : Machine → ℕ → Type 0
HasRegisters m count = (word a b working : ℕ) (held : List ℕ) → length (m.next word a b working held) ≡ count

-- Cycles of an instruction are counted from 0: 1 in each but the first.
abbrev pub is_later : (cycle : ℕ) → ℕ
is_later zero = 0
is_later (suc n) = 1

-- what the registers hold as a cycle begins, where they held `held` as the first one began, and the word and the operands stand
unfoldable pub held_at : Machine → (word a b : ℕ) → (held : List ℕ) → (cycle : ℕ) → List ℕ
held_at m word a b held zero = held
held_at m word a b held (suc n) = m.next word a b (is_later n) (held_at m word a b held n)

-- an instruction whose word and operands stand ends in the cycle `last` and in none before, with this value
pub record EndsIn (m : Machine) (word a b : ℕ) (held : List ℕ) (last result : ℕ) : Type 0 where
  pub works : (n : ℕ) → n < last → m.ends word a b (is_later n) (held_at m word a b held n) ≡ 0
  pub ends : m.ends word a b (is_later last) (held_at m word a b held last) ≡ 1
  pub value_is : m.value word a b (is_later last) (held_at m word a b held last) ≡ result

-- whatever the registers hold before, it ends within so many cycles with this value
abbrev pub EndsWith : Machine → (most word a b result : ℕ) → Type 0
EndsWith m most word a b result = (held : List ℕ) → (last : ℕ) × (last < most) × EndsIn m word a b held last result
