-- The values of the operators on unsigned numbers of a width (IEEE 1364-2005, clause 5.1).
-- A number of width w is below 2 ^ w. "Or", "and" and "exclusive or" of two such numbers are the
-- prelude's `bit_or`, `bit_and` and `bit_xor`, whatever the width is.
use Rattle.std.specs.Prelude.{ℕ, ◌+◌, ◌-◌, ◌*◌, ◌/◌, ◌%◌, ◌^◌, Bool, true, false, cond, eqb}

-- the number of a truth value: 1 for true (5.1.7, 5.1.8)
abbrev pub one_if : Bool → ℕ
one_if true = 1
one_if false = 0

-- the sum, modulo 2 ^ w (5.1.5)
abbrev pub add_of : (w a b : ℕ) → ℕ
add_of w a b = (a + b) % 2 ^ w

-- the difference, modulo 2 ^ w, for b at most 2 ^ w (5.1.5)
abbrev pub sub_of : (w a b : ℕ) → ℕ
sub_of w a b = (a + (2 ^ w - b)) % 2 ^ w

-- each of the w bits turned over (5.1.10)
abbrev pub not_of : (w a : ℕ) → ℕ
not_of w a = 2 ^ w - 1 - a

-- bits high to low, as a number of high + 1 - low bits (5.2.1)
abbrev pub bits_of : (a high low : ℕ) → ℕ
bits_of a high low = a / 2 ^ low % 2 ^ (high + 1 - low)

-- a where the condition is 1, else b (5.1.13)
abbrev pub choose : (c a b : ℕ) → ℕ
choose c a b = cond (eqb c 1) a b

-- a above b, which has w bits (5.1.14)
abbrev pub join_of : (w a b : ℕ) → ℕ
join_of w a b = a * 2 ^ w + b
