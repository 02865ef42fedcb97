-- The operators on numbers of w bits as two's complement (IEEE 1364-2005, clauses 5.1.7 and 5.1.12).
use Rattle.std.specs.Prelude.{ℕ, ◌-◌, ◌^◌, cond, eqb, ltb}
use Rattle.core_words.specs.Values.{one_if, bits_of, join_of}

-- the highest bit: 1 for a negative number
abbrev pub sign_of : (w a : ℕ) → ℕ
sign_of w a = bits_of a (w - 1) (w - 1)

-- 1 where a is less than b, else 0: of two signs the negative number is less, and of one sign the lower number
abbrev pub lts_of : (w a b : ℕ) → ℕ
lts_of w a b = cond (eqb (sign_of w a) (sign_of w b)) (one_if (ltb a b)) (sign_of w a)

-- a shifted right by n places, with the sign in the n highest
abbrev pub sra_of : (w a n : ℕ) → ℕ
sra_of w a n = join_of (w - n) (cond (eqb (sign_of w a) 1) (2 ^ n - 1) 0) (bits_of a (w - 1) n)
