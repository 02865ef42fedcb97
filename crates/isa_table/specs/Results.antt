-- The results of instructions, on numbers of 32 bits (RISC-V Unprivileged ISA 20191213, 2.4, 7.1, 7.2).
-- A number of 32 bits is signed in two's complement.
use Rattle.std.specs.Prelude.{ℕ, ◌+◌, ◌-◌, ◌*◌, ◌/◌, ◌%◌, ◌^◌, Bool, true, false, cond, not, eqb, leb, ltb}
use Rattle.core_words.specs.Values.{sub_of, bits_of}

abbrev pub is_negative : ℕ → Bool
is_negative a = leb (2 ^ 31) a

-- a is less than b, both signed: of two numbers of one sign the lesser, else the negative one (2.4.1)
abbrev pub is_less_of : (a_negative b_negative : Bool) → (a b : ℕ) → Bool
is_less_of true true a b = ltb a b
is_less_of true false a b = true
is_less_of false true a b = false
is_less_of false false a b = ltb a b

abbrev pub is_less_signed : (a b : ℕ) → Bool
is_less_signed a b = is_less_of (is_negative a) (is_negative b) a b

-- a number in 64 bits, extended with its sign
abbrev pub extend_64 : ℕ → ℕ
extend_64 a = cond (is_negative a) (a + (2 ^ 64 - 2 ^ 32)) a

-- the shifts by n, from 0 to 31 (2.4.1, 2.4.2): to the left, to the right with zeros, and to the right with the sign
abbrev pub shift_left : (a n : ℕ) → ℕ
shift_left a n = a * 2 ^ n % 2 ^ 32

abbrev pub shift_right : (a n : ℕ) → ℕ
shift_right a n = a / 2 ^ n

abbrev pub shift_right_signed : (a n : ℕ) → ℕ
shift_right_signed a n = extend_64 a / 2 ^ n % 2 ^ 32

-- the amount of a shift by a register: its low five bits (2.4.2)
abbrev pub amount_of : ℕ → ℕ
amount_of b = bits_of b 4 0

-- the low half of a product, which is the same signed and unsigned (7.1)
abbrev pub product_low : (a b : ℕ) → ℕ
product_low a b = a * b % 2 ^ 32

-- the high half of a product of two numbers of 64 bits, from its low 64 bits (7.1)
abbrev pub high_half : (a b : ℕ) → ℕ
high_half a b = bits_of (a * b) 63 32

abbrev pub product_high_signed : (a b : ℕ) → ℕ
product_high_signed a b = high_half (extend_64 a) (extend_64 b)

-- signed a by unsigned b
abbrev pub product_high_mixed : (a b : ℕ) → ℕ
product_high_mixed a b = high_half (extend_64 a) b

abbrev pub product_high_unsigned : (a b : ℕ) → ℕ
product_high_unsigned a b = high_half a b

-- a number with its sign turned over, where it is to be
abbrev pub negate_if : Bool → ℕ → ℕ
negate_if true a = sub_of 32 0 a
negate_if false a = a

-- a signed number without its sign
abbrev pub magnitude : ℕ → ℕ
magnitude a = negate_if (is_negative a) a

abbrev pub signs_differ : (a b : ℕ) → Bool
signs_differ a b = cond (is_negative a) (not (is_negative b)) (is_negative b)

-- Division rounds toward 0. By 0 the quotient has all bits 1, and the remainder is the dividend (7.2).
abbrev pub quotient_unsigned : (a b : ℕ) → ℕ
quotient_unsigned a b = cond (eqb b 0) (2 ^ 32 - 1) (a / b)

abbrev pub remainder_unsigned : (a b : ℕ) → ℕ
remainder_unsigned a b = cond (eqb b 0) a (a % b)

-- Signed, by the magnitudes. The one overflow, -2 ^ 31 by -1, gives -2 ^ 31 and remainder 0, without a case of its own.
abbrev pub quotient_signed : (a b : ℕ) → ℕ
quotient_signed a b = cond (eqb b 0) (2 ^ 32 - 1) (negate_if (signs_differ a b) (magnitude a / magnitude b))

-- the remainder has the sign of the dividend
abbrev pub remainder_signed : (a b : ℕ) → ℕ
remainder_signed a b = cond (eqb b 0) a (negate_if (is_negative a) (magnitude a % magnitude b))
