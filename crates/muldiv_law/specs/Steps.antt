-- Multiplication and division by 32 steps with one sum in each, on numbers (RISC-V Unprivileged ISA 20191213, 7.1, 7.2).
-- f2, f1 and f0 are bits 14 to 12 of the word: f2 is 1 for a division, and f1 and f0 say which.
use Rattle.std.specs.Prelude.{ℕ, zero, suc, ◌-◌, eqb, bit_xor}
use Rattle.core_words.specs.Values.{choose, bits_of, join_of, add_of, not_of, one_if}

-- the registers of 32 bits: of a division the remainder above, and the dividend that gives way to the quotient below; of a product
-- its upper half, and the first factor that gives way to the lower half
pub record Halves : Type 0 where
  pub hi : ℕ
  pub lo : ℕ

abbrev pub halves : (hi lo : ℕ) → Halves
halves hi lo = record { hi = hi; lo = lo }

-- ---- which operands are signed

-- DIV and REM
unfoldable pub division_signed : (f2 f0 : ℕ) → ℕ
division_signed f2 f0 = choose f2 (not_of 1 f0) 0

-- the first factor: MUL, MULH and MULHSU
unfoldable pub first_signed : (f2 f1 f0 : ℕ) → ℕ
first_signed f2 f1 f0 = choose f2 0 (choose f1 (not_of 1 f0) 1)

-- the second factor: MUL and MULH
unfoldable pub second_signed : (f2 f1 : ℕ) → ℕ
second_signed f2 f1 = choose f2 0 (not_of 1 f1)

-- the sign of an operand of a signed division
unfoldable pub sign_of : (f2 f0 v : ℕ) → ℕ
sign_of f2 f0 v = choose (division_signed f2 f0) (bits_of v 31 31) 0

-- ---- one step

-- the second operand in 33 bits
unfoldable pub wide_of : (f2 f1 f0 b : ℕ) → ℕ
wide_of f2 f1 f0 b = join_of 32 (choose f2 (sign_of f2 f0 b) (choose (second_signed f2 f1) (bits_of b 31 31) 0)) b

-- 1 where a step subtracts: in a division by a number without sign, and at the last step of a product of which the bit says so
unfoldable pub inverts : (f2 f0 b last : ℕ) → ℕ
inverts f2 f0 b last = choose f2 (not_of 1 (sign_of f2 f0 b)) last

-- 33 bits: the remainder with the next bit of the dividend, or the upper half with its sign
unfoldable pub upper_of : (f2 f1 hi lo : ℕ) → ℕ
upper_of f2 f1 hi lo = choose f2 (join_of 1 hi (bits_of lo 31 31)) (join_of 32 (choose (second_signed f2 f1) (bits_of hi 31 31) 0) hi)

-- the second summand: the operand, or each of its bits turned over, and one more below
unfoldable pub summand_of : (other adds inv : ℕ) → ℕ
summand_of other adds inv = join_of 1 (choose adds (choose inv (not_of 33 other) other) 0) (choose adds inv 0)

-- 35 bits: a bit below the sum, which makes the carry in; the sum in bits 33 to 1; and its carry
unfoldable pub total_of : (x other adds inv : ℕ) → ℕ
total_of x other adds inv = add_of 35 (join_of 34 0 (join_of 1 x 1)) (join_of 34 0 (summand_of other adds inv))

-- a product adds where the lowest bit is 1
unfoldable pub step_total : (f2 x other inv lo : ℕ) → ℕ
step_total f2 x other inv lo = total_of x other (choose f2 1 (bits_of lo 0 0)) inv

unfoldable pub hi_after : (f2 x total : ℕ) → ℕ
hi_after f2 x total = choose f2 (choose (bits_of total 34 34) (bits_of total 32 1) (bits_of x 31 0)) (bits_of total 33 2)

unfoldable pub lo_after : (f2 total lo : ℕ) → ℕ
lo_after f2 total lo = choose f2 (join_of 1 (bits_of lo 30 0) (bits_of total 34 34)) (join_of 31 (bits_of total 1 1) (bits_of lo 31 1))

unfoldable pub hi_stepped : (f2 f1 other inv hi lo : ℕ) → ℕ
hi_stepped f2 f1 other inv hi lo = hi_after f2 (upper_of f2 f1 hi lo) (step_total f2 (upper_of f2 f1 hi lo) other inv lo)

unfoldable pub lo_stepped : (f2 f1 other inv hi lo : ℕ) → ℕ
lo_stepped f2 f1 other inv hi lo = lo_after f2 (step_total f2 (upper_of f2 f1 hi lo) other inv lo) lo

unfoldable pub stepped : (f2 f1 other inv : ℕ) → Halves → Halves
stepped f2 f1 other inv h = halves (hi_stepped f2 f1 other inv h.hi h.lo) (lo_stepped f2 f1 other inv h.hi h.lo)

-- ---- the steps of a cycle

unfoldable pub several : (f2 f1 other inv : ℕ) → (n : ℕ) → Halves → Halves
several f2 f1 other inv zero h = h
several f2 f1 other inv (suc n) h = stepped f2 f1 other inv (several f2 f1 other inv n h)

-- 1 where the last step of a cycle subtracts; `last` is 1 in the last cycle
unfoldable pub last_inverts : (f2 f1 f0 b last : ℕ) → ℕ
last_inverts f2 f1 f0 b last = inverts f2 f0 b (choose last (first_signed f2 f1 f0) 0)

-- all steps of a cycle but its last one
abbrev pub before_last : (unroll f2 f1 f0 b : ℕ) → Halves → Halves
before_last unroll f2 f1 f0 b h = several f2 f1 (wide_of f2 f1 f0 b) (inverts f2 f0 b 0) (unroll - 1) h

unfoldable pub hi_cycled : (unroll f2 f1 f0 b last hi lo : ℕ) → ℕ
hi_cycled unroll f2 f1 f0 b last hi lo =
    hi_stepped f2 f1 (wide_of f2 f1 f0 b) (last_inverts f2 f1 f0 b last) (before_last unroll f2 f1 f0 b (halves hi lo)).hi (before_last unroll f2 f1 f0 b (halves hi lo)).lo

unfoldable pub lo_cycled : (unroll f2 f1 f0 b last hi lo : ℕ) → ℕ
lo_cycled unroll f2 f1 f0 b last hi lo =
    lo_stepped f2 f1 (wide_of f2 f1 f0 b) (last_inverts f2 f1 f0 b last) (before_last unroll f2 f1 f0 b (halves hi lo)).hi (before_last unroll f2 f1 f0 b (halves hi lo)).lo

-- ---- signs

-- v, or minus v where n is 1
unfoldable pub negated : (n v : ℕ) → ℕ
negated n v = add_of 32 (choose n (not_of 32 v) v) (join_of 1 0 n)

-- the half that is the result: quotient or remainder, lower or upper half
unfoldable pub half_of : (f2 f1 f0 : ℕ) → (hi lo : ℕ) → ℕ
half_of f2 f1 f0 hi lo = choose f2 (choose f1 hi lo) (choose f1 hi (choose f0 hi lo))

-- 1 where the sign of the result is turned over: a remainder has that of the dividend; a quotient by 0 has no sign
unfoldable pub turns : (f2 f1 f0 a b : ℕ) → ℕ
turns f2 f1 f0 a b = choose f1 (sign_of f2 f0 a) (choose (one_if (eqb b 0)) 0 (bit_xor (sign_of f2 f0 a) (sign_of f2 f0 b)))

-- what the one negator gives: as a go begins the first operand without its sign, later the result
unfoldable pub fixed : (busy : ℕ) (f2 f1 f0 a b : ℕ) → (hi lo : ℕ) → ℕ
fixed busy f2 f1 f0 a b hi lo = negated (choose busy (turns f2 f1 f0 a b) (sign_of f2 f0 a)) (choose busy (half_of f2 f1 f0 hi lo) a)

-- ---- the whole: how a go begins, what 32 steps make, and the result

unfoldable pub start_of : (f2 f0 a : ℕ) → Halves
start_of f2 f0 a = halves 0 (negated (sign_of f2 f0 a) a)

unfoldable pub end_of : (f2 f1 f0 a b : ℕ) → Halves
end_of f2 f1 f0 a b =
    stepped f2 f1 (wide_of f2 f1 f0 b) (inverts f2 f0 b (first_signed f2 f1 f0))
    (several f2 f1 (wide_of f2 f1 f0 b) (inverts f2 f0 b 0) 31 (start_of f2 f0 a))

unfoldable pub result_by : (f2 f1 f0 a b : ℕ) → ℕ
result_by f2 f1 f0 a b = negated (turns f2 f1 f0 a b) (half_of f2 f1 f0 (end_of f2 f1 f0 a b).hi (end_of f2 f1 f0 a b).lo)

unfoldable pub result_of : (word a b : ℕ) → ℕ
result_of word a b = result_by (bits_of word 14 14) (bits_of word 13 13) (bits_of word 12 12) a b
