-- A sum or a difference of numbers of 32 bits by one adder of 34: one bit below both numbers makes the carry in, and
-- one bit above them takes the carry out.
use Rattle.std.specs.Prelude.{ℕ, bit_xor}
use Rattle.core_words.specs.Values.{bits_of, join_of, add_of}
use Rattle.hw_words.specs.Bits.{copies_of}

-- a number of 32 bits with a 0 above it and one bit below
unfoldable pub framed_of : (a low : ℕ) → ℕ
framed_of a low = join_of 1 (join_of 32 0 a) low

-- each bit of b turned over where s is 1
unfoldable pub flipped_of : (s b : ℕ) → ℕ
flipped_of s b = bit_xor b (copies_of 32 s)

-- s is 1 for a difference, which adds each bit of b turned over, and one more
abbrev pub adder_of : (s a b : ℕ) → ℕ
adder_of s a b = add_of 34 (framed_of a 1) (framed_of (flipped_of s b) s)

unfoldable pub sum_of : (s a b : ℕ) → ℕ
sum_of s a b = bits_of (adder_of s a b) 32 1

unfoldable pub carry_of : (s a b : ℕ) → ℕ
carry_of s a b = bits_of (adder_of s a b) 33 33
