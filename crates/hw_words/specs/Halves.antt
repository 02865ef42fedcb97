-- Comparison in two halves of 16 bits: a half is less where the top bit of a difference of 17 bits is 1.
use Rattle.std.specs.Prelude.{ℕ, eqb, bit_and, bit_or}
use Rattle.core_words.specs.Values.{one_if, bits_of, join_of, sub_of}

-- 1 where the high half of a is less than that of b, as signed numbers where the bit is 1
unfoldable pub high_less : (signed a b : ℕ) → ℕ
high_less signed a b =
    bits_of (sub_of 17 (join_of 16 (bit_and signed (bits_of a 31 31)) (bits_of a 31 16)) (join_of 16 (bit_and signed (bits_of b 31 31)) (bits_of b 31 16))) 16 16

unfoldable pub low_less : (a b : ℕ) → ℕ
low_less a b = bits_of (sub_of 17 (join_of 16 0 (bits_of a 15 0)) (join_of 16 0 (bits_of b 15 0))) 16 16

unfoldable pub high_equal : (a b : ℕ) → ℕ
high_equal a b = one_if (eqb (bits_of a 31 16) (bits_of b 31 16))

unfoldable pub low_equal : (a b : ℕ) → ℕ
low_equal a b = one_if (eqb (bits_of a 15 0) (bits_of b 15 0))

-- 1 where a is less than b, as signed numbers where the bit is 1
unfoldable pub less_of : (signed a b : ℕ) → ℕ
less_of signed a b = bit_or (high_less signed a b) (bit_and (high_equal a b) (low_less a b))

unfoldable pub equal_of : (a b : ℕ) → ℕ
equal_of a b = bit_and (high_equal a b) (low_equal a b)
