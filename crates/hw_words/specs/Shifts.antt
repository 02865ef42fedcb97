-- A right shift in five steps, and bits in reverse.
use Rattle.std.specs.Prelude.{ℕ, zero, suc, ◌-◌}
use Rattle.core_words.specs.Values.{choose, bits_of, join_of}
use Rattle.hw_words.specs.Bits.{copies_of}

-- the lowest n bits of a in reverse
unfoldable pub reverse_of : (a n : ℕ) → ℕ
reverse_of a zero = 0
reverse_of a (suc n) = join_of 1 (reverse_of a n) (bits_of a n n)

-- one step: by so many places where the bit is 1, with copies of a bit above
unfoldable pub moved_of : (by bit fill x : ℕ) → ℕ
moved_of by bit fill x = choose bit (join_of (32 - by) (copies_of by fill) (bits_of x 31 by)) x

unfoldable pub shifted_of : (amount fill x : ℕ) → ℕ
shifted_of amount fill x =
    moved_of 1 (bits_of amount 0 0) fill (moved_of 2 (bits_of amount 1 1) fill (moved_of 4 (bits_of amount 2 2) fill
    (moved_of 8 (bits_of amount 3 3) fill (moved_of 16 (bits_of amount 4 4) fill x))))
