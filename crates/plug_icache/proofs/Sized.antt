-- The sizes of an entry without a fault are powers of two.
use Rattle.std.proofs.Common.{ℕ, ◌≤◌, Bool, true, false, cond, leb, arith}
use Rattle.plug_icache.specs.Powers.{IcacheSizesArePowers}
use Rattle.plug_icache.specs.Sizes.{lines_of, log_of, words_of}
use Rattle.plug_icache.proofs.Powers.{lines_whole, place_most, words_whole}

-- a logarithm lies between 1 and 10
abbrev IsLog : ℕ → Type 0
IsLog n = (1 ≤ n) × (n ≤ 10)

either : (b : Bool) (x y : ℕ) → IsLog x → IsLog y → IsLog (cond b x y)
either true x y h k = h
either false x y h k = k

is_log : (n : ℕ) → IsLog (log_of n)
unfolding log_of
is_log n =
    either (leb n 2) 1 _ (omega arith, omega arith) (either (leb n 4) 2 _ (omega arith, omega arith) (either (leb n 8) 3 _ (omega arith, omega arith)
    (either (leb n 16) 4 _ (omega arith, omega arith) (either (leb n 32) 5 _ (omega arith, omega arith) (either (leb n 64) 6 _ (omega arith, omega arith)
    (either (leb n 128) 7 _ (omega arith, omega arith) (either (leb n 256) 8 _ (omega arith, omega arith) (either (leb n 512) 9 10 (omega arith, omega arith) (omega arith, omega arith)))))))))

pub sizes_are_powers : IcacheSizesArePowers
sizes_are_powers ps fine = record {
  lines = lines_whole ps fine;
  some_lines = (is_log (lines_of ps)).0;
  few_lines = (is_log (lines_of ps)).1;
  words = words_whole ps fine;
  some_words = (is_log (words_of ps)).0;
  few_words = place_most ps fine;
}
