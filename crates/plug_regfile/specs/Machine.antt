-- The part in equations over numbers: the cells of its array, and the registers as they are read.
use Rattle.std.specs.Prelude.{ℕ, eqb, cond, List, get_or, set}
use Rattle.core_words.specs.Values.{one_if, choose}

-- what register r reads where its cell holds x: register 0 reads 0
unfoldable pub shown_of : (r x : ℕ) → ℕ
shown_of r x = choose (one_if (eqb r 0)) 0 x

-- register r as it is read
abbrev pub read_of : (cells : List ℕ) (r : ℕ) → ℕ
read_of cells r = shown_of r (get_or cells r 0)

-- the cells behind a cycle: where we is 1, the cell wa takes wd
unfoldable pub after : (cells : List ℕ) (we wa wd : ℕ) → List ℕ
after cells we wa wd = cond (eqb we 1) (set cells wa wd) cells
