-- Copies of a bit.
use Rattle.std.specs.Prelude.{ℕ, ◌-◌, ◌^◌}
use Rattle.core_words.specs.Values.{choose}

-- n ones where the bit is 1, else 0
abbrev pub copies_of : (n bit : ℕ) → ℕ
copies_of n bit = choose bit (2 ^ n - 1) 0
