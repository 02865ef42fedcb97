-- What units are given. In equations over numbers; bits are 0 and 1.
use Rattle.std.specs.Prelude.{ℕ, bit_and, bit_or}

-- 1 where a unit is given the item in front
unfoldable pub go_of : (works chosen : ℕ) → ℕ
go_of works chosen = bit_and works chosen

-- 1 where a unit that works ahead gives up
unfoldable pub clear_of : (kill irq : ℕ) → ℕ
clear_of kill irq = bit_or kill irq
