-- The store that a command makes, and buses that answer in time, told cycle by cycle.
use Rattle.std.specs.Prelude.{◌≡◌, ℕ, zero, suc, ◌+◌, ◌<◌, true, false, cond, not, eqb, ◌&&◌, Some}
use Rattle.core_ports.specs.Trace.{Bus}
use Rattle.bus_law.specs.Memory.{Store, store_of}
use Rattle.bus_law.specs.Protocol.{is_given, is_accepted, owed}

-- the store that a write command of a cycle makes
abbrev pub store_at : Bus → ℕ → Store
store_at b k = store_of (b.cmd_addr k) (b.cmd_data k) (b.cmd_mask k)

-- the cycle in which the command of a cycle was first given: the cycle itself, where none waits from the one before
unfoldable pub given_from : Bus → ℕ → ℕ
given_from b zero = zero
given_from b (suc k) = cond (is_given b k && not (is_accepted b k)) (given_from b k) (suc k)

-- A bus that answers within w cycles, in cycle k: no command waits that was first given w cycles ago or before, and no
-- response is missing to a command that was accepted w cycles ago or before.
pub record IsPrompt (b : Bus) (w k : ℕ) : Type 0 where
  pub accepts : is_given b k ≡ true → is_accepted b k ≡ false → k < given_from b k + w
  pub answers : (j : ℕ) → owed b k ≡ Some j → eqb (b.rsp_valid k) 1 ≡ false → k < j + w
