-- The three duties of a core on a bus, and the cycle in which one is broken.
use Rattle.std.specs.Prelude.{◌≡◌, ℕ, zero, suc, ◌%◌, Bool, true, false, not, eqb, ◌&&◌, ◌||◌, is_some}
use Rattle.core_ports.specs.Trace.{Bus}
use Rattle.bus_law.specs.Protocol.{is_given, is_accepted, owed}

-- the command of the next cycle is that of this one, each signal as it was
abbrev pub is_repeated : Bus → ℕ → Bool
is_repeated b k =
    is_given b (suc k) && (eqb (b.cmd_write (suc k)) (b.cmd_write k) && (eqb (b.cmd_addr (suc k)) (b.cmd_addr k)
    && (eqb (b.cmd_data (suc k)) (b.cmd_data k) && eqb (b.cmd_mask (suc k)) (b.cmd_mask k))))

-- first duty: a command that is not accepted stands unchanged in the next cycle, which is where a breach lies
unfoldable pub breaks_standing : Bus → ℕ → Bool
breaks_standing b zero = false
breaks_standing b (suc k) = is_given b k && (not (is_accepted b k) && not (is_repeated b k))

-- second duty: no command is given where a response is owed
unfoldable pub breaks_waiting : Bus → ℕ → Bool
breaks_waiting b k = is_given b k && is_some (owed b k)

-- the masks of writes: one byte, an aligned half, a word
abbrev pub is_write_mask : ℕ → Bool
is_write_mask mask = eqb mask 1 || (eqb mask 2 || (eqb mask 4 || (eqb mask 8 || (eqb mask 3 || (eqb mask 12 || eqb mask 15)))))

-- a read's mask is 0
abbrev pub is_mask : (write : Bool) (mask : ℕ) → Bool
is_mask true mask = is_write_mask mask
is_mask false mask = eqb mask 0

-- third duty: addresses are multiples of 4, and the mask is one of those
unfoldable pub breaks_form : Bus → ℕ → Bool
breaks_form b k = is_given b k && not (eqb (b.cmd_addr k % 4) 0 && is_mask (eqb (b.cmd_write k) 1) (b.cmd_mask k))

-- the core keeps the duties in a cycle
pub record KeepsDuties (b : Bus) (k : ℕ) : Type 0 where
  pub stands : breaks_standing b k ≡ false
  pub waits : breaks_waiting b k ≡ false
  pub forms : breaks_form b k ≡ false
