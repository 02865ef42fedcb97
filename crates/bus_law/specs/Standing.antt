-- What a command that is given, and a response that is owed, say of the cycles before.
use Rattle.std.specs.Prelude.{◌≡◌, ℕ, suc, ◌<◌, ◌≤◌, true, false, eqb}
use Rattle.core_ports.specs.Trace.{Bus}
use Rattle.bus_law.specs.Protocol.{is_given, is_accepted}
use Rattle.bus_law.specs.Honest.{Begins}

-- The command of cycle k stands since a cycle: it was first given there, is given in each from there on, and was
-- accepted in none before k.
pub record StandsSince (b : Bus) (first k : ℕ) : Type 0 where
  -- the cycle before the first one
  pub before : ℕ
  pub is : first ≡ suc before
  pub begins : Begins b before
  pub by_now : first ≤ k
  pub given : (i : ℕ) → first ≤ i → i ≤ k → is_given b i ≡ true
  pub waits : (i : ℕ) → first ≤ i → i < k → is_accepted b i ≡ false

-- two cycles have the same command, in each signal
pub record IsSameCommand (b : Bus) (i k : ℕ) : Type 0 where
  pub cmd_write : b.cmd_write i ≡ b.cmd_write k
  pub cmd_addr : b.cmd_addr i ≡ b.cmd_addr k
  pub cmd_data : b.cmd_data i ≡ b.cmd_data k
  pub cmd_mask : b.cmd_mask i ≡ b.cmd_mask k

-- as cycle k begins, the response to the command of cycle j is owed: it was accepted there, and none came since
pub record IsOwedSince (b : Bus) (j k : ℕ) : Type 0 where
  pub accepted : is_accepted b j ≡ true
  pub before : j < k
  pub missing : (i : ℕ) → j < i → i < k → eqb (b.rsp_valid i) 1 ≡ false
