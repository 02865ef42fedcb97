-- Honest buses: they answer as one memory. And buses that answer in time.
use Rattle.std.specs.Prelude.{◌≡◌, ℕ, suc, ◌+◌, ◌<◌, ◌≤◌, Bool, true, false, eqb, ◌⊎◌, Option, Some, None}
use Rattle.core_ports.specs.Trace.{Bus}
use Rattle.bus_law.specs.Memory.{Memory, word_at, is_window}
use Rattle.bus_law.specs.Protocol.{is_given, is_accepted, owed, memory_at}

-- a response of the instruction bus: an error exactly where the address is outside memory
abbrev pub FetchReply : (held : Option ℕ) → (error payload : ℕ) → Type 0
FetchReply None error payload = error ≡ 1
FetchReply (Some word) error payload = (error ≡ 0) × (payload ≡ word)

-- a response of the data bus: the window takes writes and reads 0; the data of a write's response is any number
abbrev pub DataReply : (held : Option ℕ) → (window write : Bool) → (error payload : ℕ) → Type 0
DataReply None true true error payload = error ≡ 0
DataReply None true false error payload = (error ≡ 0) × (payload ≡ 0)
DataReply None false write error payload = error ≡ 1
DataReply (Some word) window true error payload = error ≡ 0
DataReply (Some word) window false error payload = (error ≡ 0) × (payload ≡ word)

-- what a response to the command at address a must be, over the memory as the accepting cycle began
abbrev pub Reply : Type 1
Reply = (m : Memory) (a write error payload : ℕ) → Type 0

abbrev pub fetch_reply : Reply
fetch_reply m a write error payload = FetchReply (word_at m a) error payload

abbrev pub data_reply : Reply
data_reply m a write error payload = DataReply (word_at m a) (is_window a) (eqb write 1) error payload

-- no response where none is owed; where one is owed no command is taken, and what comes is right
abbrev pub Responds : Reply → Bus → (memory : ℕ → Memory) → (k : ℕ) → (owed : Option ℕ) → Type 0
Responds reply b memory k None = b.rsp_valid k ≡ 0
Responds reply b memory k (Some j) = (b.cmd_ready k ≡ 0) × (b.rsp_valid k ≡ 1 → reply (memory j) (b.cmd_addr j) (b.cmd_write j) (b.rsp_error k) (b.rsp_data k))

-- one bus is honest in a cycle, over a memory that is a function of the cycle
pub record IsHonestAt (reply : Reply) (b : Bus) (memory : ℕ → Memory) (k : ℕ) : Type 0 where
  pub starts : k ≡ 0 → b.cmd_ready k ≡ 0
  pub responds : Responds reply b memory k (owed b k)

-- both buses are honest in the first n cycles, over one memory that the accepted writes of the data bus alone change
pub record Honest (ib db : Bus) (m : Memory) (n : ℕ) : Type 0 where
  pub fetches : (k : ℕ) → k < n → IsHonestAt fetch_reply ib (memory_at m db) k
  pub accesses : (k : ℕ) → k < n → IsHonestAt data_reply db (memory_at m db) k

-- a command is first given in the cycle after k: none was given in cycle k, or it was accepted
pub record Begins (b : Bus) (k : ℕ) : Type 0 where
  pub given : is_given b (suc k) ≡ true
  pub fresh : (is_given b k ≡ false) ⊎ (is_accepted b k ≡ true)

-- Of the first n cycles: each command is accepted at most w cycles after it was first given, and its
-- response comes at most w cycles after that, where the n cycles are long enough to tell.
pub record IsWithin (b : Bus) (w n : ℕ) : Type 0 where
  pub accepts : (k : ℕ) → Begins b k → suc k + w < n → (j : ℕ) × (j ≤ w) × (is_accepted b (suc k + j) ≡ true)
  pub answers : (k : ℕ) → is_accepted b k ≡ true → k + w < n → (j : ℕ) × (1 ≤ j) × (j ≤ w) × (b.rsp_valid (k + j) ≡ 1)

pub record Within (ib db : Bus) (w n : ℕ) : Type 0 where
  pub fetches : IsWithin ib w n
  pub accesses : IsWithin db w n
