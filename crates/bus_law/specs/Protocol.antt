-- Commands and responses of one bus, cycle by cycle. Outputs in cycle 0 count as nothing.
use Rattle.std.specs.Prelude.{ℕ, zero, suc, Bool, false, cond, eqb, List, [], ◌∷◌, ◌&&◌, Option, Some, None}
use Rattle.core_ports.specs.Trace.{Bus}
use Rattle.bus_law.specs.Memory.{Memory, Store, written, store_of}

-- a command is given in a cycle
unfoldable pub is_given : Bus → ℕ → Bool
is_given b zero = false
is_given b (suc k) = eqb (b.cmd_valid (suc k)) 1

-- it is given and the bus takes it
unfoldable pub is_accepted : Bus → ℕ → Bool
is_accepted b k = is_given b k && eqb (b.cmd_ready k) 1

unfoldable pub is_write : Bus → ℕ → Bool
is_write b k = is_accepted b k && eqb (b.cmd_write k) 1

-- The command whose response is owed in a cycle, by the cycle in which it was accepted. A response is
-- owed in each cycle after an acceptance, up to and including the cycle in which it comes.
unfoldable pub owed : Bus → ℕ → Option ℕ
owed b zero = None
owed b (suc k) = cond (is_accepted b k) (Some k) (cond (eqb (b.rsp_valid k) 1) None (owed b k))

-- the memory as a cycle begins: a write changes it at the end of the cycle that accepts it, and nothing else does
unfoldable pub memory_at : Memory → Bus → ℕ → Memory
memory_at m db zero = m
memory_at m db (suc k) = cond (is_write db k) (written (memory_at m db k) (db.cmd_addr k) (db.cmd_data k) (db.cmd_mask k)) (memory_at m db k)

-- the writes accepted before a cycle, the latest first
unfoldable pub writes_before : Bus → ℕ → List Store
writes_before db zero = []
writes_before db (suc k) = cond (is_write db k) (store_of (db.cmd_addr k) (db.cmd_data k) (db.cmd_mask k) ∷ writes_before db k) (writes_before db k)
