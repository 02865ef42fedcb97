-- The law of the unit: that of Exec with the data bus, and how often it reads.
use Rattle.std.specs.Prelude.{◌≡◌, ℕ, suc, ◌≤◌, ◌<◌, Bool, true, List, [], ◌∷◌}
use Rattle.core_ports.specs.Trace.{Bus}
use Rattle.bus_law.specs.Memory.{Memory, aligned_of}
use Rattle.isa_csr.specs.Csrs.{Csrs}
use Rattle.isa_model.specs.Machine.{Set}
use Rattle.isa_model.specs.Effects.{Access, Moment}
use Rattle.isa_model.specs.Effects.Access.{NoAccess, ReadsAt, WritesOut}
use Rattle.plug_law.specs.Exec.{Terms, ExecSignals, ExecAssumed, ExecLaw, Alone, read, access_at}
use Rattle.plug_law.specs.Pipeline.{member}
use Rattle.plug_law.specs.Table.{table_of}
use Rattle.dbus_law.specs.Machine.{Registers, IsDbus}

-- LB LH LW LBU LHU, SB SH SW, FENCE
abbrev pub dbus_rows : List ℕ
dbus_rows = 10 ∷ 11 ∷ 12 ∷ 13 ∷ 14 ∷ 15 ∷ 16 ∷ 17 ∷ 37 ∷ []

-- it takes none but its rows
abbrev pub TakesItsRows : (claims : ℕ → Bool) → Type 0
TakesItsRows claims = (row : ℕ) → claims row ≡ true → member row dbus_rows ≡ true

-- it commits, holds the data bus, and is done within 4 + 2 w cycles where the bus answers within w
abbrev pub dbus_terms : Set → (claims : ℕ → Bool) → Terms
dbus_terms s claims = record { table = table_of s; claims = claims; commits = true; holds = true; latency = (4, 2) }

-- the addresses that an access reads: one for a load
abbrev pub reads_of : Access → List ℕ
reads_of NoAccess = []
reads_of (ReadsAt addr size) = aligned_of addr ∷ []
reads_of (WritesOut w) = []

-- At done a load whose address is a multiple of its size has read its word once, and nothing else has been read. That a store
-- has written once is the law of Exec.
abbrev pub ReadsOnce : Terms → ExecSignals → (db : Bus) → (mem : ℕ → Memory) → Type 0
ReadsOnce x e db mem =
    (s : ℕ) → ((j : ℕ) → j ≤ s → ExecAssumed x e db mem j) → ((j : ℕ) → j < s → Alone db mem j)
    → e.go (suc s) ≡ true → e.done (suc s) ≡ true → read e db (suc s) ≡ reads_of (access_at x.table e (suc s))

abbrev pub DbusKeepsLaw : Type 0
DbusKeepsLaw =
    (set : Set) (claims : ℕ → Bool) (e : ExecSignals) (db : Bus) (mem : ℕ → Memory) (csrs : ℕ → Csrs) (moments : ℕ → Moment) (r : Registers)
    → TakesItsRows claims → IsDbus e db r → ExecLaw (dbus_terms set claims) e db mem csrs moments

abbrev pub DbusReadsOnce : Type 0
DbusReadsOnce =
    (set : Set) (claims : ℕ → Bool) (e : ExecSignals) (db : Bus) (mem : ℕ → Memory) (r : Registers)
    → TakesItsRows claims → IsDbus e db r → ReadsOnce (dbus_terms set claims) e db mem
