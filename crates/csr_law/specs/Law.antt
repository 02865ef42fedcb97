-- The laws of the unit: that of Exec at the CSRs that it keeps, and that of System.
use Rattle.std.specs.Prelude.{◌≡◌, ℕ, Bool, true, false, List, [], ◌∷◌}
use Rattle.core_ports.specs.Trace.{Bus}
use Rattle.bus_law.specs.Memory.{Memory}
use Rattle.isa_model.specs.Machine.{Set}
use Rattle.isa_model.specs.Effects.{Moment}
use Rattle.plug_law.specs.Exec.{Terms, ExecSignals, ToldExecLaw}
use Rattle.plug_law.specs.System.{SystemSignals, SystemAssumed, SystemLaw, csrs_at}
use Rattle.plug_law.specs.Pipeline.{member}
use Rattle.plug_law.specs.Table.{table_of}
use Rattle.csr_law.specs.Machine.{State, Lines, IsCsr, SeesLines}

-- CSRRW CSRRS CSRRC CSRRWI CSRRSI CSRRCI, MRET, WFI
abbrev pub csr_rows : List ℕ
csr_rows = 49 ∷ 50 ∷ 51 ∷ 52 ∷ 53 ∷ 54 ∷ 55 ∷ 56 ∷ []

-- it takes none but its rows
abbrev pub TakesItsRows : (claims : ℕ → Bool) → Type 0
TakesItsRows claims = (row : ℕ) → claims row ≡ true → member row csr_rows ≡ true

-- it commits, has no bus, and is done within two cycles; those in which a WFI waits count nothing
abbrev pub csr_terms : Set → (claims : ℕ → Bool) → Terms
csr_terms s claims = record { table = table_of s; claims = claims; commits = true; holds = false; latency = (2, 0) }

-- the law of Exec at the unit's own CSRs, where it is told of the events before
abbrev pub OwnExecLaw : Terms → (misa : ℕ) → ExecSignals → SystemSignals → (db : Bus) → (mem : ℕ → Memory) → (moments : ℕ → Moment) → Type 0
OwnExecLaw x misa e y db mem moments = ToldExecLaw (SystemAssumed e y) x e db mem (csrs_at misa x.table e y mem moments) moments

abbrev pub CsrKeepsExec : Type 0
CsrKeepsExec =
    (set : Set) (claims : ℕ → Bool) (misa : ℕ) (e : ExecSignals) (y : SystemSignals) (db : Bus) (mem : ℕ → Memory) (moments : ℕ → Moment) (l : Lines) (g : ℕ → State)
    → TakesItsRows claims → IsCsr misa e y l g → SeesLines misa e y l g moments → OwnExecLaw (csr_terms set claims) misa e y db mem moments

abbrev pub CsrKeepsSystem : Type 0
CsrKeepsSystem =
    (set : Set) (claims : ℕ → Bool) (misa : ℕ) (e : ExecSignals) (y : SystemSignals) (db : Bus) (mem : ℕ → Memory) (moments : ℕ → Moment) (l : Lines) (g : ℕ → State)
    → TakesItsRows claims → IsCsr misa e y l g → SeesLines misa e y l g moments → SystemLaw (csr_terms set claims) misa e y db mem moments
