-- Who serves what: each unit works on items that were taken, decoded for it and given their operands, and each event of an
-- instruction that a unit executes is a done of that unit.
use Rattle.std.specs.Prelude.{◌≡◌, ℕ, ◌<◌, ◌≤◌, Bool, true, false, not, eqb, leb, ◌&&◌, ◌||◌, Some, is_some}
use Rattle.core_ports.specs.Trace.{Trace, PortEvent, has_event, port_event}
use Rattle.plug_law.specs.Table.{Table}
use Rattle.plug_law.specs.Fetch.{FetchSignals}
use Rattle.plug_law.specs.Exec.{ExecSignals}
use Rattle.plug_law.specs.Decode.{DecodeSignals}
use Rattle.plug_law.specs.Hazard.{HazardSignals}
use Rattle.plug_law.specs.Pipeline.{Pipe, Shape, member}

-- an item that a unit is given in cycle k was taken in cycle t, with what Decoder and Hazard said of it then
pub record IsGiven (f : FetchSignals) (d : DecodeSignals) (h : HazardSignals) (e : ExecSignals) (entry k t : ℕ) : Type 0 where
  -- it is given only after the cycle of its taking
  pub before : t < k
  pub taken : f.take t ≡ true
  pub item : (e.pc k ≡ f.pc t) × (e.word k ≡ f.word t) × (f.error t ≡ false)
  pub decoded : (e.row k ≡ d.row t) × (d.unit t ≡ entry)
  -- its operands are Hazard's, from a cycle in which it did not hold
  pub operands : (h.hold t ≡ false) × (e.a k ≡ h.a t) × (e.b k ≡ h.b t)

-- an event that a unit serves: a retirement, or a trap that is not the pipeline's own. Of the pipeline's own an access fault of
-- the fetch has cause 1, ECALL and EBREAK 11 and 3, and an illegal instruction of no row cause 2.
abbrev pub IsServed : Table → PortEvent → Bool
IsServed t e = eqb e.kind 0 || (not (eqb e.kind 2) && (eqb e.cause 0 || ((leb 4 e.cause && leb e.cause 7) || (eqb e.cause 2 && is_some (t.row_of e.word)))))

-- a done in cycle k is that of an event
pub record IsDoneOf (told : PortEvent) (e : ExecSignals) (row k : ℕ) : Type 0 where
  pub done : e.done k ≡ true
  pub row_is : e.row k ≡ row
  pub pc : e.pc k ≡ told.pc
  pub word : e.word k ≡ told.word
  -- its value is the event's, where a register is written, and its cause where it is a trap
  pub value : eqb told.kind 0 ≡ true → eqb told.rd 0 ≡ false → e.value k ≡ told.value
  pub cause : eqb told.kind 0 ≡ false → e.cause k ≡ told.cause

-- in the first n cycles of a run
pub record Serves (t : Table) (owner : ℕ → ℕ) (sh : Shape) (p : Pipe) (run' : Trace) (n : ℕ) : Type 0 where
  pub gives : (entry k : ℕ) → k < n → member entry sh.entries ≡ true → (p.unit entry).go k ≡ true → 1 ≤ k
      → (j : ℕ) × IsGiven p.fetch p.decode p.hazard (p.unit entry) entry k j
  -- the cycle of the done that serves an event: not later, and the event's own for a unit of the stage that commits
  pub served : ℕ → ℕ
  pub serves : (k row : ℕ) → k < n → has_event run' k ≡ true → IsServed t (port_event run' k) ≡ true → t.row_of (port_event run' k).word ≡ Some row
      → (served k ≤ k) × IsDoneOf (port_event run' k) (p.unit (owner row)) row (served k) × (sh.commits (owner row) ≡ true → served k ≡ k)
  -- no done of a unit serves two events
  pub once : (j k row row' : ℕ) → j < k → k < n → has_event run' j ≡ true → has_event run' k ≡ true → IsServed t (port_event run' j) ≡ true → IsServed t (port_event run' k) ≡ true
      → t.row_of (port_event run' j).word ≡ Some row → t.row_of (port_event run' k).word ≡ Some row' → owner row ≡ owner row' → served j ≡ served k → ⊥
  -- an interrupt is taken only where System says so, with its cause
  pub interrupts : (k : ℕ) → k < n → has_event run' k ≡ true → (port_event run' k).kind ≡ 2
      → (p.system.take_irq k ≡ true) × (p.system.irq_cause k ≡ (port_event run' k).cause)
