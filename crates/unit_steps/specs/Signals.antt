-- The signals of a unit that may work for several cycles, and its law.
use Rattle.std.specs.Prelude.{◌≡◌, ℕ, suc, ◌^◌, ◌<◌, Bool, true, false, not, ◌&&◌, eqb, List, Some}
use Rattle.core_words.specs.Values.{one_if}
use Rattle.core_ports.specs.Trace.{Bus}
use Rattle.bus_law.specs.Memory.{Memory}
use Rattle.isa_table.specs.Rows.Action.{Computes}
use Rattle.isa_csr.specs.Csrs.{Csrs}
use Rattle.isa_model.specs.Machine.{Set}
use Rattle.isa_model.specs.Effects.{Moment, behind}
use Rattle.plug_law.specs.Table.{row_numbered, table_of}
use Rattle.plug_law.specs.Exec.{ExecSignals, Terms, ExecLaw}
use Rattle.unit_steps.specs.Cycles.{Machine, EndsWith}

-- each instruction of a row that the unit takes ends within its latency, with the value that the row computes
abbrev pub AllEnd : Set → Terms → Machine → Type 0
AllEnd set x m =
    (number word pc a b : ℕ) → x.claims number ≡ true → (table_of set).row_of word ≡ Some number → a < 2 ^ 32 → b < 2 ^ 32
    → (result : ℕ) × ((row_numbered number).action pc word a b ≡ Computes result) × EndsWith m x.latency.0 word a b result

-- an instruction that was at work ends in this cycle
abbrev pub ends_in : Machine → ExecSignals → (working : ℕ → Bool) (held : ℕ → List ℕ) → (cycle : ℕ) → Bool
ends_in m e working held k = eqb (m.ends (e.word k) (e.a k) (e.b k) (one_if (working k)) (held k)) 1

-- The unit's outputs, and what it keeps from cycle to cycle: the mark that an instruction is at work, which is 0 behind a reset, and
-- its registers, which may hold anything. An instruction is at work no longer once it ended or was cleared.
pub record IsWorking (m : Machine) (e : ExecSignals) (working : ℕ → Bool) (held : ℕ → List ℕ) : Type 0 where
  pub first : working 1 ≡ false
  pub goes_on : (s : ℕ) → working (suc (suc s)) ≡ (e.go (suc s) && (not (ends_in m e working held (suc s)) && not (e.clear (suc s))))
  pub holds : (s : ℕ) → held (suc (suc s)) ≡ m.next (e.word (suc s)) (e.a (suc s)) (e.b (suc s)) (one_if (working (suc s))) (held (suc s))
  pub done : (s : ℕ) → e.done (suc s) ≡ (e.go (suc s) && ends_in m e working held (suc s))
  pub value_is : (s : ℕ) → e.value (suc s) ≡ m.value (e.word (suc s)) (e.a (suc s)) (e.b (suc s)) (one_if (working (suc s))) (held (suc s))
  pub next_pc : (s : ℕ) → e.next_pc (suc s) ≡ behind (e.pc (suc s))
  pub trap : (s : ℕ) → e.trap (suc s) ≡ false
  pub fence : (s : ℕ) → e.fence (suc s) ≡ false
  pub a_fits : (s : ℕ) → e.a (suc s) < 2 ^ 32
  pub b_fits : (s : ℕ) → e.b (suc s) < 2 ^ 32

-- such a unit that does not take FENCE.I (40) and has no bus keeps the law of Exec, in either place
abbrev pub KeepsWorking : Type 0
KeepsWorking =
    (set : Set) (x : Terms) (m : Machine) (e : ExecSignals) (working : ℕ → Bool) (held : ℕ → List ℕ) (db : Bus) (mem : ℕ → Memory) (csrs : ℕ → Csrs) (moments : ℕ → Moment)
    → x.table ≡ table_of set → x.holds ≡ false → x.claims 40 ≡ false → AllEnd set x m → IsWorking m e working held
    → ExecLaw x e db mem csrs moments
