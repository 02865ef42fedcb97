-- Units that are done at once with a value, and never trap.
use Rattle.std.specs.Prelude.{◌≡◌, ℕ, suc, ◌^◌, ◌<◌, true, false, Some}
use Rattle.core_ports.specs.Trace.{Bus}
use Rattle.bus_law.specs.Memory.{Memory}
use Rattle.isa_table.specs.Rows.Action.{Computes}
use Rattle.isa_csr.specs.Csrs.{Csrs}
use Rattle.isa_model.specs.Machine.{Set}
use Rattle.isa_model.specs.Effects.{Moment, behind}
use Rattle.plug_law.specs.Table.{row_numbered, table_of}
use Rattle.plug_law.specs.Exec.{ExecSignals, Terms, ExecLaw}

-- each row that the unit takes computes this value from its operands
abbrev pub AllCompute : Set → Terms → (value : (word pc a b : ℕ) → ℕ) → Type 0
AllCompute set x value =
    (number word pc a b : ℕ) → x.claims number ≡ true → (table_of set).row_of word ≡ Some number → a < 2 ^ 32 → b < 2 ^ 32
    → (row_numbered number).action pc word a b ≡ Computes (value word pc a b)

-- the outputs of each cycle are functions of the inputs of the same cycle; cause and mtval are those of no trap
pub record IsComputing (value : (word pc a b : ℕ) → ℕ) (e : ExecSignals) : Type 0 where
  pub done : (s : ℕ) → e.done (suc s) ≡ e.go (suc s)
  pub value_is : (s : ℕ) → e.value (suc s) ≡ value (e.word (suc s)) (e.pc (suc s)) (e.a (suc s)) (e.b (suc s))
  pub next_pc : (s : ℕ) → e.next_pc (suc s) ≡ behind (e.pc (suc s))
  pub trap : (s : ℕ) → e.trap (suc s) ≡ false
  pub fence : (s : ℕ) → e.fence (suc s) ≡ false
  pub a_fits : (s : ℕ) → e.a (suc s) < 2 ^ 32
  pub b_fits : (s : ℕ) → e.b (suc s) < 2 ^ 32

-- such a unit that does not take FENCE.I (40) and has no bus keeps the law of Exec, at each latency and in either place
abbrev pub KeepsComputing : Type 0
KeepsComputing =
    (set : Set) (x : Terms) (value : (word pc a b : ℕ) → ℕ) (e : ExecSignals) (db : Bus) (mem : ℕ → Memory) (csrs : ℕ → Csrs) (moments : ℕ → Moment)
    → x.table ≡ table_of set → x.holds ≡ false → x.claims 40 ≡ false → AllCompute set x value → IsComputing value e
    → ExecLaw x e db mem csrs moments
