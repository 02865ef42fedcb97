-- The rows of the unit, and its law.
use Rattle.std.specs.Prelude.{◌≡◌, ℕ, suc, ◌<◌, ◌^◌, Bool, true, false, eqb, List, [], ◌∷◌, length, get_or}
use Rattle.std.specs.List.{list_any}
use Rattle.core_ports.specs.Trace.{Bus}
use Rattle.bus_law.specs.Memory.{Memory}
use Rattle.isa_table.specs.Rows.{meets}
use Rattle.isa_table.specs.Rows.Action.{Computes}
use Rattle.isa_csr.specs.Csrs.{Csrs}
use Rattle.isa_model.specs.Machine.{Set}
use Rattle.isa_model.specs.Effects.{Moment, behind}
use Rattle.plug_law.specs.Table.{row_numbered, table_of}
use Rattle.plug_law.specs.Exec.{ExecSignals, Terms, ExecLaw}
use Rattle.plug_alu.specs.Machine.{alu_value}

-- by number: LUI, AUIPC, ADDI to ANDI, ADD, SUB, SLT, SLTU, XOR, OR, AND
abbrev pub alu_rows : List ℕ
alu_rows = 0 ∷ 1 ∷ 18 ∷ 19 ∷ 20 ∷ 21 ∷ 22 ∷ 23 ∷ 27 ∷ 28 ∷ 30 ∷ 31 ∷ 32 ∷ 35 ∷ 36 ∷ []

abbrev pub is_alu_row : (number : ℕ) → Bool
is_alu_row number = list_any (λ n. eqb n number) alu_rows

-- the unit has the value of each row that the word is of
abbrev pub IsRight : (word pc a b : ℕ) → Type 0
IsRight word pc a b =
    (k : ℕ) → k < length alu_rows → meets word (row_numbered (get_or alu_rows k 0)) ≡ true
    → (row_numbered (get_or alu_rows k 0)).action pc word a b ≡ Computes (alu_value word pc a b)

-- the outputs of each cycle are functions of the inputs of the same cycle; cause and mtval are those of no trap
pub record IsAlu (e : ExecSignals) : Type 0 where
  pub done : (s : ℕ) → e.done (suc s) ≡ e.go (suc s)
  pub value : (s : ℕ) → e.value (suc s) ≡ alu_value (e.word (suc s)) (e.pc (suc s)) (e.a (suc s)) (e.b (suc s))
  pub next_pc : (s : ℕ) → e.next_pc (suc s) ≡ behind (e.pc (suc s))
  pub trap : (s : ℕ) → e.trap (suc s) ≡ false
  pub fence : (s : ℕ) → e.fence (suc s) ≡ false
  pub a_fits : (s : ℕ) → e.a (suc s) < 2 ^ 32
  pub b_fits : (s : ℕ) → e.b (suc s) < 2 ^ 32

abbrev pub AluKeepsLaw : Type 0
AluKeepsLaw =
    (set : Set) (x : Terms) (e : ExecSignals) (db : Bus) (mem : ℕ → Memory) (csrs : ℕ → Csrs) (moments : ℕ → Moment)
    → x.table ≡ table_of set → ((number : ℕ) → x.claims number ≡ true → is_alu_row number ≡ true) → x.holds ≡ false
    → IsAlu e → ExecLaw x e db mem csrs moments
