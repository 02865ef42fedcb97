-- The rows of the unit, and its law.
use Rattle.std.specs.Prelude.{◌≡◌, ℕ, suc, ◌<◌, ◌^◌, Bool, true, false, eqb, List, [], ◌∷◌, length, get_or, None}
use Rattle.std.specs.List.{list_any}
use Rattle.core_ports.specs.Trace.{Bus}
use Rattle.bus_law.specs.Memory.{Memory}
use Rattle.isa_table.specs.Rows.{meets}
use Rattle.isa_csr.specs.Csrs.{Csrs}
use Rattle.isa_model.specs.Machine.{Set}
use Rattle.isa_model.specs.Effects.{Moment, Effect, behind, effect_of, write_of}
use Rattle.plug_law.specs.Table.{row_numbered, table_of}
use Rattle.plug_law.specs.Exec.{ExecSignals, Terms, ExecLaw, Shows}
use Rattle.plug_branch.specs.Machine.{next_of, trap_of}

-- by number: JAL, JALR, BEQ, BNE, BLT, BGE, BLTU, BGEU
abbrev pub branch_rows : List ℕ
branch_rows = 2 ∷ 3 ∷ 4 ∷ 5 ∷ 6 ∷ 7 ∷ 8 ∷ 9 ∷ []

abbrev pub is_branch_row : (number : ℕ) → Bool
is_branch_row number = list_any (λ n. eqb n number) branch_rows

-- the outputs are those of an effect: the value the pc behind, cause 0, mtval where the program goes on
abbrev pub ShowsFlow : Effect → (word pc a b : ℕ) → Type 0
ShowsFlow f word pc a b = Shows f (behind pc) (next_of word pc a b) 0 (next_of word pc a b) (eqb (trap_of word pc a b) 1)

-- the unit shows the effect of each row that the word is of, which makes no write; nothing is said of the pc
abbrev pub IsRight : (word pc a b : ℕ) → Type 0
IsRight word pc a b =
    (k : ℕ) → k < length branch_rows → meets word (row_numbered (get_or branch_rows k 0)) ≡ true → (m : Memory) (c : Csrs) (o : Moment)
    → ShowsFlow (effect_of pc word m c o ((row_numbered (get_or branch_rows k 0)).action pc word a b)) word pc a b
    × (write_of (effect_of pc word m c o ((row_numbered (get_or branch_rows k 0)).action pc word a b)) ≡ None)

-- the outputs of each cycle are functions of the inputs of the same cycle
pub record IsBranch (e : ExecSignals) : Type 0 where
  pub done : (s : ℕ) → e.done (suc s) ≡ e.go (suc s)
  pub value : (s : ℕ) → e.value (suc s) ≡ behind (e.pc (suc s))
  pub next_pc : (s : ℕ) → e.next_pc (suc s) ≡ next_of (e.word (suc s)) (e.pc (suc s)) (e.a (suc s)) (e.b (suc s))
  pub trap : (s : ℕ) → e.trap (suc s) ≡ eqb (trap_of (e.word (suc s)) (e.pc (suc s)) (e.a (suc s)) (e.b (suc s))) 1
  pub cause : (s : ℕ) → e.cause (suc s) ≡ 0
  pub tval : (s : ℕ) → e.tval (suc s) ≡ next_of (e.word (suc s)) (e.pc (suc s)) (e.a (suc s)) (e.b (suc s))
  pub fence : (s : ℕ) → e.fence (suc s) ≡ false
  pub a_fits : (s : ℕ) → e.a (suc s) < 2 ^ 32
  pub b_fits : (s : ℕ) → e.b (suc s) < 2 ^ 32

abbrev pub BranchKeepsLaw : Type 0
BranchKeepsLaw =
    (set : Set) (x : Terms) (e : ExecSignals) (db : Bus) (mem : ℕ → Memory) (csrs : ℕ → Csrs) (moments : ℕ → Moment)
    → x.table ≡ table_of set → ((number : ℕ) → x.claims number ≡ true → is_branch_row number ≡ true) → x.holds ≡ false
    → IsBranch e → ExecLaw x e db mem csrs moments
