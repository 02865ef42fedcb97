-- Overlap: instructions that need one cycle each follow each other without a gap.
use Rattle.std.specs.Prelude.{◌≡◌, ℕ, suc, ◌+◌, ◌<◌, ◌≤◌, Bool, true, false, eqb, ◌⊎◌, Some, None}
use Rattle.core_ports.specs.Ports.{fe_valid}
use Rattle.core_ports.specs.Trace.{Trace, on_port, has_event, lines_at}
use Rattle.bus_law.specs.Memory.{word_at}
use Rattle.isa_csr.specs.Csrs.{pending}
use Rattle.isa_model.specs.Machine.{Set, Machine, Fetched, shown}
use Rattle.isa_model.specs.Machine.Fetched.{Word}
use Rattle.isa_model.specs.Run.{History, FetchedFrom, Possible, now}
use Rattle.isa_model.specs.Step.{Done, Step}
use Rattle.plug_law.specs.Table.{Table}
use Rattle.pipe_law.specs.Brisk.{count}

-- a word that a step may have, i steps after a history: one that was possible there, or is in memory in some state since. No
-- step between them is a FENCE.I.
abbrev pub PossibleIn : (start : Machine) → History → (steps : ℕ → Machine) → (i : ℕ) → Fetched → Type 0
PossibleIn start past steps i got = Possible start past (steps i).pc got ⊎ ((j : ℕ) × (j ≤ i) × FetchedFrom (steps j).memory (steps i).pc got)

-- a row of an entry that does not wait for the stage that commits and is done in the cycle of its go
abbrev pub IsQuick : (owner : ℕ → ℕ) (commits : ℕ → Bool) (latency : ℕ → ℕ × ℕ) (row : ℕ) → Type 0
IsQuick owner commits latency row = (commits (owner row) ≡ false) × ((latency (owner row)).0 ≡ 1) × ((latency (owner row)).1 ≡ 0)

-- k cycles from u on, in which Fetch offers an item, no interrupt is to be taken, and the machine's next k steps are quick
-- retirements along Predict, with one possible word each
pub record IsStream (s : Set) (t : Table) (quick : (row : ℕ) → Type 0) (predict : ℕ → ℕ → ℕ) (start : Machine) (run' : Trace) (past : ℕ → History) (u k : ℕ) : Type 0 where
  -- Fetch offers an item in each cycle, and no interrupt is to be taken
  pub shown_all : (i : ℕ) → u ≤ i → i < u + k → on_port run' fe_valid i ≡ 1
  pub calm : (i : ℕ) → u ≤ i → i < u + k → pending (now start (past i)).csrs (lines_at run' i) ≡ None
  -- the machine's next states, and the words of the steps between them
  pub steps : ℕ → Machine
  pub words : ℕ → ℕ
  pub begins : steps 0 ≡ now start (past u)
  -- the word that memory has at the pc is the only one that may be fetched there
  pub own : (i : ℕ) → i < k → word_at (steps i).memory (steps i).pc ≡ Some (words i)
  pub one_word : (i : ℕ) → i < k → (got : Fetched) → PossibleIn start (past u) steps i got → got ≡ Word (words i)
  -- each step retires, without looking at interrupt lines
  pub retires : (i : ℕ) → i < k → (done : Done) × Step s (steps i) (Word (words i)) (record { lines = 0 }) done × (done.new ≡ steps (suc i)) × ((shown done.event).kind ≡ 0)
  -- its row is quick, and not FENCE.I's (row 40)
  pub is_quick : (i : ℕ) → i < k → (row : ℕ) × (t.row_of (words i) ≡ Some row) × (eqb row 40 ≡ false) × quick row
  -- and goes on where Predict says
  pub follows : (i : ℕ) → i < k → (steps (suc i)).pc ≡ predict (steps i).pc (words i)

-- then all but `lost` of the cycles have an event
abbrev pub Overlap : (s : Set) (t : Table) (quick : (row : ℕ) → Type 0) (predict : ℕ → ℕ → ℕ) (lost : ℕ) (start : Machine) (run' : Trace) (n : ℕ) (past : ℕ → History) → Type 0
Overlap s t quick predict lost start run' n past =
    (u k : ℕ) → 1 ≤ u → u + k ≤ n → IsStream s t quick predict start run' past u k → k ≤ count (has_event run') u k + lost

-- all stages after decode are bypassed
abbrev pub AllBypassed : (bypassed : ℕ → Bool) (stages : ℕ) → Type 0
AllBypassed bypassed stages = (i : ℕ) → suc i < stages → bypassed i ≡ true
