-- The law of Predict: a guess of the pc behind an instruction, from its pc and its word alone.
use Rattle.std.specs.Prelude.{◌≡◌, ℕ, suc, ◌%◌, Bool, true, false}
use Rattle.isa_model.specs.Effects.{behind}
use Rattle.plug_law.specs.Fetch.{FetchSignals}

pub record PredictSignals : Type 0 where
  -- of what instruction the next pc is asked, and the guess
  pub pc : ℕ → ℕ
  pub word : ℕ → ℕ
  pub next : ℕ → ℕ

-- a guess may be any multiple of 4 where pc is one; without the service it is the pc behind
abbrev pub IsPredict : (predicts : Bool) → (ℕ → ℕ → ℕ) → Type 0
IsPredict false predict = (pc word : ℕ) → predict pc word ≡ behind pc
IsPredict true predict = (pc word : ℕ) → pc % 4 ≡ 0 → predict pc word % 4 ≡ 0

-- predict is one function for all cycles and runs of the part
abbrev pub PredictLaw : (ℕ → ℕ → ℕ) → PredictSignals → Type 0
PredictLaw predict p = (s : ℕ) → p.next (suc s) ≡ predict (p.pc (suc s)) (p.word (suc s))

-- Predict as a fetch sees it
abbrev pub seen_by : FetchSignals → PredictSignals
seen_by f = record { pc = f.asked_pc; word = f.asked_word; next = f.answered }
