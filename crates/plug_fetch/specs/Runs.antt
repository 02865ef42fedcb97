-- A run of the part: its cycles by number, and what they show on its ports. Cycle 0 is the cycle of reset.
use Rattle.std.specs.Prelude.{◌≡◌, ℕ, suc, ◌<◌, ◌≤◌, Bool, true, cond, eqb}
use Rattle.core_ports.specs.Trace.{Bus}
use Rattle.isa_model.specs.Effects.{behind}
use Rattle.plug_law.specs.Fetch.{FetchSignals}
use Rattle.plug_fetch.specs.Machine.{Now, held_after, put, given_after, owed_after, dropped_after, address_after, pc_after}

-- what is one bit wide is a bit
pub record AreBits (depth : ℕ) (n : Now) : Type 0 where
  pub held : (i : ℕ) → i < depth → n.held i < 2
  pub given : n.given < 2
  pub owed : n.owed < 2
  pub dropped : n.dropped < 2
  pub take : n.take < 2
  pub redirect : n.redirect < 2
  pub ready : n.ready < 2
  pub answered : n.answered < 2

-- each register follows its equation. Those that the reset sets are told as cycle 1 begins.
pub record IsFetch (depth reset_pc : ℕ) (q : ℕ → Now) : Type 0 where
  pub bits : (s : ℕ) → AreBits depth (q (suc s))
  pub held_reset : (i : ℕ) → i < depth → (q 1).held i ≡ 0
  pub given_reset : (q 1).given ≡ 0
  pub owed_reset : (q 1).owed ≡ 0
  pub dropped_reset : (q 1).dropped ≡ 0
  pub next_pc_reset : (q 1).next_pc ≡ reset_pc
  pub held : (s i : ℕ) → i < depth → (q (suc (suc s))).held i ≡ held_after depth (q (suc s)) i
  pub pc : (s i : ℕ) → i < depth → (q (suc (suc s))).pc i ≡ put depth (q (suc s)) i (q (suc s)).address (q (suc s)).pc
  pub word : (s i : ℕ) → i < depth → (q (suc (suc s))).word i ≡ put depth (q (suc s)) i (q (suc s)).payload (q (suc s)).word
  pub error : (s i : ℕ) → i < depth → (q (suc (suc s))).error i ≡ put depth (q (suc s)) i (q (suc s)).failed (q (suc s)).error
  pub given : (s : ℕ) → (q (suc (suc s))).given ≡ given_after depth (q (suc s))
  pub owed : (s : ℕ) → (q (suc (suc s))).owed ≡ owed_after (q (suc s))
  pub dropped : (s : ℕ) → (q (suc (suc s))).dropped ≡ dropped_after (q (suc s))
  pub address : (s : ℕ) → (q (suc (suc s))).address ≡ address_after (q (suc s))
  pub next_pc : (s : ℕ) → (q (suc (suc s))).next_pc ≡ pc_after (q (suc s))

-- The item in the first place is offered, and the command is given on the bus. Predict is asked of the word that comes, where it
-- is offered. Nothing hangs on the fence, since a fence comes with a redirect.
pub record Shows (predicts : Bool) (q : ℕ → Now) (f : FetchSignals) (ib : Bus) : Type 0 where
  pub take : (s : ℕ) → f.take (suc s) ≡ eqb (q (suc s)).take 1
  pub redirect : (s : ℕ) → f.redirect (suc s) ≡ eqb (q (suc s)).redirect 1
  pub redirect_pc : (s : ℕ) → f.redirect_pc (suc s) ≡ (q (suc s)).redirect_pc
  pub valid : (s : ℕ) → f.valid (suc s) ≡ eqb ((q (suc s)).held 0) 1
  pub pc : (s : ℕ) → f.pc (suc s) ≡ (q (suc s)).pc 0
  pub word : (s : ℕ) → f.word (suc s) ≡ (q (suc s)).word 0
  pub error : (s : ℕ) → f.error (suc s) ≡ eqb ((q (suc s)).error 0) 1
  pub cmd_valid : (s : ℕ) → ib.cmd_valid (suc s) ≡ (q (suc s)).given
  pub cmd_addr : (s : ℕ) → ib.cmd_addr (suc s) ≡ (q (suc s)).address
  pub cmd_write : (s : ℕ) → ib.cmd_write (suc s) ≡ 0
  pub cmd_data : (s : ℕ) → ib.cmd_data (suc s) ≡ 0
  pub cmd_mask : (s : ℕ) → ib.cmd_mask (suc s) ≡ 0
  pub cmd_ready : (s : ℕ) → ib.cmd_ready (suc s) ≡ (q (suc s)).ready
  pub rsp_valid : (s : ℕ) → ib.rsp_valid (suc s) ≡ (q (suc s)).answered
  pub rsp_error : (s : ℕ) → ib.rsp_error (suc s) ≡ (q (suc s)).failed
  pub rsp_data : (s : ℕ) → ib.rsp_data (suc s) ≡ (q (suc s)).payload
  pub asks : predicts ≡ true → (s : ℕ) → (f.asked_pc (suc s) ≡ (q (suc s)).address) × (f.asked_word (suc s) ≡ (q (suc s)).payload)
  pub guess : (s : ℕ) → (q (suc s)).guess ≡ cond predicts (f.answered (suc s)) (behind (q (suc s)).address)

-- ---- runs that there are

-- what comes to the part in a cycle
pub record Comes : Type 0 where
  pub take : ℕ
  pub redirect : ℕ
  pub redirect_pc : ℕ
  pub ready : ℕ
  pub answered : ℕ
  pub failed : ℕ
  pub payload : ℕ
  pub guess : ℕ

pub record ComesAsBits (c : Comes) : Type 0 where
  pub take : c.take < 2
  pub redirect : c.redirect < 2
  pub ready : c.ready < 2
  pub answered : c.answered < 2

abbrev pub comes_in : Now → Comes
comes_in n = record {
  take = n.take;
  redirect = n.redirect;
  redirect_pc = n.redirect_pc;
  ready = n.ready;
  answered = n.answered;
  failed = n.failed;
  payload = n.payload;
  guess = n.guess;
}

-- whatever comes in each cycle, there is a run in which it comes
abbrev pub HasRuns : Type 0
HasRuns = (depth reset_pc : ℕ) (comes : ℕ → Comes) → 1 ≤ depth → ((t : ℕ) → ComesAsBits (comes t))
    → (q : ℕ → Now) × IsFetch depth reset_pc q × ((t : ℕ) → comes_in (q t) ≡ comes t)
