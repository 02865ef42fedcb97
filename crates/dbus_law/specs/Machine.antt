-- The unit by cycle: its registers, the command that it gives, and what it says of the instruction at work.
use Rattle.std.specs.Prelude.{◌≡◌, ℕ, suc, Bool, false, cond, not, eqb, ◌&&◌, ◌||◌}
use Rattle.core_words.specs.Values.{one_if, add_of}
use Rattle.core_ports.specs.Trace.{Bus}
use Rattle.bus_law.specs.Memory.{aligned_of}
use Rattle.plug_law.specs.Exec.{ExecSignals}
use Rattle.dbus_law.specs.Words.{address_of, at_once, cause_by, is_fence, is_store, mask_of, misaligned_at, spread_of, value_of}

pub record Registers : Type 0 where
  -- a command is given, and a response is owed
  pub given : ℕ → Bool
  pub owed : ℕ → Bool
  -- the command
  pub address : ℕ → ℕ
  pub writes : ℕ → Bool
  pub payload : ℕ → ℕ
  pub mask : ℕ → ℕ

-- a command begins in the next cycle
abbrev pub start_by : (go needs_none given owed clear : Bool) → Bool
start_by go needs_none given owed clear = go && (not needs_none && (not given && (not owed && not clear)))

module _ (e : ExecSignals) (db : Bus) (r : Registers) where
  abbrev pub needs_none : ℕ → Bool
  needs_none t = at_once (e.word t) (e.a t)

  abbrev pub starts : ℕ → Bool
  starts t = start_by (e.go t) (needs_none t) (r.given t) (r.owed t) (e.clear t)

  abbrev pub ready : ℕ → Bool
  ready t = eqb (db.cmd_ready t) 1

  abbrev pub answered : ℕ → Bool
  answered t = eqb (db.rsp_valid t) 1

  -- the equations, from cycle 1 on
  pub record IsDbus : Type 0 where
    pub given_reset : r.given 1 ≡ false
    pub owed_reset : r.owed 1 ≡ false
    pub given : (s : ℕ) → r.given (suc (suc s)) ≡ (starts (suc s) || (r.given (suc s) && not (ready (suc s))))
    pub owed : (s : ℕ) → r.owed (suc (suc s)) ≡ ((r.given (suc s) && ready (suc s)) || (r.owed (suc s) && not (r.owed (suc s) && answered (suc s))))
    pub address : (s : ℕ) → r.address (suc (suc s)) ≡ cond (starts (suc s)) (aligned_of (address_of (e.word (suc s)) (e.a (suc s)))) (r.address (suc s))
    pub writes : (s : ℕ) → r.writes (suc (suc s)) ≡ cond (starts (suc s)) (is_store (e.word (suc s))) (r.writes (suc s))
    pub payload : (s : ℕ) → r.payload (suc (suc s)) ≡ cond (starts (suc s)) (spread_of (e.word (suc s)) (e.b (suc s))) (r.payload (suc s))
    pub mask : (s : ℕ) → r.mask (suc (suc s)) ≡ cond (starts (suc s)) (mask_of (e.word (suc s)) (e.a (suc s))) (r.mask (suc s))
    -- the command comes from the registers alone
    pub cmd_valid : (s : ℕ) → db.cmd_valid (suc s) ≡ one_if (r.given (suc s))
    pub cmd_write : (s : ℕ) → db.cmd_write (suc s) ≡ one_if (r.writes (suc s))
    pub cmd_addr : (s : ℕ) → db.cmd_addr (suc s) ≡ r.address (suc s)
    pub cmd_data : (s : ℕ) → db.cmd_data (suc s) ≡ r.payload (suc s)
    pub cmd_mask : (s : ℕ) → db.cmd_mask (suc s) ≡ r.mask (suc s)
    -- the outputs
    pub done : (s : ℕ) → e.done (suc s) ≡ (e.go (suc s) && (needs_none (suc s) || (r.owed (suc s) && answered (suc s))))
    pub value : (s : ℕ) → e.value (suc s) ≡ value_of (e.word (suc s)) (e.a (suc s)) (db.rsp_data (suc s))
    pub next_pc : (s : ℕ) → e.next_pc (suc s) ≡ add_of 32 (e.pc (suc s)) 4
    pub trap : (s : ℕ) → e.trap (suc s) ≡ (not (is_fence (e.word (suc s))) && (misaligned_at (e.word (suc s)) (e.a (suc s)) || eqb (db.rsp_error (suc s)) 1))
    pub cause : (s : ℕ) → e.cause (suc s) ≡ cause_by (is_store (e.word (suc s))) (misaligned_at (e.word (suc s)) (e.a (suc s)))
    pub tval : (s : ℕ) → e.tval (suc s) ≡ address_of (e.word (suc s)) (e.a (suc s))
    pub fence : (s : ℕ) → e.fence (suc s) ≡ false
