-- The unit on a bus that takes a command at once and answers it in the next cycle: a run for any inputs and any memory.
use Rattle.std.specs.Prelude.{ℕ, zero, suc, Bool, true, false, cond, not, eqb, ◌&&◌, ◌||◌, Option, Some, None}
use Rattle.core_words.specs.Values.{one_if, add_of}
use Rattle.core_ports.specs.Trace.{Bus}
use Rattle.bus_law.specs.Memory.{Memory, aligned_of, is_window, word_at, written}
use Rattle.plug_law.specs.Exec.{ExecSignals}
use Rattle.dbus_law.specs.Words.{address_of, at_once, cause_by, is_fence, is_store, mask_of, misaligned_at, spread_of, value_of}
use Rattle.dbus_law.specs.Machine.{IsDbus, Registers, start_by}

-- what the registers hold in a cycle, and the memory
pub record State : Type 0 where
  pub given : Bool
  pub owed : Bool
  pub writes : Bool
  pub address : ℕ
  pub payload : ℕ
  pub mask : ℕ
  pub memory : Memory

pub record Inputs : Type 0 where
  pub go : ℕ → Bool
  pub clear : ℕ → Bool
  pub row : ℕ → ℕ
  pub pc : ℕ → ℕ
  pub word : ℕ → ℕ
  pub a : ℕ → ℕ
  pub b : ℕ → ℕ

abbrev pub word_or : Option ℕ → ℕ
word_or None = 0
word_or (Some w) = w

-- nothing is there, and it is not the window
abbrev pub error_of : Option ℕ → (window : Bool) → ℕ
error_of None false = 1
error_of None true = 0
error_of (Some w) window = 0

module _ (m : Memory) (i : Inputs) where
  abbrev pub starts_at : ℕ → State → Bool
  starts_at t s = start_by (i.go t) (at_once (i.word t) (i.a t)) s.given s.owed (i.clear t)

  abbrev pub next : ℕ → State → State
  next t s = record {
    given = starts_at t s || (s.given && not (eqb (one_if (not s.owed)) 1));
    owed = (s.given && eqb (one_if (not s.owed)) 1) || (s.owed && not (s.owed && eqb (one_if s.owed) 1));
    writes = cond (starts_at t s) (is_store (i.word t)) s.writes;
    address = cond (starts_at t s) (aligned_of (address_of (i.word t) (i.a t))) s.address;
    payload = cond (starts_at t s) (spread_of (i.word t) (i.b t)) s.payload;
    mask = cond (starts_at t s) (mask_of (i.word t) (i.a t)) s.mask;
    memory = cond ((s.given && eqb (one_if (not s.owed)) 1) && s.writes) (written s.memory s.address s.payload s.mask) s.memory;
  }

  unfoldable pub at : ℕ → State
  at zero = record { given = false; owed = false; writes = false; address = 0; payload = 0; mask = 0; memory = m }
  at (suc zero) = record { given = false; owed = false; writes = false; address = 0; payload = 0; mask = 0; memory = m }
  at (suc (suc t)) = next (suc t) (at (suc t))

  unfoldable pub ready_at : ℕ → ℕ
  ready_at zero = 0
  ready_at (suc t) = one_if (not (at (suc t)).owed)

  abbrev pub bus : Bus
  bus = record {
    cmd_valid = λ t. one_if (at t).given;
    cmd_ready = ready_at;
    cmd_write = λ t. one_if (at t).writes;
    cmd_addr = λ t. (at t).address;
    cmd_data = λ t. (at t).payload;
    cmd_mask = λ t. (at t).mask;
    rsp_valid = λ t. one_if (at t).owed;
    rsp_error = λ t. error_of (word_at (at t).memory (at t).address) (is_window (at t).address);
    rsp_data = λ t. word_or (word_at (at t).memory (at t).address);
  }

  abbrev pub exec : ExecSignals
  exec = record {
    go = i.go;
    row = i.row;
    pc = i.pc;
    word = i.word;
    a = i.a;
    b = i.b;
    clear = i.clear;
    done = λ t. i.go t && (at_once (i.word t) (i.a t) || ((at t).owed && eqb (one_if (at t).owed) 1));
    value = λ t. value_of (i.word t) (i.a t) (word_or (word_at (at t).memory (at t).address));
    next_pc = λ t. add_of 32 (i.pc t) 4;
    trap = λ t. not (is_fence (i.word t)) && (misaligned_at (i.word t) (i.a t) || eqb (error_of (word_at (at t).memory (at t).address) (is_window (at t).address)) 1);
    cause = λ t. cause_by (is_store (i.word t)) (misaligned_at (i.word t) (i.a t));
    tval = λ t. address_of (i.word t) (i.a t);
    fence = λ t. false;
  }

  abbrev pub registers : Registers
  registers = record { given = λ t. (at t).given; owed = λ t. (at t).owed; address = λ t. (at t).address; writes = λ t. (at t).writes; payload = λ t. (at t).payload; mask = λ t. (at t).mask }

-- for all inputs and each memory the equations have a run
abbrev pub DbusHasRuns : Type 0
DbusHasRuns = (m : Memory) (i : Inputs) → IsDbus (exec m i) (bus m i) (registers m i)
