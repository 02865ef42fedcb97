-- The unit for any inputs, events and interrupt lines: a run.
use Rattle.std.specs.Prelude.{ℕ, zero, suc, ◌*◌, ◌/◌, Bool, true, false, cond, not, eqb, ◌&&◌, ◌||◌}
use Rattle.core_words.specs.Values.{add_of}
use Rattle.core_words.specs.Fields.{csr_of}
use Rattle.isa_csr.specs.Csrs.{readable}
use Rattle.plug_law.specs.Exec.{ExecSignals}
use Rattle.plug_law.specs.System.{SystemSignals}
use Rattle.csr_law.specs.Words.{bit, is_access, is_refused_number, is_return, is_wait, new_of, writes_of}
use Rattle.csr_law.specs.Machine.{IsCsr, Lines, State, at_places, gathered, is_there, reset_state, shown}

pub record Inputs : Type 0 where
  pub go : ℕ → Bool
  pub clear : ℕ → Bool
  pub row : ℕ → ℕ
  pub pc : ℕ → ℕ
  pub word : ℕ → ℕ
  pub a : ℕ → ℕ
  pub b : ℕ → ℕ
  pub event : ℕ → Bool
  pub kind : ℕ → ℕ
  pub told_pc : ℕ → ℕ
  pub told_cause : ℕ → ℕ
  pub told_tval : ℕ → ℕ
  pub soft : ℕ → Bool
  pub timer : ℕ → Bool
  pub outer : ℕ → Bool

module _ (misa : ℕ) (i : Inputs) where
  abbrev pub lines_in : ℕ → ℕ
  lines_in t = at_places (i.soft t) (i.timer t) (i.outer t)

  abbrev pub any_in : ℕ → State → Bool
  any_in t s = (s.soft && i.soft t) || ((s.timer && i.timer t) || (s.outer && i.outer t))

  abbrev pub old_in : ℕ → State → ℕ
  old_in t s = gathered (readable (shown misa s) (lines_in t)) (csr_of (i.word t))

  abbrev pub trap_in : ℕ → State → Bool
  trap_in t s = is_access (i.word t) && (not (is_there (readable (shown misa s) (lines_in t)) (csr_of (i.word t))) || (writes_of (i.word t) && is_refused_number (csr_of (i.word t))))

  abbrev pub done_in : ℕ → State → Bool
  done_in t s = i.go t && (not (is_wait (i.word t)) || any_in t s)

  abbrev pub own_in : ℕ → State → Bool
  own_in t s = done_in t s && (not (trap_in t s) && not (i.clear t))

  abbrev pub new_in : ℕ → State → ℕ
  new_in t s = new_of (i.word t) (i.a t) (old_in t s)

  abbrev pub enters_in : ℕ → Bool
  enters_in t = i.event t && not (eqb (i.kind t) 0)

  abbrev pub writes_in : (number t : ℕ) → State → Bool
  writes_in number t s = own_in t s && (is_access (i.word t) && (writes_of (i.word t) && eqb (csr_of (i.word t)) number))

  abbrev pub leaves_in : ℕ → State → Bool
  leaves_in t s = own_in t s && is_return (i.word t)

  abbrev pub next : ℕ → State → State
  next t s = record {
    on = cond (enters_in t) false (cond (leaves_in t s) s.was (cond (writes_in 0x300 t s) (bit (new_in t s) 3) s.on));
    was = cond (enters_in t) s.on (cond (leaves_in t s) true (cond (writes_in 0x300 t s) (bit (new_in t s) 7) s.was));
    soft = cond (writes_in 0x304 t s) (bit (new_in t s) 3) s.soft;
    timer = cond (writes_in 0x304 t s) (bit (new_in t s) 7) s.timer;
    outer = cond (writes_in 0x304 t s) (bit (new_in t s) 11) s.outer;
    tvec = cond (writes_in 0x305 t s) (new_in t s / 4) s.tvec;
    epc = cond (enters_in t) (i.told_pc t / 4) (cond (writes_in 0x341 t s) (new_in t s / 4) s.epc);
    scratch = cond (writes_in 0x340 t s) (new_in t s) s.scratch;
    cause = cond (enters_in t) (i.told_cause t) (cond (writes_in 0x342 t s) (new_in t s) s.cause);
    tval = cond (enters_in t) (i.told_tval t) (cond (writes_in 0x343 t s) (new_in t s) s.tval);
  }

  unfoldable pub at : ℕ → State
  at zero = reset_state
  at (suc zero) = reset_state
  at (suc (suc t)) = next (suc t) (at (suc t))

  abbrev pub exec : ExecSignals
  exec = record {
    go = i.go;
    row = i.row;
    pc = i.pc;
    word = i.word;
    a = i.a;
    b = i.b;
    clear = i.clear;
    done = λ t. done_in t (at t);
    value = λ t. old_in t (at t);
    next_pc = λ t. cond (is_return (i.word t)) ((at t).epc * 4) (add_of 32 (i.pc t) 4);
    trap = λ t. trap_in t (at t);
    cause = λ t. 2;
    tval = i.word;
    fence = λ t. false;
  }

  abbrev pub system : SystemSignals
  system = record {
    event = i.event;
    kind = i.kind;
    pc = i.told_pc;
    cause = i.told_cause;
    tval = i.told_tval;
    take_irq = λ t. (at t).on && any_in t (at t);
    irq_cause = λ t. cond ((at t).outer && i.outer t) 0x8000000b (cond ((at t).soft && i.soft t) 0x80000003 0x80000007);
    base = λ t. (at t).tvec * 4;
  }

  abbrev pub its_lines : Lines
  its_lines = record { soft = i.soft; timer = i.timer; outer = i.outer }

-- for all inputs the equations have a run
abbrev pub CsrHasRuns : Type 0
CsrHasRuns = (misa : ℕ) (i : Inputs) → IsCsr misa (exec misa i) (system misa i) (its_lines misa i) (at misa i)
