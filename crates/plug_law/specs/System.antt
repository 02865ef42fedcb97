-- The law of System: the part that keeps the CSRs is told of each event, and says when an interrupt is to be taken and where
-- the handler is (RISC-V Privileged Architecture 20190608, chapter 3).
use Rattle.std.specs.Prelude.{◌≡◌, ℕ, zero, suc, ◌%◌, ◌<◌, ◌≤◌, Bool, true, false, cond, not, eqb, ◌&&◌, Some, None}
use Rattle.core_ports.specs.Trace.{Bus}
use Rattle.bus_law.specs.Memory.{Memory}
use Rattle.isa_csr.specs.Csrs.{Csrs, reset_csrs, trap_entry, pending}
use Rattle.isa_model.specs.Effects.{Moment, csrs_of}
use Rattle.plug_law.specs.Table.{Table}
use Rattle.plug_law.specs.Exec.{ExecSignals, Terms, effect_at, bus_of, ExecAssumed, Alone}

pub record SystemSignals : Type 0 where
  -- the core's event in this cycle: a retirement (kind 0), a trap (1) or an interrupt (2), its pc, and cause and mtval
  pub event : ℕ → Bool
  pub kind : ℕ → ℕ
  pub pc : ℕ → ℕ
  pub cause : ℕ → ℕ
  pub tval : ℕ → ℕ
  -- an interrupt is to be taken, with its cause
  pub take_irq : ℕ → Bool
  pub irq_cause : ℕ → ℕ
  -- the address of the handler
  pub base : ℕ → ℕ

-- the CSRs as a cycle begins, from those of reset: after the part's own instructions and the traps and interrupts so far; e is
-- the same part's Exec
unfoldable pub csrs_at : (misa : ℕ) → Table → ExecSignals → SystemSignals → (mem : ℕ → Memory) (moments : ℕ → Moment) → ℕ → Csrs
csrs_at misa t e y mem moments zero = reset_csrs misa
csrs_at misa t e y mem moments (suc zero) = reset_csrs misa
csrs_at misa t e y mem moments (suc (suc k)) =
    let old : Csrs = csrs_at misa t e y mem moments (suc k) in
    let after : Csrs = cond (e.done (suc k) && not (e.clear (suc k))) (csrs_of (effect_at t e mem (λ j. old) moments (suc k)) old) old in
    cond (y.event (suc k) && not (eqb (y.kind (suc k)) 0)) (trap_entry after (y.pc (suc k)) (y.cause (suc k)) (y.tval (suc k))) after

-- assumed of cycle s + 1
pub record SystemAssumed (e : ExecSignals) (y : SystemSignals) (s : ℕ) : Type 0 where
  -- one of the three kinds, at the pc of an instruction
  pub kinds : y.event (suc s) ≡ true → y.kind (suc s) < 3
  pub whole : y.event (suc s) ≡ true → y.pc (suc s) % 4 ≡ 0
  -- an event in the cycle of a done of the part is that done's: its retirement, or its trap
  pub own : y.event (suc s) ≡ true → e.done (suc s) ≡ true → e.trap (suc s) ≡ false → y.kind (suc s) ≡ 0
  pub own_trap : y.event (suc s) ≡ true → e.done (suc s) ≡ true → e.trap (suc s) ≡ true
      → (y.kind (suc s) ≡ 1) × (y.cause (suc s) ≡ e.cause (suc s)) × (y.tval (suc s) ≡ e.tval (suc s))
  -- an interrupt has mtval 0
  pub plain : y.event (suc s) ≡ true → y.kind (suc s) ≡ 2 → y.tval (suc s) ≡ 0

-- kept in cycle s + 1
pub record SystemKept (csrs : ℕ → Csrs) (y : SystemSignals) (moments : ℕ → Moment) (s : ℕ) : Type 0 where
  -- an interrupt is to be taken exactly where one is pending and enabled, with the cause that comes first
  pub none : pending (csrs (suc s)) (moments (suc s)).lines ≡ None → y.take_irq (suc s) ≡ false
  pub some : (cause : ℕ) → pending (csrs (suc s)) (moments (suc s)).lines ≡ Some cause → (y.take_irq (suc s) ≡ true) × (y.irq_cause (suc s) ≡ cause)
  -- the handler is at mtvec
  pub base : y.base (suc s) ≡ (csrs (suc s)).mtvec

-- The part's instructions keep the assumptions of Exec up to the cycle of the claim; of events only those before it count.
abbrev pub SystemLaw : Terms → (misa : ℕ) → ExecSignals → SystemSignals → (db : Bus) → (mem : ℕ → Memory) → (moments : ℕ → Moment) → Type 0
SystemLaw x misa e y db mem moments =
    (s : ℕ) → ((j : ℕ) → j ≤ s → ExecAssumed x e (bus_of x.holds db) mem j) → (x.holds ≡ true → (j : ℕ) → j < s → Alone db mem j)
    → ((j : ℕ) → j < s → SystemAssumed e y j) → SystemKept (csrs_at misa x.table e y mem moments) y moments s
