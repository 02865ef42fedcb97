-- The unit by cycle: the CSRs that it keeps, what it does of the instruction that it is given, and the interrupt to take.
use Rattle.std.specs.Prelude.{◌≡◌, ℕ, suc, ◌+◌, ◌*◌, ◌/◌, ◌^◌, Bool, true, false, cond, not, eqb, ◌&&◌, ◌||◌, List, [], ◌∷◌, bit_or}
use Rattle.core_words.specs.Values.{one_if, add_of}
use Rattle.core_words.specs.Fields.{csr_of}
use Rattle.isa_csr.specs.Csrs.{Csrs, readable}
use Rattle.isa_model.specs.Effects.{Moment}
use Rattle.plug_law.specs.Exec.{ExecSignals}
use Rattle.plug_law.specs.System.{SystemSignals}
use Rattle.csr_law.specs.Words.{bit, is_access, is_refused_number, is_return, is_wait, new_of, writes_of}

-- what the registers hold
pub record State : Type 0 where
  -- mstatus.MIE and mstatus.MPIE
  pub on : Bool
  pub was : Bool
  -- bits 3, 7 and 11 of mie
  pub soft : Bool
  pub timer : Bool
  pub outer : Bool
  -- mtvec and mepc without their low two bits
  pub tvec : ℕ
  pub epc : ℕ
  pub scratch : ℕ
  pub cause : ℕ
  pub tval : ℕ

abbrev pub reset_state : State
reset_state = record { on = false; was = false; soft = false; timer = false; outer = false; tvec = 0; epc = 0; scratch = 0; cause = 0; tval = 0 }

-- three bits at their places in mie and mip
abbrev pub at_places : (soft timer outer : Bool) → ℕ
at_places soft timer outer = one_if soft * 2 ^ 3 + one_if timer * 2 ^ 7 + one_if outer * 2 ^ 11

-- the registers as they are read
abbrev pub shown : (misa : ℕ) → State → Csrs
shown misa g = record {
  mie_bit = one_if g.on;
  mpie_bit = one_if g.was;
  misa = misa;
  mie = at_places g.soft g.timer g.outer;
  mtvec = g.tvec * 4;
  mscratch = g.scratch;
  mepc = g.epc * 4;
  mcause = g.cause;
  mtval = g.tval;
}

-- the value read: a mask for each number, and whether there is one
abbrev pub gathered : List (ℕ × ℕ) → (number : ℕ) → ℕ
gathered [] number = 0
gathered (r ∷ rest) number = bit_or (cond (eqb r.0 number) r.1 0) (gathered rest number)

abbrev pub is_there : List (ℕ × ℕ) → (number : ℕ) → Bool
is_there [] number = false
is_there (r ∷ rest) number = eqb r.0 number || is_there rest number

-- the interrupt lines
pub record Lines : Type 0 where
  pub soft : ℕ → Bool
  pub timer : ℕ → Bool
  pub outer : ℕ → Bool

module _ (misa : ℕ) (e : ExecSignals) (y : SystemSignals) (l : Lines) (g : ℕ → State) where
  abbrev pub lines : ℕ → ℕ
  lines t = at_places (l.soft t) (l.timer t) (l.outer t)

  -- an enabled interrupt is pending
  unfoldable pub any : ℕ → Bool
  any t = ((g t).soft && l.soft t) || (((g t).timer && l.timer t) || ((g t).outer && l.outer t))

  unfoldable pub old : ℕ → ℕ
  old t = gathered (readable (shown misa (g t)) (lines t)) (csr_of (e.word t))

  unfoldable pub there : ℕ → Bool
  there t = is_there (readable (shown misa (g t)) (lines t)) (csr_of (e.word t))

  unfoldable pub refused : ℕ → Bool
  refused t = not (there t) || (writes_of (e.word t) && is_refused_number (csr_of (e.word t)))

  abbrev pub new : ℕ → ℕ
  new t = new_of (e.word t) (e.a t) (old t)

  -- the unit's own effect takes place
  abbrev pub own : ℕ → Bool
  own t = e.done t && (not (e.trap t) && not (e.clear t))

  -- a trap or an interrupt is told, which prevails over the unit's own effect
  abbrev pub enters : ℕ → Bool
  enters t = y.event t && not (eqb (y.kind t) 0)

  abbrev pub writes_to : (number t : ℕ) → Bool
  writes_to number t = own t && (is_access (e.word t) && (writes_of (e.word t) && eqb (csr_of (e.word t)) number))

  abbrev pub leaves : ℕ → Bool
  leaves t = own t && is_return (e.word t)

  -- the equations, from cycle 1 on
  pub record IsCsr : Type 0 where
    pub reset : g 1 ≡ reset_state
    pub on : (s : ℕ) → (g (suc (suc s))).on ≡ cond (enters (suc s)) false (cond (leaves (suc s)) (g (suc s)).was (cond (writes_to 0x300 (suc s)) (bit (new (suc s)) 3) (g (suc s)).on))
    pub was : (s : ℕ) → (g (suc (suc s))).was ≡ cond (enters (suc s)) (g (suc s)).on (cond (leaves (suc s)) true (cond (writes_to 0x300 (suc s)) (bit (new (suc s)) 7) (g (suc s)).was))
    pub soft : (s : ℕ) → (g (suc (suc s))).soft ≡ cond (writes_to 0x304 (suc s)) (bit (new (suc s)) 3) (g (suc s)).soft
    pub timer : (s : ℕ) → (g (suc (suc s))).timer ≡ cond (writes_to 0x304 (suc s)) (bit (new (suc s)) 7) (g (suc s)).timer
    pub outer : (s : ℕ) → (g (suc (suc s))).outer ≡ cond (writes_to 0x304 (suc s)) (bit (new (suc s)) 11) (g (suc s)).outer
    pub tvec : (s : ℕ) → (g (suc (suc s))).tvec ≡ cond (writes_to 0x305 (suc s)) (new (suc s) / 4) (g (suc s)).tvec
    pub epc : (s : ℕ) → (g (suc (suc s))).epc ≡ cond (enters (suc s)) (y.pc (suc s) / 4) (cond (writes_to 0x341 (suc s)) (new (suc s) / 4) (g (suc s)).epc)
    pub scratch : (s : ℕ) → (g (suc (suc s))).scratch ≡ cond (writes_to 0x340 (suc s)) (new (suc s)) (g (suc s)).scratch
    pub cause : (s : ℕ) → (g (suc (suc s))).cause ≡ cond (enters (suc s)) (y.cause (suc s)) (cond (writes_to 0x342 (suc s)) (new (suc s)) (g (suc s)).cause)
    pub tval : (s : ℕ) → (g (suc (suc s))).tval ≡ cond (enters (suc s)) (y.tval (suc s)) (cond (writes_to 0x343 (suc s)) (new (suc s)) (g (suc s)).tval)
    -- the outputs of Exec
    pub done : (s : ℕ) → e.done (suc s) ≡ (e.go (suc s) && (not (is_wait (e.word (suc s))) || any (suc s)))
    pub value : (s : ℕ) → e.value (suc s) ≡ old (suc s)
    pub next_pc : (s : ℕ) → e.next_pc (suc s) ≡ cond (is_return (e.word (suc s))) ((g (suc s)).epc * 4) (add_of 32 (e.pc (suc s)) 4)
    pub trap : (s : ℕ) → e.trap (suc s) ≡ (is_access (e.word (suc s)) && refused (suc s))
    pub illegal : (s : ℕ) → e.cause (suc s) ≡ 2
    pub its_word : (s : ℕ) → e.tval (suc s) ≡ e.word (suc s)
    pub fence : (s : ℕ) → e.fence (suc s) ≡ false
    -- and of System
    pub take_irq : (s : ℕ) → y.take_irq (suc s) ≡ ((g (suc s)).on && any (suc s))
    pub irq_cause : (s : ℕ) → y.irq_cause (suc s) ≡ cond ((g (suc s)).outer && l.outer (suc s)) 0x8000000b (cond ((g (suc s)).soft && l.soft (suc s)) 0x80000003 0x80000007)
    pub base : (s : ℕ) → y.base (suc s) ≡ (g (suc s)).tvec * 4

  -- the lines that the laws see are those of the part
  abbrev pub SeesLines : (moments : ℕ → Moment) → Type 0
  SeesLines moments = (s : ℕ) → (moments (suc s)).lines ≡ lines (suc s)
