-- The equations of the pipeline over numbers are those over truth values, where bits are bits.
use Rattle.std.proofs.Common.{◌≡◌, ◌∙◌, ℕ, zero, suc, ◌<◌, Bool, true, false, cond, not, eqb, ◌&&◌, ◌||◌, bit_and, bit_or, refl, ap, arith}
use Rattle.std.proofs.Math.Path.{ap₂}
use Rattle.core_words.specs.Values.{one_if, not_of, bits_of, choose, join_of}
use Rattle.plug_law.specs.Decode.{is_call}
use Rattle.pipe_nets.specs.Path.{wrong_of, kill_of, asked_of, irq_of, run_of}
use Rattle.pipe_nets.specs.Finish.{through_of, ends_of, faulty_of, wins_of, traps_of, retires_of, writes_of, enters_of}
use Rattle.pipe_nets.specs.Causes.{except_cause_of, except_value_of, of_trap}
use Rattle.pipe_nets.specs.Entry.{is_call_of, fresh_except_of, fresh_writes_of, fresh_word_of, takes_of}
use Rattle.pipe_nets.specs.After.{event_of, pc_after_of, fences_of, flush_after_of, started_after_of, stopped_after_of, valid_after_of}
use Rattle.pipe_nets.specs.Told.{kind_of, kind_alone_of, told_word_of, tells_of, told_rd_of, told_value_of, told_cause_of, sys_cause_of, sys_value_of}
use Rattle.pipe_nets.specs.Unit.{go_of, clear_of}
use Rattle.pipe_steps.specs.Equations.{slot_after_of, fresh_chosen_of, fetch_fence_of, front_writes_of, we_of}

-- ---- operators

bit_is : (n : ℕ) → n < 2 → n ≡ one_if (eqb n 1)
bit_is zero h = refl
bit_is (suc zero) h = refl
bit_is (suc (suc n)) h = absurd (omega arith)

bit_back : (b : Bool) → eqb (one_if b) 1 ≡ b
bit_back true = refl
bit_back false = refl

not_bit : (a : Bool) → not_of 1 (one_if a) ≡ one_if (not a)
not_bit true = refl
not_bit false = refl

and_bits : (a b : Bool) → bit_and (one_if a) (one_if b) ≡ one_if (a && b)
and_bits true true = refl
and_bits true false = refl
and_bits false b = refl

or_bits : (a b : Bool) → bit_or (one_if a) (one_if b) ≡ one_if (a || b)
or_bits true true = refl
or_bits true false = refl
or_bits false true = refl
or_bits false false = refl

-- a value of one bit is that of a truth value
pub record Bit (x : ℕ) (b : Bool) : Type 0 where
  pub is : x ≡ one_if b

pub bit_of : (n : ℕ) → n < 2 → Bit n (eqb n 1)
bit_of n h = record { is = bit_is n h }

-- the truth value of a bit
pub test_is : {x : ℕ} {b : Bool} → Bit x b → eqb x 1 ≡ b
test_is {x} {b} p = ap (λ v. eqb v 1) p.is ∙ bit_back b

-- what has a bit's value is that bit
pub from : {x y : ℕ} {b : Bool} → x ≡ y → Bit y b → Bit x b
from p q = record { is = p ∙ q.is }

turned : {x : ℕ} {a : Bool} → Bit x a → Bit (not_of 1 x) (not a)
turned {x} {a} p = record { is = ap (not_of 1) p.is ∙ not_bit a }

pub both : {x y : ℕ} {a b : Bool} → Bit x a → Bit y b → Bit (bit_and x y) (a && b)
both {x} {y} {a} {b} p q = record { is = ap₂ bit_and p.is q.is ∙ and_bits a b }

pub either : {x y : ℕ} {a b : Bool} → Bit x a → Bit y b → Bit (bit_or x y) (a || b)
either {x} {y} {a} {b} p q = record { is = ap₂ bit_or p.is q.is ∙ or_bits a b }

tested : (b : Bool) → Bit (one_if b) b
tested b = record { is = refl }

pub chosen : {c : ℕ} {t : Bool} → Bit c t → (a b : ℕ) → choose c a b ≡ cond t a b
chosen {c} {t} p a b = ap (λ x. cond x a b) (test_is p)

picked : {c a b : ℕ} {t x y : Bool} → Bit c t → Bit a x → Bit b y → Bit (choose c a b) (cond t x y)
picked {c} {a} {b} {t} {x} {y} p q r = record { is = chosen p a b ∙ go t }
  where
    go : (t : Bool) → cond t a b ≡ one_if (cond t x y)
    go true = q.is
    go false = r.is

-- ---- the path of the program

wrong_bit : (pc apc : ℕ) → Bit (wrong_of pc apc) (not (eqb pc apc))
unfolding wrong_of
wrong_bit pc apc = turned (tested (eqb pc apc))

pub kill_bit : {flush valid offered : ℕ} {f v o : Bool} → Bit flush f → Bit valid v → Bit offered o → (pc offered_pc apc : ℕ)
    → Bit (kill_of flush valid pc offered offered_pc apc) (f || cond v (not (eqb pc apc)) (o && not (eqb offered_pc apc)))
unfolding kill_of
kill_bit f v o pc offered_pc apc = either f (picked v (wrong_bit pc apc) (both o (wrong_bit offered_pc apc)))

pub asked_bit : {take_irq started : ℕ} {t s : Bool} → Bit take_irq t → Bit started s → Bit (asked_of take_irq started) (t && not s)
unfolding asked_of
asked_bit t s = both t (turned s)

and_assoc : (a b c : Bool) → ((a && b) && c) ≡ (a && (b && c))
and_assoc true b c = refl
and_assoc false b c = refl

pub irq_bit : {take_irq started kill : ℕ} {t s k : Bool} → Bit take_irq t → Bit started s → Bit kill k → Bit (irq_of (asked_of take_irq started) kill) (t && (not s && not k))
unfolding irq_of
irq_bit {t = t} {s = s} {k = k} p q r = record { is = (both (asked_bit p q) (turned r)).is ∙ ap one_if (and_assoc t (not s) (not k)) }

pub run_bit : {valid started flush take_irq : ℕ} {v s f t : Bool} → Bit valid v → Bit started s → Bit flush f → (pc apc : ℕ) → Bit take_irq t
    → Bit (run_of valid started flush pc apc take_irq) (v && (s || not (f || (not (eqb pc apc) || t))))
unfolding run_of
run_bit v s f pc apc t = both v (either s (turned (either f (either (wrong_bit pc apc) t))))

-- ---- how the item in front ends

pub through_bit : {except finished : ℕ} {e f : Bool} → Bit except e → Bit finished f → Bit (through_of except finished) (e || f)
unfolding through_of
through_bit e f = either e f

pub ends_bit : {run through : ℕ} {r t : Bool} → Bit run r → Bit through t → Bit (ends_of run through) (r && t)
unfolding ends_of
ends_bit r t = both r t

pub faulty_bit : {except trap : ℕ} {e t : Bool} → Bit except e → Bit trap t → Bit (faulty_of except trap) (e || t)
unfolding faulty_of
faulty_bit e t = either e t

pub wins_bit : {writes trap : ℕ} {w t : Bool} → Bit writes w → Bit trap t → Bit (wins_of writes trap) (w && not t)
unfolding wins_of
wins_bit w t = both w (turned t)

pub traps_bit : {ends faulty : ℕ} {e f : Bool} → Bit ends e → Bit faulty f → Bit (traps_of ends faulty) (e && f)
unfolding traps_of
traps_bit e f = both e f

pub retires_bit : {ends except trap : ℕ} {e x t : Bool} → Bit ends e → Bit except x → Bit trap t → Bit (retires_of ends except trap) (e && (not x && not t))
unfolding retires_of
retires_bit e x t = both e (both (turned x) (turned t))

pub writes_bit : {ends wins : ℕ} {e w : Bool} → Bit ends e → Bit wins w → Bit (writes_of ends wins) (e && w)
unfolding writes_of
writes_bit e w = both e w

pub enters_bit : {valid through : ℕ} {v t : Bool} → Bit valid v → Bit through t → Bit (enters_of valid through) (not v || t)
unfolding enters_of
enters_bit v t = either (turned v) t

-- ---- causes

pub except_cause_is : {error legal : ℕ} {e l : Bool} → Bit error e → Bit legal l → (word : ℕ)
    → except_cause_of error legal word ≡ cond e 1 (cond l (cond (eqb (bits_of word 20 20) 1) 3 11) 2)
unfolding except_cause_of
except_cause_is {e = e} p q word = chosen p 1 _ ∙ ap (cond e 1) (chosen q _ 2)

pub except_value_is : {error legal : ℕ} {e l : Bool} → Bit error e → Bit legal l → (pc word : ℕ) → except_value_of error legal pc word ≡ cond e pc (cond l 0 word)
unfolding except_value_of
except_value_is {e = e} p q pc word = chosen p pc _ ∙ ap (cond e pc) (chosen q 0 word)

pub of_trap_is : {except : ℕ} {e : Bool} → Bit except e → (own unit : ℕ) → of_trap except own unit ≡ cond e own unit
unfolding of_trap
of_trap_is e own unit = chosen e own unit

-- ---- the item that is offered

pub fresh_except_bit : {error legal : ℕ} {e l : Bool} → Bit error e → Bit legal l → (row : ℕ) → Bit (fresh_except_of error legal row) (e || (not l || is_call row))
unfolding fresh_except_of is_call_of
fresh_except_bit e l row = either e (either (turned l) (either (tested (eqb row 38)) (tested (eqb row 39))))

pub fresh_writes_bit : {writes legal error : ℕ} {w l e : Bool} → Bit writes w → Bit legal l → Bit error e → Bit (fresh_writes_of writes legal error) (w && (l && not e))
unfolding fresh_writes_of
fresh_writes_bit w l e = both w (both l (turned e))

pub fresh_word_is : {error : ℕ} {e : Bool} → Bit error e → (word : ℕ) → fresh_word_of error word ≡ cond e 0 word
unfolding fresh_word_of
fresh_word_is e word = chosen e 0 word

pub fresh_chosen_bit : {except : ℕ} {e : Bool} → (unit entry : ℕ) → Bit except e → Bit (fresh_chosen_of unit entry except) (eqb unit entry && not e)
unfolding fresh_chosen_of
fresh_chosen_bit unit entry e = both (tested (eqb unit entry)) (turned e)

pub takes_bit : {offered enters hold kill stopped : ℕ} {o e h k s : Bool} → Bit offered o → Bit enters e → Bit hold h → Bit kill k → Bit stopped s
    → Bit (takes_of offered enters hold kill stopped) ((o && e) && (not h && (not k && not s)))
unfolding takes_of
takes_bit o e h k s = both (both o e) (both (turned h) (both (turned k) (turned s)))

pub slot_after_is : {enters : ℕ} {e : Bool} → Bit enters e → (fresh kept : ℕ) → slot_after_of enters fresh kept ≡ cond e fresh kept
unfolding slot_after_of
slot_after_is e fresh kept = chosen e fresh kept

pub slot_after_bit : {enters fresh kept : ℕ} {e f k : Bool} → Bit enters e → Bit fresh f → Bit kept k → Bit (slot_after_of enters fresh kept) (cond e f k)
unfolding slot_after_of
slot_after_bit e f k = picked e f k

-- ---- next values

pub event_bit : {ends irq : ℕ} {e i : Bool} → Bit ends e → Bit irq i → Bit (event_of ends irq) (e || i)
unfolding event_of
event_bit e i = either e i

pub pc_after_is : {event asked faulty : ℕ} {e a f : Bool} → Bit event e → Bit asked a → Bit faulty f → (base next_pc apc : ℕ)
    → pc_after_of event asked faulty base next_pc apc ≡ cond e (cond (a || f) base next_pc) apc
unfolding pc_after_of
pc_after_is {e = e} p q r base next_pc apc = chosen p _ apc ∙ ap (λ x. cond e x apc) (chosen (either q r) base next_pc)

pub fences_bit : {retires fence : ℕ} {r f : Bool} → Bit retires r → Bit fence f → Bit (fences_of retires fence) (r && f)
unfolding fences_of
fences_bit r f = both r f

pub flush_after_bit : {irq traps fences : ℕ} {i t f : Bool} → Bit irq i → Bit traps t → Bit fences f → Bit (flush_after_of irq traps fences) (i || (t || f))
unfolding flush_after_of
flush_after_bit i t f = either i (either t f)

pub started_after_bit : {run ends : ℕ} {r e : Bool} → Bit run r → Bit ends e → Bit (started_after_of run ends) (r && not e)
unfolding started_after_of
started_after_bit r e = both r (turned e)

pub stopped_after_bit : {stopped traps : ℕ} {s t : Bool} → Bit stopped s → Bit traps t → Bit (stopped_after_of stopped traps) (s || t)
unfolding stopped_after_of
stopped_after_bit s t = either s t

pub valid_after_bit : {kill irq takes enters : ℕ} {k i t e : Bool} → Bit kill k → Bit irq i → Bit takes t → Bit enters e
    → Bit (valid_after_of kill irq takes enters) (not (k || i) && (t || not e))
unfolding valid_after_of
valid_after_bit k i t e = both (turned (either k i)) (either t (turned e))

-- ---- what parts are given

pub fetch_fence_bit : {kill flush_fence : ℕ} {k f : Bool} → Bit kill k → Bit flush_fence f → Bit (fetch_fence_of kill flush_fence) (k && f)
unfolding fetch_fence_of
fetch_fence_bit k f = both k f

pub front_writes_bit : {valid writes : ℕ} {v w : Bool} → Bit valid v → Bit writes w → Bit (front_writes_of valid writes) (v && w)
unfolding front_writes_of
front_writes_bit v w = both v w

-- in a cycle with `reset` nothing is written, and in each other cycle what leaves
pub we_first : {reset writes : ℕ} {w : Bool} → reset ≡ 1 → Bit writes w → Bit (we_of reset writes) false
unfolding we_of
we_first r w = both {a = false} (record { is = ap (not_of 1) r }) w

pub we_later : {reset writes : ℕ} {w : Bool} → reset ≡ 0 → Bit writes w → Bit (we_of reset writes) w
unfolding we_of
we_later r w = both {a = true} (record { is = ap (not_of 1) r }) w

pub go_bit : {works chosen : ℕ} {w c : Bool} → Bit works w → Bit chosen c → Bit (go_of works chosen) (w && c)
unfolding go_of
go_bit w c = both w c

pub clear_bit : {kill irq : ℕ} {k i : Bool} → Bit kill k → Bit irq i → Bit (clear_of kill irq) (k || i)
unfolding clear_of
clear_bit k i = either k i

-- ---- what an event tells

pub kind_is : {asked faulty : ℕ} {a f : Bool} → Bit asked a → Bit faulty f → kind_of asked faulty ≡ cond a 2 (cond f 1 0)
unfolding kind_of
kind_is {asked} {faulty} {a} {f} p q = ap₂ (λ x y. join_of 1 x y) p.is (both q (turned p)).is ∙ go a f
  where
    go : (a f : Bool) → join_of 1 (one_if a) (one_if (f && not a)) ≡ cond a 2 (cond f 1 0)
    go true true = refl
    go true false = refl
    go false true = refl
    go false false = refl

-- without System no interrupt is asked for
pub kind_alone_is : {asked faulty : ℕ} {f : Bool} → Bit asked false → Bit faulty f → kind_alone_of asked faulty ≡ cond f 3 0
unfolding kind_alone_of
kind_alone_is {asked} {faulty} {f} p q = ap₂ (λ x y. join_of 1 x y) (both q (turned p)).is (both q (turned p)).is ∙ go f
  where
    go : (f : Bool) → join_of 1 (one_if (f && true)) (one_if (f && true)) ≡ cond f 3 0
    go true = refl
    go false = refl

pub told_word_is : {asked : ℕ} {a : Bool} → Bit asked a → (word : ℕ) → told_word_of asked word ≡ cond a 0 word
unfolding told_word_of
told_word_is a word = chosen a 0 word

pub tells_bit : {wins asked : ℕ} {w a : Bool} → Bit wins w → Bit asked a → Bit (tells_of wins asked) (w && not a)
unfolding tells_of
tells_bit w a = both w (turned a)

pub told_rd_is : {tells : ℕ} {t : Bool} → Bit tells t → (word : ℕ) → told_rd_of tells word ≡ cond t (bits_of word 11 7) 0
unfolding told_rd_of
told_rd_is t word = chosen t _ 0

pub told_value_is : {tells : ℕ} {t : Bool} → Bit tells t → (value : ℕ) → told_value_of tells value ≡ cond t value 0
unfolding told_value_of
told_value_is t value = chosen t value 0

pub told_cause_is : {asked faulty : ℕ} {a f : Bool} → Bit asked a → Bit faulty f → (irq_cause cause : ℕ)
    → told_cause_of asked irq_cause faulty cause ≡ cond a irq_cause (cond f cause 0)
unfolding told_cause_of
told_cause_is {a = a} p q irq_cause cause = chosen p irq_cause _ ∙ ap (cond a irq_cause) (chosen q cause 0)

pub sys_cause_is : {asked : ℕ} {a : Bool} → Bit asked a → (irq_cause cause : ℕ) → sys_cause_of asked irq_cause cause ≡ cond a irq_cause cause
unfolding sys_cause_of
sys_cause_is a irq_cause cause = chosen a irq_cause cause

pub sys_value_is : {asked : ℕ} {a : Bool} → Bit asked a → (value : ℕ) → sys_value_of asked value ≡ cond a 0 value
unfolding sys_value_of
sys_value_is a value = chosen a 0 value
