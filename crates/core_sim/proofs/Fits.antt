-- What the buses drive fits the ports of a core, in all cycles.
use Rattle.std.proofs.Common.{◌≡◌, ℕ, ◌+◌, ◌-◌, ◌^◌, ◌<◌, ◌≤◌, Bool, true, false, cond, eqb, leb, List, ◌&&◌, inl, inr, length, get_or, Option, Some, None, All, refl, sym, subst, arith}
use Rattle.std.proofs.lemmas.Bool.{cases_Bool, cases_lt, leb-true}
use Rattle.std.proofs.lemmas.List.{get_or_past}
use Rattle.std.proofs.lemmas.List.Elements.{All-get_or}
use Rattle.bus_law.specs.declared.side.Answer.{Answer}
use Rattle.bus_law.specs.declared.side.Turn.{Turn}
use Rattle.bus_law.specs.declared.side.Turn.TheVariants.{Reset, Idle, Owed}
use Rattle.bus_law.specs.declared.signals.BusOut.{BusOut}
use Rattle.bus_law.specs.Memory.{Memory, IsMemory, aligned_of, is_inside, is_window, word_at, written}
use Rattle.bus_law.specs.Lanes.{lanes_at}
use Rattle.bus_law.specs.Sides.{response_of, turn_after, payload_of}
use Rattle.bus_law.specs.Answers.{State, state_at_start, fetched, accessed, driven, stores, stepped}
use Rattle.bus_law.proofs.Held.{IsByte, word_at-outside, word_at-inside, written-outside, written-inside, All-lanes_put}

-- ---- memory holds bytes

first_of_both : (a b : Bool) → (a && b) ≡ true → a ≡ true
first_of_both true b e = refl
first_of_both false b e = cc

starts_before : (m : Memory) (a : ℕ) → is_inside m a ≡ true → m.base ≤ aligned_of a
starts_before m a e = leb-true m.base (aligned_of a) (first_of_both (leb m.base (aligned_of a)) _ e)

place_is : (base a : ℕ) → base ≤ a → base + (a - base) ≡ a
place_is base a h = omega arith

abbrev pub MaybeWord : Option ℕ → Type 0
MaybeWord None = Unit {0}
MaybeWord (Some w) = w < 2 ^ 32

byte_at : (bytes : List ℕ) (at : ℕ) → All IsByte bytes → get_or bytes at 0 < 2 ^ 8
byte_at bytes at f = elim (cases_lt at (length bytes)) [
  | inl inside ↦ All-get_or IsByte bytes at 0 inside f
  | inr past ↦ let e = get_or_past bytes at 0 past in omega (arith, e)
]

lanes_below : (bytes : List ℕ) (at : ℕ) → All IsByte bytes → lanes_at bytes at < 2 ^ 32
lanes_below bytes at f =
    let b0 = byte_at bytes at f in let b1 = byte_at bytes (at + 1) f in let b2 = byte_at bytes (at + 2) f in let b3 = byte_at bytes (at + 3) f in omega (arith, b0, b1, b2, b3)

word_below : (m : Memory) (a : ℕ) → All IsByte m.bytes → MaybeWord (word_at m a)
word_below m a f = elim (cases_Bool (is_inside m a)) [
  | inl inside ↦ subst MaybeWord (sym (word_at-inside m a (aligned_of a - m.base) inside (place_is m.base (aligned_of a) (starts_before m a inside))))
      (lanes_below m.bytes (aligned_of a - m.base) f)
  | inr outside ↦ subst MaybeWord (sym (word_at-outside m a outside)) tt
]

written_bytes : (m : Memory) (a value mask : ℕ) → All IsByte m.bytes → All IsByte (written m a value mask).bytes
written_bytes m a value mask f = elim (cases_Bool (is_inside m a)) [
  | inl inside ↦ subst (λ (n : Memory). All IsByte n.bytes)
      (sym (written-inside m a value mask (aligned_of a - m.base) inside (place_is m.base (aligned_of a) (starts_before m a inside))))
      (All-lanes_put (aligned_of a - m.base) value mask m.bytes f)
  | inr outside ↦ subst (λ (n : Memory). All IsByte n.bytes) (sym (written-outside m a value mask outside)) f
]

cond_bytes : (b : Bool) (m n : Memory) → All IsByte m.bytes → All IsByte n.bytes → All IsByte (cond b m n).bytes
cond_bytes true m n f g = f
cond_bytes false m n f g = g

-- ---- answers are words

abbrev pub IsWord : Turn → Type 0
IsWord Reset = Unit {0}
IsWord (Idle left) = Unit {0}
IsWord (Owed left answer) = answer.payload < 2 ^ 32

fetched_below : (o : Option ℕ) → MaybeWord o → (fetched o).payload < 2 ^ 32
fetched_below None h = omega arith
fetched_below (Some w) h = h

accessed_below : (o : Option ℕ) (window write : Bool) → MaybeWord o → (accessed o window write).payload < 2 ^ 32
accessed_below None window write h = omega arith
accessed_below (Some w) window true h = omega arith
accessed_below (Some w) window false h = h

owed_or_idle : (b : Bool) (t u : Turn) → IsWord t → IsWord u → IsWord (cond b t u)
owed_or_idle true t u h i = h
owed_or_idle false t u h i = i

turn_below : (delay next : ℕ) (t : Turn) (given : Bool) (a : Answer) → IsWord t → a.payload < 2 ^ 32 → IsWord (turn_after delay next t given a)
turn_below delay next Reset given a h i = tt
turn_below delay next (Idle left) given a h i =
    owed_or_idle given _ (Idle left) (owed_or_idle (eqb left 0) (Owed delay a) (Idle (left - 1)) i tt) tt
turn_below delay next (Owed left owed) given a h i = owed_or_idle (eqb left 0) (Idle next) (Owed (left - 1) owed) tt h

cond_payload : (b : Bool) (a : Answer) → a.payload < 2 ^ 32 → payload_of (cond b (Some a) None) < 2 ^ 32
cond_payload true a h = h
cond_payload false a h = omega arith

response_below : (t : Turn) → IsWord t → payload_of (response_of t) < 2 ^ 32
response_below Reset h = omega arith
response_below (Idle left) h = omega arith
response_below (Owed left a) h = cond_payload (eqb left 0) a h

pub record AreWords (s : State) : Type 0 where
  pub bytes : All IsByte s.memory.bytes
  pub instruction : IsWord s.instruction.turn
  pub access : IsWord s.access.turn

pub words_at_start : (m : Memory) (delays : List ℕ) → IsMemory m → AreWords (state_at_start m delays)
words_at_start m delays h = record { bytes = h.fits; instruction = tt; access = tt }

pub words_next : (s : State) (out : BusOut) → AreWords s → AreWords (stepped s out)
words_next s out h = record {
  bytes = cond_bytes (stores s out) _ s.memory (written_bytes s.memory out.db_cmd_addr out.db_cmd_data out.db_cmd_mask h.bytes) h.bytes;
  instruction = turn_below _ _ s.instruction.turn out.ib_cmd_valid (fetched (word_at s.memory out.ib_cmd_addr)) h.instruction
      (fetched_below (word_at s.memory out.ib_cmd_addr) (word_below s.memory out.ib_cmd_addr h.bytes));
  access = turn_below _ _ s.access.turn out.db_cmd_valid _ h.access
      (accessed_below (word_at s.memory out.db_cmd_addr) (is_window out.db_cmd_addr) out.db_cmd_write (word_below s.memory out.db_cmd_addr h.bytes));
}

pub fetched_word : (s : State) → AreWords s → (driven s).ib_rsp_data < 2 ^ 32
fetched_word s h = response_below s.instruction.turn h.instruction

pub accessed_word : (s : State) → AreWords s → (driven s).db_rsp_data < 2 ^ 32
accessed_word s h = response_below s.access.turn h.access
