-- The equations over numbers are those over truth values, where bits are below 2.
use Rattle.std.proofs.Common.{◌≡◌, ◌∙◌, ℕ, ◌+◌, ◌*◌, ◌^◌, ◌<◌, Bool, true, false, cond, not, eqb, ◌&&◌, ◌||◌, bit_and, bit_or, refl, arith, ap}
use Rattle.core_words.specs.Values.{one_if, choose, not_of, bits_of}
use Rattle.hw_words.proofs.Bits.{bit_is}
use Rattle.bus_law.specs.Memory.{aligned_of}
use Rattle.dbus_law.specs.Words.{address_of, at_once, bit, cause_by, is_fence, is_store, kind_of, mask_of, misaligned_at, value_of}
use Rattle.dbus_law.specs.Machine.{start_by}
use Rattle.plug_dbus.specs.Machine.{Now, cause_of, done_of, given_of, mask_at, misaligned_of, needs_none_of, owed_of, starts_of, trap_of, value_at, whole_of, misaligned, starts, done_now, trap_now, cause_now, given_after, owed_after, address_after, writes_after, mask_after}

-- a number that is the bit of a truth value
pub record Tells (x : ℕ) (t : Bool) : Type 0 where
  pub is : x ≡ one_if t

pub bit_tells : (x : ℕ) → x < 2 → Tells x (eqb x 1)
bit_tells x h = record { is = bit_is x h }

and_table : (p q : Bool) → bit_and (one_if p) (one_if q) ≡ one_if (p && q)
and_table true true = refl
and_table true false = refl
and_table false true = refl
and_table false false = refl

or_table : (p q : Bool) → bit_or (one_if p) (one_if q) ≡ one_if (p || q)
or_table true true = refl
or_table true false = refl
or_table false true = refl
or_table false false = refl

not_table : (p : Bool) → not_of 1 (one_if p) ≡ one_if (not p)
not_table true = refl
not_table false = refl

both_tell : {x y : ℕ} {p q : Bool} → Tells x p → Tells y q → Tells (bit_and x y) (p && q)
both_tell {x} {y} {p} {q} a b = record { is = (λ i. bit_and (a.is i) (b.is i)) ∙ and_table p q }

one_tells : {x y : ℕ} {p q : Bool} → Tells x p → Tells y q → Tells (bit_or x y) (p || q)
one_tells {x} {y} {p} {q} a b = record { is = (λ i. bit_or (a.is i) (b.is i)) ∙ or_table p q }

none_tells : {x : ℕ} {p : Bool} → Tells x p → Tells (not_of 1 x) (not p)
none_tells {x} {p} a = record { is = ap (not_of 1) a.is ∙ not_table p }

back : (t : Bool) → eqb (one_if t) 1 ≡ t
back true = refl
back false = refl

-- the test of such a number
pub test_of : {x : ℕ} {t : Bool} → Tells x t → eqb x 1 ≡ t
test_of {x} {t} h = ap (λ n. eqb n 1) h.is ∙ back t

other_as : {x : ℕ} {t u : Bool} → Tells x t → t ≡ u → Tells x u
other_as {x} {t} {u} h e = record { is = h.is ∙ ap one_if e }

-- ---- of a word and its operands

misaligned_tells : (word a : ℕ) → Tells (misaligned_of word (address_of word a)) (misaligned_at word a)
unfolding misaligned_of misaligned_at kind_of
misaligned_tells word a =
    let v : ℕ = address_of word a in
    let half = bit_tells (bits_of word 12 12) (omega arith) in
    let whole = bit_tells (bits_of word 13 13) (omega arith) in
    let low = bit_tells (bits_of v 0 0) (omega arith) in
    let high = bit_tells (bits_of v 1 1) (omega arith) in
    one_tells (both_tell half low) (both_tell whole (one_tells high low))

needs_none_tells : (word a : ℕ) → Tells (needs_none_of word (misaligned_of word (address_of word a))) (at_once word a)
unfolding needs_none_of is_fence kind_of
needs_none_tells word a = one_tells (bit_tells (bits_of word 2 2) (omega arith)) (misaligned_tells word a)

pub whole_is : (word a : ℕ) → whole_of (address_of word a) ≡ aligned_of (address_of word a)
unfolding whole_of address_of
whole_is word a = by (address_of word a) (omega arith)
  where
    by : (v : ℕ) → v < 2 ^ 32 → whole_of v ≡ aligned_of v
    by v h = omega arith

pub mask_is : (word a : ℕ) → mask_at word (address_of word a) ≡ mask_of word a
unfolding mask_at mask_of
mask_is word a = refl

pub value_is : (word a d : ℕ) → value_at word (address_of word a) d ≡ value_of word a d
unfolding value_at value_of
value_is word a d = refl

-- ---- of a cycle

pub record AreBits (n : Now) : Type 0 where
  pub given : n.given < 2
  pub owed : n.owed < 2
  pub go : n.go < 2
  pub clear : n.clear < 2
  pub ready : n.ready < 2
  pub answered : n.answered < 2
  pub failed : n.failed < 2

start_turned : (g n c o x : Bool) → (g && not ((n || x) || (c || o))) ≡ start_by g n c o x
start_turned false n c o x = refl
start_turned true true c o x = refl
start_turned true false true o true = refl
start_turned true false true o false = refl
start_turned true false false true true = refl
start_turned true false false true false = refl
start_turned true false false false true = refl
start_turned true false false false false = refl

owed_turned : (taken o v : Bool) → (taken || (o && not v)) ≡ (taken || (o && not (o && v)))
owed_turned taken true v = refl
owed_turned taken false v = refl

module _ (n : Now) (bits : AreBits n) where
  abbrev go : Bool
  go = eqb n.go 1

  abbrev now_given : Bool
  now_given = eqb n.given 1

  abbrev now_owed : Bool
  now_owed = eqb n.owed 1

  starts_tells : Tells (starts n) (start_by go (at_once n.word n.a) now_given now_owed (eqb n.clear 1))
  unfolding starts_of
  starts_tells =
      let given = bit_tells n.given bits.given in
      let owed = bit_tells n.owed bits.owed in
      let clear = bit_tells n.clear bits.clear in
      other_as (both_tell (bit_tells n.go bits.go) (none_tells (one_tells (one_tells (needs_none_tells n.word n.a) clear) (one_tells given owed))))
      (start_turned go (at_once n.word n.a) now_given now_owed (eqb n.clear 1))

  pub given_next : eqb (given_after n) 1 ≡ (start_by go (at_once n.word n.a) now_given now_owed (eqb n.clear 1) || (now_given && not (eqb n.ready 1)))
  unfolding given_of
  given_next = test_of (one_tells starts_tells (both_tell (bit_tells n.given bits.given) (none_tells (bit_tells n.ready bits.ready))))

  pub owed_next : eqb (owed_after n) 1 ≡ ((now_given && eqb n.ready 1) || (now_owed && not (now_owed && eqb n.answered 1)))
  unfolding owed_of
  owed_next =
      test_of (one_tells (both_tell (bit_tells n.given bits.given) (bit_tells n.ready bits.ready)) (both_tell (bit_tells n.owed bits.owed) (none_tells (bit_tells n.answered bits.answered))))
      ∙ owed_turned (now_given && eqb n.ready 1) now_owed (eqb n.answered 1)

  starts_is : eqb (starts n) 1 ≡ start_by go (at_once n.word n.a) now_given now_owed (eqb n.clear 1)
  starts_is = test_of starts_tells

  pub address_next : address_after n ≡ cond (start_by go (at_once n.word n.a) now_given now_owed (eqb n.clear 1)) (aligned_of (address_of n.word n.a)) n.address
  address_next = λ i. cond (starts_is i) (whole_is n.word n.a i) n.address

  pub writes_next : eqb (writes_after n) 1 ≡ cond (start_by go (at_once n.word n.a) now_given now_owed (eqb n.clear 1)) (is_store n.word) (eqb n.writes 1)
  unfolding is_store kind_of
  writes_next = by (eqb (starts n) 1) ∙ (λ i. cond (starts_is i) (is_store n.word) (eqb n.writes 1))
    where
      by : (t : Bool) → eqb (cond t (bits_of n.word 5 5) n.writes) 1 ≡ cond t (is_store n.word) (eqb n.writes 1)
      by true = refl
      by false = refl

  pub command_next : (x y : ℕ) → choose (starts n) x y ≡ cond (start_by go (at_once n.word n.a) now_given now_owed (eqb n.clear 1)) x y
  command_next x y = λ i. cond (starts_is i) x y

  pub mask_next : mask_after n ≡ cond (start_by go (at_once n.word n.a) now_given now_owed (eqb n.clear 1)) (mask_of n.word n.a) n.mask
  mask_next = λ i. cond (starts_is i) (mask_is n.word n.a i) n.mask

  pub done_is : eqb (done_now n) 1 ≡ (go && (at_once n.word n.a || (now_owed && eqb n.answered 1)))
  unfolding done_of
  done_is = test_of (both_tell (bit_tells n.go bits.go) (one_tells (needs_none_tells n.word n.a) (both_tell (bit_tells n.owed bits.owed) (bit_tells n.answered bits.answered))))

  pub trap_is : eqb (trap_now n) 1 ≡ (not (is_fence n.word) && (misaligned_at n.word n.a || eqb n.failed 1))
  unfolding trap_of is_fence kind_of
  trap_is = test_of (both_tell (none_tells (bit_tells (bits_of n.word 2 2) (omega arith))) (one_tells (misaligned_tells n.word n.a) (bit_tells n.failed bits.failed)))

  pub cause_is : cause_now n ≡ cause_by (is_store n.word) (misaligned_at n.word n.a)
  unfolding cause_of is_store kind_of
  cause_is = (λ i. 1 * 2 ^ 2 + (store.is i * 2 ^ 1 + not_of 1 (mis.is i))) ∙ by (bit n.word 5) (misaligned_at n.word n.a)
    where
      store : Tells (bits_of n.word 5 5) (bit n.word 5)
      store = bit_tells (bits_of n.word 5 5) (omega arith)

      mis : Tells (misaligned n) (misaligned_at n.word n.a)
      mis = misaligned_tells n.word n.a

      by : (s m : Bool) → 1 * 2 ^ 2 + (one_if s * 2 ^ 1 + not_of 1 (one_if m)) ≡ cause_by s m
      by true true = refl
      by true false = refl
      by false true = refl
      by false false = refl
