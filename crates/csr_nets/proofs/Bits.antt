-- The equations over numbers are those over truth values, where bits are below 2.
use Rattle.std.proofs.Common.{◌≡◌, ◌∙◌, ℕ, ◌+◌, ◌*◌, ◌/◌, ◌^◌, ◌<◌, ◌≤◌, Bool, true, false, cond, not, eqb, ◌∷◌, [], ◌&&◌, ◌||◌, bit_and, bit_or, refl, arith, ap, sym, subst}
use Rattle.std.specs.Int.Bits.{or_zero_r}
use Rattle.std.proofs.lemmas.Bool.{both_ways, eq-eqb, eqb-true}
use Rattle.std.proofs.lemmas.Nat.{and_le_l, or_lt}
use Rattle.core_words.specs.Values.{one_if, add_of, join_of, not_of, bits_of}
use Rattle.core_words.specs.Fields.{csr_of, rs1_of}
use Rattle.hw_words.proofs.Bits.{bit_is}
use Rattle.isa_csr.specs.Csrs.{readable}
use Rattle.csr_law.specs.Words.{bit, is_access, is_refused_number, is_return, is_wait, new_of, operand_of, writes_of}
use Rattle.csr_law.specs.Machine.{State, at_places, gathered, is_there, shown}
use Rattle.csr_nets.specs.Machine.{HeldNow, HitsNow, LinesNow, Now, access_of, any_by, any_now, cause_by, changed_by, done_by, done_now, enters_by, epc_by, held_after, hit_of, hits_now, hits_of, identity_of, irq_cause_by, kind_now, known_by, new_now, next_pc_by, old_by, old_now, on_by, operand_by, outer_by, own_by, places_by, read_only_of, rest_by, return_of, scratch_by, soft_by, status_by, take_by, take_now, timer_by, trap_by, trap_now, tval_by, tvec_by, wait_of, was_by, whole_by, write_of}

-- a number that is the bit of a truth value
pub record Tells (x : ℕ) (t : Bool) : Type 0 where
  pub is : x ≡ one_if t

bit_tells : (x : ℕ) → x < 2 → Tells x (eqb x 1)
bit_tells x h = record { is = bit_is x h }

test_tells : (t : Bool) → Tells (one_if t) t
test_tells t = record { is = refl }

and_table : (p q : Bool) → bit_and (one_if p) (one_if q) ≡ one_if (p && q)
and_table true true = refl
and_table true false = refl
and_table false true = refl
and_table false false = refl

or_table : (p q : Bool) → bit_or (one_if p) (one_if q) ≡ one_if (p || q)
or_table true true = refl
or_table true false = refl
or_table false true = refl
or_table false false = refl

not_table : (p : Bool) → not_of 1 (one_if p) ≡ one_if (not p)
not_table true = refl
not_table false = refl

both_tell : {x y : ℕ} {p q : Bool} → Tells x p → Tells y q → Tells (bit_and x y) (p && q)
both_tell {x} {y} {p} {q} a b = record { is = (λ i. bit_and (a.is i) (b.is i)) ∙ and_table p q }

one_tells : {x y : ℕ} {p q : Bool} → Tells x p → Tells y q → Tells (bit_or x y) (p || q)
one_tells {x} {y} {p} {q} a b = record { is = (λ i. bit_or (a.is i) (b.is i)) ∙ or_table p q }

none_tells : {x : ℕ} {p : Bool} → Tells x p → Tells (not_of 1 x) (not p)
none_tells {x} {p} a = record { is = ap (not_of 1) a.is ∙ not_table p }

back : (t : Bool) → eqb (one_if t) 1 ≡ t
back true = refl
back false = refl

-- the test of such a number
test_of : {x : ℕ} {t : Bool} → Tells x t → eqb x 1 ≡ t
test_of {x} {t} h = ap (λ n. eqb n 1) h.is ∙ back t

other_as : {x : ℕ} {t u : Bool} → Tells x t → t ≡ u → Tells x u
other_as {x} {t} {u} h e = record { is = h.is ∙ ap one_if e }

own_test : {x : ℕ} {t : Bool} → Tells x t → Tells x (eqb x 1)
own_test h = other_as h (sym (test_of h))

-- ---- the number of a CSR

equal : (a b : ℕ) → a ≡ b → eqb a b ≡ true
equal a b h = eq-eqb a b h

unequal : (a b : ℕ) → (a ≡ b → ⊥) → eqb a b ≡ false
unequal a b h = by (eqb a b) refl
  where
    by : (t : Bool) → eqb a b ≡ t → eqb a b ≡ false
    by true e = absurd (h (eqb-true a b e))
    by false e = e

swapped : (a b : ℕ) → eqb a b ≡ eqb b a
swapped a b = by (eqb a b) refl
  where
    by : (t : Bool) → eqb a b ≡ t → t ≡ eqb b a
    by true e = sym (equal b a (sym (eqb-true a b e)))
    by false e = sym (unequal b a (λ h. both_ways (eqb a b) e (equal a b (sym h))))

-- a number is another where both parts are
by_parts : (p q u l n number : ℕ) → n ≡ 8 * p + q → q < 8 → l < 8 → number ≡ 8 * u + l → (eqb p u && eqb q l) ≡ eqb number n
by_parts p q u l n number is q8 l8 made = by (eqb p u) refl (eqb q l) refl
  where
    by : (s : Bool) → eqb p u ≡ s → (t : Bool) → eqb q l ≡ t → (s && t) ≡ eqb number n
    by true a true b =
        let pu : p ≡ u = eqb-true p u a in
        let ql : q ≡ l = eqb-true q l b in
        sym (equal number n (omega arith))
    by true a false b = sym (unequal number n (λ h. both_ways (eqb q l) b (equal q l (omega arith))))
    by false a t b = sym (unequal number n (λ h. both_ways (eqb p u) a (equal p u (omega arith))))

hit_tells : (word upper lower number : ℕ) → lower < 8 → number ≡ 8 * upper + lower → Tells (hit_of word upper lower) (eqb number (csr_of word))
unfolding hit_of
hit_tells word upper lower number low made =
    let is : bits_of word 31 20 ≡ 8 * bits_of word 31 23 + bits_of word 22 20 = omega arith in
    let few : bits_of word 22 20 < 8 = omega arith in
    other_as (both_tell (test_tells (eqb (bits_of word 31 23) upper)) (test_tells (eqb (bits_of word 22 20) lower)))
    (by_parts (bits_of word 31 23) (bits_of word 22 20) upper lower (bits_of word 31 20) number is few low made)

or_off : (b : Bool) → b ≡ (b || false)
or_off true = refl
or_off false = refl

module _ (word : ℕ) where
  abbrev named : ℕ
  named = csr_of word

  identity_tells : Tells (identity_of word) (eqb 0xf11 named || (eqb 0xf12 named || (eqb 0xf13 named || (eqb 0xf14 named || false))))
  unfolding identity_of
  identity_tells =
      one_tells (hit_tells word 0x1e2 1 0xf11 (omega arith) refl) (one_tells (hit_tells word 0x1e2 2 0xf12 (omega arith) refl)
      (one_tells (hit_tells word 0x1e2 3 0xf13 (omega arith) refl) (other_as (hit_tells word 0x1e2 4 0xf14 (omega arith) refl) (or_off (eqb 0xf14 named)))))

  status_tells : Tells (hits_of word).status (eqb 0x300 named)
  status_tells = hit_tells word 0x60 0 0x300 (omega arith) refl

  isa_tells : Tells (hits_of word).isa (eqb 0x301 named)
  isa_tells = hit_tells word 0x60 1 0x301 (omega arith) refl

  enables_tells : Tells (hits_of word).enables (eqb 0x304 named)
  enables_tells = hit_tells word 0x60 4 0x304 (omega arith) refl

  vector_tells : Tells (hits_of word).vector (eqb 0x305 named)
  vector_tells = hit_tells word 0x60 5 0x305 (omega arith) refl

  scratch_tells : Tells (hits_of word).scratch (eqb 0x340 named)
  scratch_tells = hit_tells word 0x68 0 0x340 (omega arith) refl

  epc_tells : Tells (hits_of word).epc (eqb 0x341 named)
  epc_tells = hit_tells word 0x68 1 0x341 (omega arith) refl

  cause_tells : Tells (hits_of word).cause (eqb 0x342 named)
  cause_tells = hit_tells word 0x68 2 0x342 (omega arith) refl

  tval_tells : Tells (hits_of word).tval (eqb 0x343 named)
  tval_tells = hit_tells word 0x68 3 0x343 (omega arith) refl

  pending_tells : Tells (hits_of word).pending (eqb 0x344 named)
  pending_tells = hit_tells word 0x68 4 0x344 (omega arith) refl

  known_tells : Tells (known_by (hits_of word)) (eqb 0x300 named || (eqb 0x301 named || (eqb 0x304 named || (eqb 0x305 named || (eqb 0x340 named || (eqb 0x341 named || (eqb 0x342 named || (eqb 0x343 named || (eqb 0x344 named
      || (eqb 0xf11 named || (eqb 0xf12 named || (eqb 0xf13 named || (eqb 0xf14 named || false)))))))))))))
  unfolding known_by
  known_tells =
      one_tells status_tells (one_tells isa_tells (one_tells enables_tells (one_tells vector_tells (one_tells scratch_tells (one_tells epc_tells
      (one_tells cause_tells (one_tells tval_tells (one_tells pending_tells identity_tells))))))))

  read_only_tells : Tells (read_only_of word) (is_refused_number named)
  unfolding read_only_of
  read_only_tells =
      let same : bits_of word 31 30 ≡ bits_of (bits_of word 31 20) 11 10 = omega arith in
      other_as (test_tells (eqb (bits_of word 31 30) 3)) (ap (λ v. eqb v 3) same)

  -- ---- what the word is

  access_tells : Tells (access_of word) (is_access word)
  unfolding access_of is_access
  access_tells = one_tells (bit_tells (bits_of word 12 12) (omega arith)) (bit_tells (bits_of word 13 13) (omega arith))

  return_tells : Tells (return_of word (access_of word)) (is_return word)
  unfolding return_of is_return is_access
  return_tells = both_tell (none_tells access_tells) (bit_tells (bits_of word 29 29) (omega arith))

  wait_tells : Tells (wait_of word (access_of word)) (is_wait word)
  unfolding wait_of is_wait is_access
  wait_tells = both_tell (none_tells access_tells) (none_tells (bit_tells (bits_of word 29 29) (omega arith)))

  write_tells : Tells (write_of word) (writes_of word)
  unfolding write_of writes_of
  write_tells = one_tells (none_tells (bit_tells (bits_of word 13 13) (omega arith))) (none_tells (test_tells (eqb (bits_of word 19 15) 0)))

  operand_is : (a : ℕ) → operand_by word a ≡ operand_of word a
  unfolding operand_by operand_of
  operand_is a = λ i. cond (bit word 14) (zero_above (rs1_of word) i) a
    where
      zero_above : (x : ℕ) → join_of 5 0 x ≡ x
      zero_above x = omega arith

  new_is : (a old : ℕ) → changed_by word (operand_by word a) old ≡ new_of word a old
  unfolding changed_by new_of
  new_is a old = λ i. cond (bit word 13) (cond (bit word 12) (bit_and old (not_of 32 (operand_is a i))) (bit_or old (operand_is a i))) (operand_is a i)

  operand_fits : (a : ℕ) → a < 2 ^ 32 → operand_of word a < 2 ^ 32
  unfolding operand_of
  operand_fits a h = by (bit word 14)
    where
      by : (t : Bool) → cond t (rs1_of word) a < 2 ^ 32
      by true = omega arith
      by false = h

  new_fits : (a old : ℕ) → a < 2 ^ 32 → old < 2 ^ 32 → new_of word a old < 2 ^ 32
  unfolding new_of
  new_fits a old h k = by (bit word 13) (bit word 12)
    where
      by : (s t : Bool) → cond s (cond t (bit_and old (not_of 32 (operand_of word a))) (bit_or old (operand_of word a))) (operand_of word a) < 2 ^ 32
      by true true = let l : bit_and old (not_of 32 (operand_of word a)) ≤ old = and_le_l old (not_of 32 (operand_of word a)) in omega arith
      by true false = or_lt 32 old (operand_of word a) k (operand_fits a h)
      by false t = operand_fits a h

-- ---- the registers as they are read

status_is : (on was : ℕ) → status_by on was ≡ 3 * 2 ^ 11 + was * 2 ^ 7 + on * 2 ^ 3
unfolding status_by
status_is on was = omega arith

places_is : (soft timer outer : ℕ) → places_by soft timer outer ≡ soft * 2 ^ 3 + timer * 2 ^ 7 + outer * 2 ^ 11
unfolding places_by
places_is soft timer outer = omega arith

pub whole_is : (above : ℕ) → whole_by above ≡ above * 4
unfolding whole_by
whole_is above = omega arith

lines_read : (s t o : Bool) → at_places s t o ≡ bit_and (at_places s t o) 0x888
lines_read true true true = refl
lines_read true true false = refl
lines_read true false true = refl
lines_read true false false = refl
lines_read false true true = refl
lines_read false true false = refl
lines_read false false true = refl
lines_read false false false = refl

no_value : (b : Bool) → ◌≡◌ {A = ℕ} (cond b 0 0) 0
no_value true = refl
no_value false = refl

-- what the registers hold, in truth values
abbrev pub state_of : HeldNow → State
state_of s = record {
  on = eqb s.on 1;
  was = eqb s.was 1;
  soft = eqb s.soft 1;
  timer = eqb s.timer 1;
  outer = eqb s.outer 1;
  tvec = s.tvec;
  epc = s.epc;
  scratch = s.scratch;
  cause = s.cause;
  tval = s.tval;
}

abbrev pub lines_of : LinesNow → ℕ
lines_of l = at_places (eqb l.soft 1) (eqb l.timer 1) (eqb l.outer 1)

-- ---- of a cycle

pub record AreBits (n : Now) : Type 0 where
  pub on : n.held.on < 2
  pub was : n.held.was < 2
  pub soft : n.held.soft < 2
  pub timer : n.held.timer < 2
  pub outer : n.held.outer < 2
  pub soft_line : n.lines.soft < 2
  pub timer_line : n.lines.timer < 2
  pub outer_line : n.lines.outer < 2
  pub go : n.given.go < 2
  pub clear : n.given.clear < 2
  pub event : n.told.event < 2
  -- and what is wider fits
  pub tvec : n.held.tvec < 2 ^ 30
  pub epc : n.held.epc < 2 ^ 30
  pub scratch : n.held.scratch < 2 ^ 32
  pub cause : n.held.cause < 2 ^ 32
  pub tval : n.held.tval < 2 ^ 32
  pub a : n.given.a < 2 ^ 32
  pub told_pc : n.told.pc < 2 ^ 32

and_turned : (o a w h : Bool) → ((o && (a && w)) && h) ≡ (o && (a && (w && h)))
and_turned true true w h = refl
and_turned true false w h = refl
and_turned false a w h = refl

module _ (misa : ℕ) (n : Now) (bits : AreBits n) where
  abbrev word : ℕ
  word = n.given.word

  abbrev pub old : ℕ
  old = gathered (readable (shown misa (state_of n.held)) (lines_of n.lines)) (csr_of word)

  abbrev pub there : Bool
  there = is_there (readable (shown misa (state_of n.held)) (lines_of n.lines)) (csr_of word)

  abbrev pub any : Bool
  any = (eqb n.held.soft 1 && eqb n.lines.soft 1) || ((eqb n.held.timer 1 && eqb n.lines.timer 1) || (eqb n.held.outer 1 && eqb n.lines.outer 1))

  places_of : (s t o : ℕ) → s < 2 → t < 2 → o < 2 → places_by s t o ≡ at_places (eqb s 1) (eqb t 1) (eqb o 1)
  places_of s t o a b c = places_is s t o ∙ (λ i. bit_is s a i * 2 ^ 3 + bit_is t b i * 2 ^ 7 + bit_is o c i * 2 ^ 11)

  tail_is : (k : ℕ) → gathered ((0xf11, 0) ∷ (0xf12, 0) ∷ (0xf13, 0) ∷ (0xf14, 0) ∷ []) k ≡ 0
  tail_is k = λ i. bit_or (no_value (eqb 0xf11 k) i) (bit_or (no_value (eqb 0xf12 k) i) (bit_or (no_value (eqb 0xf13 k) i) (bit_or (no_value (eqb 0xf14 k) i) 0)))

  last_is : (x : ℕ) → x ≡ bit_or x (gathered ((0xf11, 0) ∷ (0xf12, 0) ∷ (0xf13, 0) ∷ (0xf14, 0) ∷ []) (csr_of word))
  last_is x = sym (ap (bit_or x) (tail_is (csr_of word)) ∙ or_zero_r x)

  pub old_is : old_now misa n ≡ old
  unfolding old_by rest_by
  old_is = λ i.
      bit_or (cond (test_of (status_tells word) i) ((status_is n.held.on n.held.was ∙ (λ j. 3 * 2 ^ 11 + bit_is n.held.was bits.was j * 2 ^ 7 + bit_is n.held.on bits.on j * 2 ^ 3)) i) 0)
      (bit_or (cond (test_of (isa_tells word) i) misa 0)
      (bit_or (cond (test_of (enables_tells word) i) (places_of n.held.soft n.held.timer n.held.outer bits.soft bits.timer bits.outer i) 0)
      (bit_or (cond (test_of (vector_tells word) i) (whole_is n.held.tvec i) 0)
      (bit_or (cond (test_of (scratch_tells word) i) n.held.scratch 0)
      (bit_or (cond (test_of (epc_tells word) i) (whole_is n.held.epc i) 0)
      (bit_or (cond (test_of (cause_tells word) i) n.held.cause 0)
      (bit_or (cond (test_of (tval_tells word) i) n.held.tval 0)
      (((λ j. cond (test_of (pending_tells word) j)
      ((places_of n.lines.soft n.lines.timer n.lines.outer bits.soft_line bits.timer_line bits.outer_line ∙ lines_read (eqb n.lines.soft 1) (eqb n.lines.timer 1) (eqb n.lines.outer 1)) j) 0)
      ∙ last_is (cond (eqb 0x344 (csr_of word)) (bit_and (lines_of n.lines) 0x888) 0)) i))))))))

  masked_fits : (t : Bool) (v : ℕ) → v < 2 ^ 32 → cond t v 0 < 2 ^ 32
  masked_fits true v h = h
  masked_fits false v h = omega arith

  either : (x y : ℕ) → x < 2 ^ 32 → y < 2 ^ 32 → bit_or x y < 2 ^ 32
  either x y h k = or_lt 32 x y h k

  pub old_fits : misa < 2 ^ 32 → old_now misa n < 2 ^ 32
  unfolding old_by rest_by
  old_fits m =
      let status : status_by n.held.on n.held.was < 2 ^ 32 = omega (arith, status_is n.held.on n.held.was, bits.on, bits.was) in
      let enables : places_by n.held.soft n.held.timer n.held.outer < 2 ^ 32 =
      omega (arith, places_is n.held.soft n.held.timer n.held.outer, bits.soft, bits.timer, bits.outer) in
      let vector : whole_by n.held.tvec < 2 ^ 32 = omega (arith, whole_is n.held.tvec, bits.tvec) in
      let epc : whole_by n.held.epc < 2 ^ 32 = omega (arith, whole_is n.held.epc, bits.epc) in
      let pending : places_by n.lines.soft n.lines.timer n.lines.outer < 2 ^ 32 =
      omega (arith, places_is n.lines.soft n.lines.timer n.lines.outer, bits.soft_line, bits.timer_line, bits.outer_line) in
      let h : HitsNow = hits_now misa n in
      either _ _ (masked_fits (eqb h.status 1) _ status) (either _ _ (masked_fits (eqb h.isa 1) _ m) (either _ _ (masked_fits (eqb h.enables 1) _ enables)
      (either _ _ (masked_fits (eqb h.vector 1) _ vector) (either _ _ (masked_fits (eqb h.scratch 1) _ bits.scratch) (either _ _ (masked_fits (eqb h.epc 1) _ epc)
      (either _ _ (masked_fits (eqb h.cause 1) _ bits.cause) (either _ _ (masked_fits (eqb h.tval 1) _ bits.tval) (masked_fits (eqb h.pending 1) _ pending))))))))

  pub new_now_is : new_now misa n ≡ new_of word n.given.a old
  new_now_is = new_is word n.given.a (old_now misa n) ∙ ap (new_of word n.given.a) old_is

  new_now_fits : misa < 2 ^ 32 → new_now misa n < 2 ^ 32
  new_now_fits m = subst (λ v. v < 2 ^ 32) (sym (new_is word n.given.a (old_now misa n))) (new_fits word n.given.a (old_now misa n) bits.a (old_fits m))

  -- ---- the outputs

  any_tells : Tells (any_now misa n) any
  unfolding any_by
  any_tells =
      one_tells (both_tell (bit_tells n.held.soft bits.soft) (bit_tells n.lines.soft bits.soft_line))
      (one_tells (both_tell (bit_tells n.held.timer bits.timer) (bit_tells n.lines.timer bits.timer_line)) (both_tell (bit_tells n.held.outer bits.outer) (bit_tells n.lines.outer bits.outer_line)))

  pub take_is : eqb (take_now misa n) 1 ≡ (eqb n.held.on 1 && any)
  unfolding take_by
  take_is = test_of (both_tell (bit_tells n.held.on bits.on) any_tells)

  pub irq_cause_is : irq_cause_by n.held n.lines ≡ cond (eqb n.held.outer 1 && eqb n.lines.outer 1) 0x8000000b (cond (eqb n.held.soft 1 && eqb n.lines.soft 1) 0x80000003 0x80000007)
  unfolding irq_cause_by
  irq_cause_is =
      let outer = test_of (both_tell (bit_tells n.held.outer bits.outer) (bit_tells n.lines.outer bits.outer_line)) in
      let soft = test_of (both_tell (bit_tells n.held.soft bits.soft) (bit_tells n.lines.soft bits.soft_line)) in
      λ i. cond (outer i) 0x8000000b (cond (soft i) 0x80000003 0x80000007)

  done_tells : Tells (done_now misa n) (eqb n.given.go 1 && (not (is_wait word) || any))
  unfolding done_by
  done_tells = both_tell (bit_tells n.given.go bits.go) (one_tells (none_tells (wait_tells word)) any_tells)

  pub done_is : eqb (done_now misa n) 1 ≡ (eqb n.given.go 1 && (not (is_wait word) || any))
  done_is = test_of done_tells

  trap_tells : Tells (trap_now misa n) (is_access word && (not there || (writes_of word && is_refused_number (csr_of word))))
  unfolding trap_by
  trap_tells = both_tell (access_tells word) (one_tells (none_tells (known_tells word)) (both_tell (write_tells word) (read_only_tells word)))

  pub trap_is : eqb (trap_now misa n) 1 ≡ (is_access word && (not there || (writes_of word && is_refused_number (csr_of word))))
  trap_is = test_of trap_tells

  pub next_pc_is : next_pc_by (kind_now misa n).returns n.held.epc n.given.pc ≡ cond (is_return word) (n.held.epc * 4) (add_of 32 n.given.pc 4)
  unfolding next_pc_by
  next_pc_is = λ i. cond (test_of (return_tells word) i) (whole_is n.held.epc i) (add_of 32 n.given.pc 4)

  -- ---- the registers

  own_tells : Tells (own_by (done_now misa n) (trap_now misa n) n.given.clear) (eqb (done_now misa n) 1 && (not (eqb (trap_now misa n) 1) && not (eqb n.given.clear 1)))
  unfolding own_by
  own_tells = both_tell (own_test done_tells) (both_tell (none_tells (own_test trap_tells)) (none_tells (bit_tells n.given.clear bits.clear)))

  enters_tells : Tells (enters_by n.told.event n.told.kind) (eqb n.told.event 1 && not (eqb n.told.kind 0))
  unfolding enters_by
  enters_tells = both_tell (bit_tells n.told.event bits.event) (none_tells (test_tells (eqb n.told.kind 0)))

  abbrev is_own : Bool
  is_own = eqb (done_now misa n) 1 && (not (eqb (trap_now misa n) 1) && not (eqb n.given.clear 1))

  leaves_tells : Tells (bit_and (own_by (done_now misa n) (trap_now misa n) n.given.clear) (return_of word (access_of word))) (is_own && is_return word)
  leaves_tells = both_tell own_tells (return_tells word)

  writes_to : (hit number : ℕ) → Tells hit (eqb number (csr_of word))
      → eqb (bit_and (bit_and (own_by (done_now misa n) (trap_now misa n) n.given.clear) (bit_and (access_of word) (write_of word))) hit) 1
      ≡ (is_own && (is_access word && (writes_of word && eqb (csr_of word) number)))
  writes_to hit number is =
      test_of (both_tell (both_tell own_tells (both_tell (access_tells word) (write_tells word))) (other_as is (swapped number (csr_of word))))
      ∙ and_turned is_own (is_access word) (writes_of word) (eqb (csr_of word) number)

-- what the registers hold behind a cycle, where the unit is done or not and traps or not
abbrev pub next_state : (misa : ℕ) → Now → (done trap : Bool) → State
next_state misa n done trap =
    let word : ℕ = n.given.word in
    let new : ℕ = new_of word n.given.a (gathered (readable (shown misa (state_of n.held)) (lines_of n.lines)) (csr_of word)) in
    let own : Bool = done && (not trap && not (eqb n.given.clear 1)) in
    let enters : Bool = eqb n.told.event 1 && not (eqb n.told.kind 0) in
    let leaves : Bool = own && is_return word in
    let writes_to : ℕ → Bool = λ number. own && (is_access word && (writes_of word && eqb (csr_of word) number)) in
    record {
      on = cond enters false (cond leaves (eqb n.held.was 1) (cond (writes_to 0x300) (bit new 3) (eqb n.held.on 1)));
      was = cond enters (eqb n.held.on 1) (cond leaves true (cond (writes_to 0x300) (bit new 7) (eqb n.held.was 1)));
      soft = cond (writes_to 0x304) (bit new 3) (eqb n.held.soft 1);
      timer = cond (writes_to 0x304) (bit new 7) (eqb n.held.timer 1);
      outer = cond (writes_to 0x304) (bit new 11) (eqb n.held.outer 1);
      tvec = cond (writes_to 0x305) (new / 4) n.held.tvec;
      epc = cond enters (n.told.pc / 4) (cond (writes_to 0x341) (new / 4) n.held.epc);
      scratch = cond (writes_to 0x340) new n.held.scratch;
      cause = cond enters n.told.cause (cond (writes_to 0x342) new n.held.cause);
      tval = cond enters n.told.tval (cond (writes_to 0x343) new n.held.tval);
    }

-- a test goes through choices
test_two : (w : Bool) (x y : ℕ) → eqb (cond w x y) 1 ≡ cond w (eqb x 1) (eqb y 1)
test_two true x y = refl
test_two false x y = refl

test_four : (e l w : Bool) (a b x y : ℕ) → eqb (cond e a (cond l b (cond w x y))) 1 ≡ cond e (eqb a 1) (cond l (eqb b 1) (cond w (eqb x 1) (eqb y 1)))
test_four true l w a b x y = refl
test_four false true w a b x y = refl
test_four false false true a b x y = refl
test_four false false false a b x y = refl

above_is : (v : ℕ) → v < 2 ^ 32 → bits_of v 31 2 ≡ v / 4
above_is v h = omega arith

module _ (misa : ℕ) (m : misa < 2 ^ 32) (n : Now) (bits : AreBits n) where
  abbrev w : ℕ
  w = n.given.word

  abbrev own : ℕ
  own = own_by (done_now misa n) (trap_now misa n) n.given.clear

  abbrev entry : ℕ
  entry = enters_by n.told.event n.told.kind

  abbrev leave : ℕ
  leave = bit_and own (return_of w (access_of w))

  abbrev writes : ℕ
  writes = bit_and own (bit_and (access_of w) (write_of w))

  e : eqb entry 1 ≡ (eqb n.told.event 1 && not (eqb n.told.kind 0))
  e = test_of (enters_tells misa n bits)

  l : eqb leave 1 ≡ (is_own misa n bits && is_return w)
  l = test_of (leaves_tells misa n bits)

  new : new_now misa n ≡ new_of w n.given.a (old misa n bits)
  new = new_now_is misa n bits

  above : bits_of (new_now misa n) 31 2 ≡ new_of w n.given.a (old misa n bits) / 4
  above = above_is (new_now misa n) (new_now_fits misa n bits m) ∙ ap (λ v. v / 4) new

  at_status : eqb (bit_and writes (hits_of w).status) 1 ≡ (is_own misa n bits && (is_access w && (writes_of w && eqb (csr_of w) 0x300)))
  at_status = writes_to misa n bits (hits_of w).status 0x300 (status_tells w)

  at_enables : eqb (bit_and writes (hits_of w).enables) 1 ≡ (is_own misa n bits && (is_access w && (writes_of w && eqb (csr_of w) 0x304)))
  at_enables = writes_to misa n bits (hits_of w).enables 0x304 (enables_tells w)

  pub state_after : state_of (held_after misa n) ≡ next_state misa n (eqb (done_now misa n) 1) (eqb (trap_now misa n) 1)
  unfolding on_by was_by soft_by timer_by outer_by tvec_by epc_by scratch_by cause_by tval_by
  state_after = λ i. record {
    on = (test_four (eqb entry 1) (eqb leave 1) (eqb (bit_and writes (hits_of w).status) 1) 0 n.held.was (bits_of (new_now misa n) 3 3) n.held.on
        ∙ (λ j. cond (e j) false (cond (l j) (eqb n.held.was 1) (cond (at_status j) (bit (new j) 3) (eqb n.held.on 1))))) i;
    was = (test_four (eqb entry 1) (eqb leave 1) (eqb (bit_and writes (hits_of w).status) 1) n.held.on 1 (bits_of (new_now misa n) 7 7) n.held.was
        ∙ (λ j. cond (e j) (eqb n.held.on 1) (cond (l j) true (cond (at_status j) (bit (new j) 7) (eqb n.held.was 1))))) i;
    soft = (test_two (eqb (bit_and writes (hits_of w).enables) 1) (bits_of (new_now misa n) 3 3) n.held.soft ∙ (λ j. cond (at_enables j) (bit (new j) 3) (eqb n.held.soft 1))) i;
    timer = (test_two (eqb (bit_and writes (hits_of w).enables) 1) (bits_of (new_now misa n) 7 7) n.held.timer ∙ (λ j. cond (at_enables j) (bit (new j) 7) (eqb n.held.timer 1))) i;
    outer = (test_two (eqb (bit_and writes (hits_of w).enables) 1) (bits_of (new_now misa n) 11 11) n.held.outer ∙ (λ j. cond (at_enables j) (bit (new j) 11) (eqb n.held.outer 1))) i;
    tvec = cond (writes_to misa n bits (hits_of w).vector 0x305 (vector_tells w) i) (above i) n.held.tvec;
    epc = cond (e i) (above_is n.told.pc bits.told_pc i) (cond (writes_to misa n bits (hits_of w).epc 0x341 (epc_tells w) i) (above i) n.held.epc);
    scratch = cond (writes_to misa n bits (hits_of w).scratch 0x340 (scratch_tells w) i) (new i) n.held.scratch;
    cause = cond (e i) n.told.cause (cond (writes_to misa n bits (hits_of w).cause 0x342 (cause_tells w) i) (new i) n.held.cause);
    tval = cond (e i) n.told.tval (cond (writes_to misa n bits (hits_of w).tval 0x343 (tval_tells w) i) (new i) n.held.tval);
  }
