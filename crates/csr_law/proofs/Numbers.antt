-- Registers by bits are the registers of the machine.
use Rattle.std.proofs.Common.{◌≡◌, ℕ, zero, suc, ◌+◌, ◌-◌, ◌*◌, ◌/◌, ◌%◌, ◌^◌, ◌<◌, Bool, true, false, cond, not, eqb, List, [], ◌∷◌, ◌&&◌, ◌||◌, Option, Some, None, bit_and, bit_or, refl, ap, ◌∙◌, sym, subst, arith}
use Rattle.std.proofs.lemmas.Nat.{and_shr, and_mod, and_mask}
use Rattle.std.specs.Int.Bits.{or_zero_r}
use Rattle.core_words.specs.Values.{one_if, bits_of}
use Rattle.isa_csr.specs.Csrs.{Csrs, at_number, csr_read, csr_write, interrupt_bits, pending, readable, wakes}
use Rattle.csr_law.specs.Words.{bit}
use Rattle.csr_law.specs.Machine.{State, at_places, gathered, is_there, shown}
use Rattle.csr_law.proofs.Tests.{and_l, and_r, not_true, or_l, or_r, same}
use Rattle.hw_words.proofs.Fields.{field_met}

one_bit : (n : ℕ) → n < 2 → n ≡ one_if (eqb n 1)
one_bit zero h = refl
one_bit (suc zero) h = refl
one_bit (suc (suc n)) h = absurd (omega arith)

-- ---- the enabled bits of a number
-- a field that a mask leaves out
field_off : (w m k j : ℕ) → m / 2 ^ k % 2 ^ j ≡ 0 → bit_and w m / 2 ^ k % 2 ^ j ≡ 0
field_off w m k j h =
    ap (λ n. n % 2 ^ j) (and_shr w m k) ∙ and_mod (w / 2 ^ k) (m / 2 ^ k) j ∙ ap (bit_and (w / 2 ^ k % 2 ^ j)) h ∙ and_mask (w / 2 ^ k % 2 ^ j) 0 ∙ none (w / 2 ^ k % 2 ^ j)
  where
    none : (n : ℕ) → n % 1 ≡ 0
    none n = omega arith

top_off : (w m k : ℕ) → m / 2 ^ k ≡ 0 → bit_and w m / 2 ^ k ≡ 0
top_off w m k h = and_shr w m k ∙ ap (bit_and (w / 2 ^ k)) h ∙ and_mask (w / 2 ^ k) 0 ∙ none (w / 2 ^ k)
  where
    none : (n : ℕ) → n % 1 ≡ 0
    none n = omega arith

pub enabled_is : (v : ℕ) → bit_and v 0x888 ≡ at_places (bit v 3) (bit v 7) (bit v 11)
enabled_is v =
    let x : ℕ = bit_and v 0x888 in
    let b3 : bits_of v 3 3 ≡ bits_of x 3 3 = field_met v 0x888 x 3 3 refl refl in
    let b7 : bits_of v 7 7 ≡ bits_of x 7 7 = field_met v 0x888 x 7 7 refl refl in
    let b11 : bits_of v 11 11 ≡ bits_of x 11 11 = field_met v 0x888 x 11 11 refl refl in
    let low : x / 1 % 8 ≡ 0 = field_off v 0x888 0 3 refl in
    let mid : x / 16 % 8 ≡ 0 = field_off v 0x888 4 3 refl in
    let high : x / 256 % 8 ≡ 0 = field_off v 0x888 8 3 refl in
    let top : x / 4096 ≡ 0 = top_off v 0x888 12 refl in
    let c3 : bits_of v 3 3 ≡ one_if (bit v 3) = one_bit (bits_of v 3 3) (omega arith) in
    let c7 : bits_of v 7 7 ≡ one_if (bit v 7) = one_bit (bits_of v 7 7) (omega arith) in
    let c11 : bits_of v 11 11 ≡ one_if (bit v 11) = one_bit (bits_of v 11 11) (omega arith) in
    sums x (one_if (bit v 3)) (one_if (bit v 7)) (one_if (bit v 11)) low (sym b3 ∙ c3) mid (sym b7 ∙ c7) high (sym b11 ∙ c11) top
  where
    sums : (x p q r : ℕ) → x / 1 % 8 ≡ 0 → x / 8 % 2 ≡ p → x / 16 % 8 ≡ 0 → x / 128 % 2 ≡ q → x / 256 % 8 ≡ 0 → x / 2048 % 2 ≡ r → x / 4096 ≡ 0 → x ≡ p * 8 + q * 128 + r * 2048
    sums x p q r a b c d e f g = omega arith

-- ---- reading
abbrev distinct : List (ℕ × ℕ) → Bool
distinct [] = true
distinct (r ∷ rest) = not (is_there rest r.0) && distinct rest

none_there : (xs : List (ℕ × ℕ)) (n : ℕ) → is_there xs n ≡ false → gathered xs n ≡ 0
none_there [] n h = refl
none_there (r ∷ rest) n h = (λ i. bit_or (cond (or_l (eqb r.0 n) (is_there rest n) h i) r.1 0) (none_there rest n (or_r (eqb r.0 n) (is_there rest n) h) i))

read_by : (xs : List (ℕ × ℕ)) (n : ℕ) → distinct xs ≡ true → at_number xs n ≡ cond (is_there xs n) (Some (gathered xs n)) None
read_by [] n h = refl
read_by (r ∷ rest) n h = by (eqb r.0 n) refl (read_by rest n (and_r (not (is_there rest r.0)) (distinct rest) h))
  where
    absent : r.0 ≡ n → is_there rest n ≡ false
    absent q = subst (λ k. is_there rest k ≡ false) q (not_true (is_there rest r.0) (and_l (not (is_there rest r.0)) (distinct rest) h))

    by : (b : Bool) → eqb r.0 n ≡ b → at_number rest n ≡ cond (is_there rest n) (Some (gathered rest n)) None
        → elim b [ true ↦ Some r.1 | false ↦ at_number rest n ] ≡ cond (b || is_there rest n) (Some (bit_or (cond b r.1 0) (gathered rest n))) None
    by true e ih = sym (λ i. Some ((ap (bit_or r.1) (none_there rest n (absent (same r.0 n e))) ∙ or_zero_r r.1) i))
    by false e ih = ih

pub read_is : (c : Csrs) (lines number : ℕ) → csr_read c lines number ≡ cond (is_there (readable c lines) number) (Some (gathered (readable c lines) number)) None
read_is c lines number = read_by (readable c lines) number refl

-- ---- interrupts
raised_by : (a b c d e f : Bool) → bit_and (at_places a b c) (at_places d e f) ≡ at_places (a && d) (b && e) (c && f)
raised_by false false false false false false = refl
raised_by false false false false false true = refl
raised_by false false false false true false = refl
raised_by false false false false true true = refl
raised_by false false false true false false = refl
raised_by false false false true false true = refl
raised_by false false false true true false = refl
raised_by false false false true true true = refl
raised_by false false true false false false = refl
raised_by false false true false false true = refl
raised_by false false true false true false = refl
raised_by false false true false true true = refl
raised_by false false true true false false = refl
raised_by false false true true false true = refl
raised_by false false true true true false = refl
raised_by false false true true true true = refl
raised_by false true false false false false = refl
raised_by false true false false false true = refl
raised_by false true false false true false = refl
raised_by false true false false true true = refl
raised_by false true false true false false = refl
raised_by false true false true false true = refl
raised_by false true false true true false = refl
raised_by false true false true true true = refl
raised_by false true true false false false = refl
raised_by false true true false false true = refl
raised_by false true true false true false = refl
raised_by false true true false true true = refl
raised_by false true true true false false = refl
raised_by false true true true false true = refl
raised_by false true true true true false = refl
raised_by false true true true true true = refl
raised_by true false false false false false = refl
raised_by true false false false false true = refl
raised_by true false false false true false = refl
raised_by true false false false true true = refl
raised_by true false false true false false = refl
raised_by true false false true false true = refl
raised_by true false false true true false = refl
raised_by true false false true true true = refl
raised_by true false true false false false = refl
raised_by true false true false false true = refl
raised_by true false true false true false = refl
raised_by true false true false true true = refl
raised_by true false true true false false = refl
raised_by true false true true false true = refl
raised_by true false true true true false = refl
raised_by true false true true true true = refl
raised_by true true false false false false = refl
raised_by true true false false false true = refl
raised_by true true false false true false = refl
raised_by true true false false true true = refl
raised_by true true false true false false = refl
raised_by true true false true false true = refl
raised_by true true false true true false = refl
raised_by true true false true true true = refl
raised_by true true true false false false = refl
raised_by true true true false false true = refl
raised_by true true true false true false = refl
raised_by true true true false true true = refl
raised_by true true true true false false = refl
raised_by true true true true false true = refl
raised_by true true true true true false = refl
raised_by true true true true true true = refl

wakes_by : (a b c : Bool) → not (eqb (at_places a b c) 0) ≡ (a || (b || c))
wakes_by true true true = refl
wakes_by true true false = refl
wakes_by true false true = refl
wakes_by true false false = refl
wakes_by false true true = refl
wakes_by false true false = refl
wakes_by false false true = refl
wakes_by false false false = refl

pub wakes_is : (misa : ℕ) (g : State) (d e f : Bool) → wakes (shown misa g) (at_places d e f) ≡ ((g.soft && d) || ((g.timer && e) || (g.outer && f)))
wakes_is misa g d e f = ap (λ n. not (eqb n 0)) (raised_by g.soft g.timer g.outer d e f) ∙ wakes_by (g.soft && d) (g.timer && e) (g.outer && f)

-- the cause of what is raised
abbrev cause_in : (on : ℕ) → (x : ℕ) → Option ℕ
cause_in on x =
    elim (eqb on 1) [
      | false ↦ None
      | true ↦
          elim (eqb (bits_of x 11 11) 1) [
            | true ↦ Some 0x8000000b
            | false ↦ elim (eqb (bits_of x 3 3) 1) [ true ↦ Some 0x80000003 | false ↦ elim (eqb (bits_of x 7 7) 1) [ true ↦ Some 0x80000007 | false ↦ None ] ]
          ]
    ]

abbrev pub taken_cause : (soft timer outer : Bool) → ℕ
taken_cause soft timer outer = cond outer 0x8000000b (cond soft 0x80000003 0x80000007)

cause_by : (on a b c : Bool) → cause_in (one_if on) (at_places a b c) ≡ cond (on && (a || (b || c))) (Some (taken_cause a b c)) None
cause_by false a b c = refl
cause_by true true true true = refl
cause_by true true true false = refl
cause_by true true false true = refl
cause_by true true false false = refl
cause_by true false true true = refl
cause_by true false true false = refl
cause_by true false false true = refl
cause_by true false false false = refl

pub pending_is : (misa : ℕ) (g : State) (d e f : Bool)
    → pending (shown misa g) (at_places d e f) ≡ cond (g.on && ((g.soft && d) || ((g.timer && e) || (g.outer && f)))) (Some (taken_cause (g.soft && d) (g.timer && e) (g.outer && f))) None
pending_is misa g d e f = ap (cause_in (one_if g.on)) (raised_by g.soft g.timer g.outer d e f) ∙ cause_by g.on (g.soft && d) (g.timer && e) (g.outer && f)

-- ---- changes
-- the registers after a write; w says whether one takes place
abbrev pub written : (w : Bool) → State → (number v : ℕ) → State
written w g number v = record {
  on = cond (w && eqb number 0x300) (bit v 3) g.on;
  was = cond (w && eqb number 0x300) (bit v 7) g.was;
  soft = cond (w && eqb number 0x304) (bit v 3) g.soft;
  timer = cond (w && eqb number 0x304) (bit v 7) g.timer;
  outer = cond (w && eqb number 0x304) (bit v 11) g.outer;
  tvec = cond (w && eqb number 0x305) (v / 4) g.tvec;
  epc = cond (w && eqb number 0x341) (v / 4) g.epc;
  scratch = cond (w && eqb number 0x340) v g.scratch;
  cause = cond (w && eqb number 0x342) v g.cause;
  tval = cond (w && eqb number 0x343) v g.tval;
}

split : (P : ℕ → Type 0) (n x : ℕ) → P x → (eqb n x ≡ false → P n) → P n
split P n x p k = by (eqb n x) refl
  where
    by : (b : Bool) → eqb n x ≡ b → P n
    by true e = subst P (sym (same n x e)) p
    by false e = k e

module _ (misa : ℕ) (g : State) (v : ℕ) where
  abbrev Right : ℕ → Type 0
  Right number = csr_write (shown misa g) number v ≡ shown misa (written true g number v)

  bit_is : (k : ℕ) → bits_of v k k ≡ one_if (bit v k)
  bit_is k = one_bit (bits_of v k k) (below (v / 2 ^ k) k)
    where
      below : (n k : ℕ) → n % 2 ^ (k + 1 - k) < 2
      below n k = let e : k + 1 - k ≡ 1 = omega arith in subst (λ j. n % 2 ^ j < 2) (sym e) (omega arith)

  status : Right 0x300
  status = λ i. record (shown misa g) { mie_bit = bit_is 3 i; mpie_bit = bit_is 7 i }

  enables : Right 0x304
  enables = λ i. record (shown misa g) { mie = enabled_is v i }

  abbrev chain : (b0 b1 b2 b3 b4 b5 b6 : Bool) → Csrs
  chain b0 b1 b2 b3 b4 b5 b6 =
      elim b0 [
        | true ↦ record (shown misa g) { mie_bit = bits_of v 3 3; mpie_bit = bits_of v 7 7 }
        | false ↦
            elim b1 [
              | true ↦ record (shown misa g) { mie = bit_and v interrupt_bits }
              | false ↦
                  elim b2 [
                    | true ↦ record (shown misa g) { mtvec = v / 4 * 4 }
                    | false ↦
                        elim b3 [
                          | true ↦ record (shown misa g) { mscratch = v }
                          | false ↦
                              elim b4 [
                                | true ↦ record (shown misa g) { mepc = v / 4 * 4 }
                                | false ↦
                                    elim b5 [
                                      | true ↦ record (shown misa g) { mcause = v }
                                      | false ↦ elim b6 [ true ↦ record (shown misa g) { mtval = v } | false ↦ shown misa g ]
                                    ]
                              ]
                        ]
                  ]
            ]
      ]

  abbrev state_by : (b0 b1 b2 b3 b4 b5 b6 : Bool) → State
  state_by b0 b1 b2 b3 b4 b5 b6 = record {
    on = cond b0 (bit v 3) g.on;
    was = cond b0 (bit v 7) g.was;
    soft = cond b1 (bit v 3) g.soft;
    timer = cond b1 (bit v 7) g.timer;
    outer = cond b1 (bit v 11) g.outer;
    tvec = cond b2 (v / 4) g.tvec;
    epc = cond b4 (v / 4) g.epc;
    scratch = cond b3 v g.scratch;
    cause = cond b5 v g.cause;
    tval = cond b6 v g.tval;
  }

  pub write_is : (number : ℕ) → Right number
  write_is number =
      split Right number 0x300 status (λ e0.
      split Right number 0x304 enables (λ e1.
      split Right number 0x305 refl (λ e2.
      split Right number 0x340 refl (λ e3.
      split Right number 0x341 refl (λ e4.
      split Right number 0x342 refl (λ e5.
      split Right number 0x343 refl (λ e6.
      (λ i. chain (e0 i) (e1 i) (e2 i) (e3 i) (e4 i) (e5 i) (e6 i)) ∙ sym (λ i. shown misa (state_by (e0 i) (e1 i) (e2 i) (e3 i) (e4 i) (e5 i) (e6 i))))))))))
