-- What the unit shows at done, and what it does to the registers, is the effect of its row.
use Rattle.std.proofs.Common.{◌≡◌, ℕ, ◌+◌, ◌-◌, ◌*◌, ◌^◌, Bool, true, false, cond, not, eqb, ◌&&◌, ◌||◌, Option, Some, None, bit_and, bit_or, refl, ap, ◌∙◌, sym, subst, arith}
use Rattle.std.specs.Prelude.{option_map}
use Rattle.core_words.specs.Values.{add_of, bits_of, not_of}
use Rattle.core_words.specs.Fields.{csr_of, rs1_of}
use Rattle.bus_law.specs.Memory.{Memory}
use Rattle.isa_table.specs.Rows.{Action, CsrChange, TableRow, meets, row_of}
use Rattle.isa_table.specs.Rows.Action.{AccessesCsr, Returns, Waits}
use Rattle.isa_table.specs.Rows.CsrChange.{Writes, Sets, Clears}
use Rattle.isa_csr.specs.Csrs.{Csrs, csr_read, is_read_only, readable, wakes}
use Rattle.isa_model.specs.Machine.{Set, has_row}
use Rattle.isa_model.specs.Effects.{Effect, access, access_held, changed, csr_change, csrs_of, effect_of, rests, wait, write_of}
use Rattle.isa_model.specs.Run.{is_fence_word}
use Rattle.plug_law.specs.Exec.{Shows}
use Rattle.plug_law.specs.Pipeline.{member}
use Rattle.plug_law.specs.Table.{row_numbered, number_of, table_of}
use Rattle.plug_law.proofs.Rows.{row_is, is_met}
use Rattle.csr_law.specs.Words.{bit, is_refused_number}
use Rattle.csr_law.specs.Machine.{State, at_places, gathered, is_there, shown}
use Rattle.csr_law.specs.Law.{csr_rows}
use Rattle.csr_law.proofs.Tests.{same}
use Rattle.hw_words.proofs.Fields.{field_met}
use Rattle.csr_law.proofs.Numbers.{read_is, wakes_is, write_is, written}

-- ---- rows
abbrev pub operand_by : (b14 : Bool) → (word a : ℕ) → ℕ
operand_by b14 word a = cond b14 (rs1_of word) a

abbrev pub change_by : (b12 b13 : Bool) → CsrChange
change_by b12 b13 = cond (not b13) Writes (cond (not b12) Sets Clears)

abbrev pub writes_by : (b13 : Bool) → (word : ℕ) → Bool
writes_by b13 word = not b13 || not (eqb (rs1_of word) 0)

abbrev pub act_by : (b12 b13 b14 b29 : Bool) → (word a : ℕ) → Action
act_by b12 b13 b14 b29 word a =
    cond (b12 || b13) (AccessesCsr (csr_of word) (change_by b12 b13) (operand_by b14 word a) (writes_by b13 word)) (cond b29 Returns Waits)

pub record IsOfRow (row word : ℕ) : Type 0 where
  pub act : (pc a b : ℕ) → (row_numbered row).action pc word a b ≡ act_by (bit word 12) (bit word 13) (bit word 14) (bit word 29) word a
  pub no_fence : is_fence_word word ≡ false

-- the opcode tells
no_fence_by : (word : ℕ) → bits_of word 6 0 ≡ 0x73 → is_fence_word word ≡ false
no_fence_by word h = by (is_fence_word word) refl
  where
    by : (f : Bool) → is_fence_word word ≡ f → is_fence_word word ≡ false
    by false e = e
    by true e =
        let s : bit_and word 0x707f ≡ 0x100f = same (bit_and word 0x707f) 0x100f e in
        let f : bits_of word 6 0 ≡ bits_of 0x100f 6 0 = field_met word 0x707f 0x100f 6 0 s refl in
        let z : ◌≡◌ {A = ℕ} 0x73 0x0f = sym h ∙ f in
        absurd (grind arith)

module _ (word m v : ℕ) (h : eqb (bit_and word m) v ≡ true) where
  field : (k : ℕ) → bits_of m k k ≡ 1 → bit word k ≡ bit v k
  field k c = ap (λ n. eqb n 1) (field_met word m v k k (same (bit_and word m) v h) (c ∙ one k))
    where
      one : (k : ℕ) → 1 ≡ 2 ^ (k + 1 - k) - 1
      one k = let e : k + 1 - k ≡ 1 = omega arith in sym (ap (λ n. 2 ^ n - 1) e)

  code : bits_of m 6 0 ≡ 0x7f → bits_of v 6 0 ≡ 0x73 → is_fence_word word ≡ false
  code c o = no_fence_by word (field_met word m v 6 0 (same (bit_and word m) v h) c ∙ o)

of_access : (word v : ℕ) (h : eqb (bit_and word 0x707f) v ≡ true) (row : ℕ)
    → ((pc a b : ℕ) (b29 : Bool) → (row_numbered row).action pc word a b ≡ act_by (bit v 12) (bit v 13) (bit v 14) b29 word a) → bits_of v 6 0 ≡ 0x73 → IsOfRow row word
of_access word v h row act o = record {
  act = λ pc a b. act pc a b (bit word 29) ∙ sym (λ i. act_by (field word 0x707f v h 12 refl i) (field word 0x707f v h 13 refl i) (field word 0x707f v h 14 refl i) (bit word 29) word a);
  no_fence = code word 0x707f v h refl o;
}

of_whole : (word v : ℕ) (h : eqb (bit_and word 0xffffffff) v ≡ true) (row : ℕ)
    → ((pc a b : ℕ) → (row_numbered row).action pc word a b ≡ act_by (bit v 12) (bit v 13) (bit v 14) (bit v 29) word a) → bits_of v 6 0 ≡ 0x73 → IsOfRow row word
of_whole word v h row act o = record {
  act = λ pc a b. act pc a b ∙ sym (λ i. act_by (field word 0xffffffff v h 12 refl i) (field word 0xffffffff v h 13 refl i) (field word 0xffffffff v h 14 refl i) (field word 0xffffffff v h 29 refl i) word a);
  no_fence = code word 0xffffffff v h refl o;
}

-- one of the rows is the one with this number
pick : (P : ℕ → Type 0) (n x : ℕ) (rest : Bool) → (eqb x n || rest) ≡ true → P x → (rest ≡ true → P n) → P n
pick P n x rest h p k = by (eqb x n) refl h
  where
    by : (b : Bool) → eqb x n ≡ b → (b || rest) ≡ true → P n
    by true e h = subst P (same x n e) p
    by false e h = k h

abbrev Of : ℕ → ℕ → Type 0
Of word n = meets word (row_numbered n) ≡ true → IsOfRow n word

pub of_rows : (word row : ℕ) → member row csr_rows ≡ true → meets word (row_numbered row) ≡ true → IsOfRow row word
of_rows word row h =
    pick (Of word) row 49 _ h (λ m. of_access word 0x1073 m 49 (λ pc a b x. refl) refl) (λ h.
    pick (Of word) row 50 _ h (λ m. of_access word 0x2073 m 50 (λ pc a b x. refl) refl) (λ h.
    pick (Of word) row 51 _ h (λ m. of_access word 0x3073 m 51 (λ pc a b x. refl) refl) (λ h.
    pick (Of word) row 52 _ h (λ m. of_access word 0x5073 m 52 (λ pc a b x. refl) refl) (λ h.
    pick (Of word) row 53 _ h (λ m. of_access word 0x6073 m 53 (λ pc a b x. refl) refl) (λ h.
    pick (Of word) row 54 _ h (λ m. of_access word 0x7073 m 54 (λ pc a b x. refl) refl) (λ h.
    pick (Of word) row 55 _ h (λ m. of_whole word 0x30200073 m 55 (λ pc a b. refl) refl) (λ h.
    pick (Of word) row 56 false h (λ m. of_whole word 0x10500073 m 56 (λ pc a b. refl) refl) (λ h. absurd (grind arith)))))))))

number_same : (i j : ℕ) → ◌≡◌ {A = Option ℕ} (Some i) (Some j) → i ≡ j
number_same i j e = cc

none_not_number : (j : ℕ) → ◌≡◌ {A = Option ℕ} None (Some j) → ⊥
none_not_number j e = cc

of_row : (o : Option TableRow) (n : ℕ) → option_map number_of o ≡ Some n → (row : TableRow) × (o ≡ Some row) × (row.number ≡ n)
of_row None n e = absurd (none_not_number n e)
of_row (Some row) n e = (row, refl, number_same row.number n e)

-- what a table finds for a word is of its row
pub met : (s : Set) (word row : ℕ) → (table_of s).row_of word ≡ Some row → meets word (row_numbered row) ≡ true
unfolding table_of
met s word row h =
    let w = of_row (row_of (has_row s) word) row h in
    let f = row_is (has_row s) word w.0 w.1 in
    subst (λ q. meets word q ≡ true) (sym (ap row_numbered (sym w.2) ∙ f)) (is_met (has_row s) word w.0 w.1)

-- the registers after an MRET; l says whether one takes place
abbrev pub left : (l : Bool) → State → State
left l s = record s { on = cond l s.was s.on; was = cond l true s.was }

-- ---- the effect over the registers
module _ (misa pc word a b : ℕ) (m : Memory) (g : State) (d e f : Bool) where
  abbrev pub csrs : Csrs
  csrs = shown misa g

  abbrev pub lines : ℕ
  lines = at_places d e f

  abbrev pub effect_by : (b12 b13 b14 b29 : Bool) → Effect
  effect_by b12 b13 b14 b29 = effect_of pc word m csrs (record { lines = lines }) (act_by b12 b13 b14 b29 word a)

  abbrev pub old : ℕ
  old = gathered (readable csrs lines) (csr_of word)

  abbrev pub there : Bool
  there = is_there (readable csrs lines) (csr_of word)

  abbrev pub refused_by : (b13 : Bool) → Bool
  refused_by b13 = not there || (writes_by b13 word && is_refused_number (csr_of word))

  abbrev pub new_by : (b12 b13 b14 : Bool) → ℕ
  new_by b12 b13 b14 = cond b13 (cond b12 (bit_and old (not_of 32 (operand_by b14 word a))) (bit_or old (operand_by b14 word a))) (operand_by b14 word a)

  abbrev pub any : Bool
  any = (g.soft && d) || ((g.timer && e) || (g.outer && f))

  -- an access, for what is read and whether it is refused
  abbrev through : (b12 b13 b14 t r : Bool) → Effect
  through b12 b13 b14 t r =
      cond t (access_held r pc word (csr_of word) (change_by b12 b13) (operand_by b14 word a) (writes_by b13 word) old) (access_held true pc word (csr_of word) (change_by b12 b13) (operand_by b14 word a) (writes_by b13 word) old)

  reads : (b12 b13 b14 t : Bool) → access pc word (csr_of word) (change_by b12 b13) (operand_by b14 word a) (writes_by b13 word) (cond t (Some old) None)
      ≡ through b12 b13 b14 t (writes_by b13 word && is_read_only (csr_of word))
  reads b12 b13 b14 true = refl
  reads b12 b13 b14 false = refl

  access_is : (b12 b13 b14 : Bool) → access pc word (csr_of word) (change_by b12 b13) (operand_by b14 word a) (writes_by b13 word) (csr_read csrs lines (csr_of word))
      ≡ through b12 b13 b14 there (writes_by b13 word && is_read_only (csr_of word))
  access_is b12 b13 b14 = ap (access pc word (csr_of word) (change_by b12 b13) (operand_by b14 word a) (writes_by b13 word)) (read_is csrs lines (csr_of word)) ∙ reads b12 b13 b14 there

  wait_is : wait (wakes csrs lines) pc ≡ wait any pc
  wait_is = ap (λ w. wait w pc) (wakes_is misa g d e f)

  -- the same of each row
  abbrev clear_by : (b12 b13 b14 b29 : Bool) → Effect
  clear_by b12 b13 b14 b29 = cond (b12 || b13) (through b12 b13 b14 there (writes_by b13 word && is_read_only (csr_of word))) (cond b29 (effect_of pc word m csrs (record { lines = lines }) Returns) (wait any pc))

  clear_is : (b12 b13 b14 b29 : Bool) → effect_by b12 b13 b14 b29 ≡ clear_by b12 b13 b14 b29
  clear_is true b13 b14 b29 = access_is true b13 b14
  clear_is false true b14 b29 = access_is false true b14
  clear_is false false b14 true = refl
  clear_is false false b14 false = wait_is

  -- it shows its results where it is done
  shows_through : (b12 b13 b14 t r : Bool) (value : ℕ) → value ≡ old → Shows (through b12 b13 b14 t r) value (add_of 32 pc 4) 2 word (true && (not t || r))
  shows_through b12 b13 b14 true true value h = (refl, refl, refl)
  shows_through b12 b13 b14 true false value h = (refl, refl, h)
  shows_through b12 b13 b14 false r value h = (refl, refl, refl)

  shows_wait : (w : Bool) (value : ℕ) → w ≡ true → Shows (wait w pc) value (add_of 32 pc 4) 2 word false
  shows_wait true value h = (refl, refl, tt)
  shows_wait false value h = absurd (grind arith)

  abbrev pub next_by : (b12 b13 b29 : Bool) → ℕ
  next_by b12 b13 b29 = cond (not (b12 || b13) && b29) (g.epc * 4) (add_of 32 pc 4)

  shows_clear : (b12 b13 b14 b29 : Bool) → (not (not (b12 || b13) && not b29) || any) ≡ true
      → Shows (clear_by b12 b13 b14 b29) old (next_by b12 b13 b29) 2 word ((b12 || b13) && refused_by b13)
  shows_clear true b13 b14 b29 h = shows_through true b13 b14 there (writes_by b13 word && is_read_only (csr_of word)) old refl
  shows_clear false true b14 b29 h = shows_through false true b14 there (writes_by true word && is_read_only (csr_of word)) old refl
  shows_clear false false b14 true h = (refl, refl, tt)
  shows_clear false false b14 false h = shows_wait any old h

  pub shows_by : (b12 b13 b14 b29 : Bool) → (not (not (b12 || b13) && not b29) || any) ≡ true
      → Shows (effect_by b12 b13 b14 b29) old (next_by b12 b13 b29) 2 word ((b12 || b13) && refused_by b13)
  shows_by b12 b13 b14 b29 h = subst (λ x. Shows x old (next_by b12 b13 b29) 2 word ((b12 || b13) && refused_by b13)) (sym (clear_is b12 b13 b14 b29)) (shows_clear b12 b13 b14 b29 h)

  -- it makes no write
  write_through : (b12 b13 b14 t r : Bool) → write_of (through b12 b13 b14 t r) ≡ None
  write_through b12 b13 b14 true true = refl
  write_through b12 b13 b14 true false = refl
  write_through b12 b13 b14 false r = refl

  write_clear : (b12 b13 b14 b29 : Bool) → write_of (clear_by b12 b13 b14 b29) ≡ None
  write_clear true b13 b14 b29 = write_through true b13 b14 there (writes_by b13 word && is_read_only (csr_of word))
  write_clear false true b14 b29 = write_through false true b14 there (writes_by true word && is_read_only (csr_of word))
  write_clear false false b14 true = refl
  write_clear false false b14 false = by any
    where
      by : (w : Bool) → write_of (wait w pc) ≡ None
      by true = refl
      by false = refl

  pub no_write : (b12 b13 b14 b29 : Bool) → write_of (effect_by b12 b13 b14 b29) ≡ None
  no_write b12 b13 b14 b29 = ap write_of (clear_is b12 b13 b14 b29) ∙ write_clear b12 b13 b14 b29

  -- it rests where it is not done
  rests_clear : (b12 b13 b14 b29 : Bool) → (not (not (b12 || b13) && not b29) || any) ≡ false → rests (clear_by b12 b13 b14 b29) ≡ true
  rests_clear true b13 b14 b29 h = absurd (grind arith)
  rests_clear false true b14 b29 h = absurd (grind arith)
  rests_clear false false b14 true h = absurd (grind arith)
  rests_clear false false b14 false h = by any h
    where
      by : (w : Bool) → w ≡ false → rests (wait w pc) ≡ true
      by true h = absurd (grind arith)
      by false h = refl

  pub rests_by : (b12 b13 b14 b29 : Bool) → (not (not (b12 || b13) && not b29) || any) ≡ false → rests (effect_by b12 b13 b14 b29) ≡ true
  rests_by b12 b13 b14 b29 h = ap rests (clear_is b12 b13 b14 b29) ∙ rests_clear b12 b13 b14 b29 h

  -- ---- what it does to the registers
  -- the registers after it, where it traps or not
  abbrev pub after_by : (b12 b13 b14 b29 trap : Bool) → State
  after_by b12 b13 b14 b29 trap = left (not trap && (not (b12 || b13) && b29)) (written (not trap && ((b12 || b13) && writes_by b13 word)) g (csr_of word) (new_by b12 b13 b14))

  changed_is : (b12 b13 b14 : Bool) → changed (change_by b12 b13) old (operand_by b14 word a) ≡ new_by b12 b13 b14
  changed_is true true b14 = refl
  changed_is true false b14 = refl
  changed_is false true b14 = refl
  changed_is false false b14 = refl

  after_write : (w : Bool) (v : ℕ) → csr_change w (csr_of word) v csrs ≡ shown misa (written w g (csr_of word) v)
  after_write true v = write_is misa g v (csr_of word)
  after_write false v = refl

  csrs_through : (b12 b13 b14 t r : Bool) → csrs_of (through b12 b13 b14 t r) csrs
      ≡ shown misa (written (not (not t || r) && writes_by b13 word) g (csr_of word) (new_by b12 b13 b14))
  csrs_through b12 b13 b14 true true = refl
  csrs_through b12 b13 b14 false r = refl
  csrs_through b12 b13 b14 true false = ap (λ v. csr_change (writes_by b13 word) (csr_of word) v csrs) (changed_is b12 b13 b14) ∙ after_write (writes_by b13 word) (new_by b12 b13 b14)

  no_leave : (x : Bool) (s : State) → left (x && (false && true)) s ≡ s
  no_leave true s = refl
  no_leave false s = refl

  csrs_clear : (b12 b13 b14 b29 : Bool) → csrs_of (clear_by b12 b13 b14 b29) csrs ≡ shown misa (after_by b12 b13 b14 b29 ((b12 || b13) && refused_by b13))
  csrs_clear true b13 b14 b29 = csrs_through true b13 b14 there (writes_by b13 word && is_read_only (csr_of word)) ∙ sym (ap (shown misa) (off (not (refused_by b13)) _))
    where
      off : (x : Bool) (s : State) → left (x && false) s ≡ s
      off true s = refl
      off false s = refl
  csrs_clear false true b14 b29 = csrs_through false true b14 there (writes_by true word && is_read_only (csr_of word)) ∙ sym (ap (shown misa) (off (not (refused_by true)) _))
    where
      off : (x : Bool) (s : State) → left (x && false) s ≡ s
      off true s = refl
      off false s = refl
  csrs_clear false false b14 true = refl
  csrs_clear false false b14 false = by any
    where
      by : (w : Bool) → csrs_of (wait w pc) csrs ≡ csrs
      by true = refl
      by false = refl

  pub csrs_by : (b12 b13 b14 b29 : Bool) → csrs_of (effect_by b12 b13 b14 b29) csrs ≡ shown misa (after_by b12 b13 b14 b29 ((b12 || b13) && refused_by b13))
  csrs_by b12 b13 b14 b29 = ap (λ x. csrs_of x csrs) (clear_is b12 b13 b14 b29) ∙ csrs_clear b12 b13 b14 b29
