-- What the unit shows at done is the effect of its row.
use Rattle.std.proofs.Common.{◌≡◌, ℕ, ◌+◌, ◌-◌, ◌*◌, ◌%◌, ◌^◌, ◌<◌, Bool, true, false, cond, not, eqb, ◌&&◌, ◌||◌, Option, Some, None, bit_and, refl, ap, ◌∙◌, sym, subst, arith}
use Rattle.std.specs.Prelude.{option_map}
use Rattle.core_words.specs.Values.{add_of, bits_of}
use Rattle.core_words.specs.Fields.{imm_i, imm_s}
use Rattle.bus_law.specs.Memory.{Memory, IsMemory, Store, is_inside, is_window, word_at}
use Rattle.bus_law.specs.Honest.{DataReply}
use Rattle.isa_table.specs.Rows.{Action, TableRow, meets, row_of}
use Rattle.isa_table.specs.Rows.Action.{Fences, Loads, Stores}
use Rattle.isa_csr.specs.Csrs.{Csrs}
use Rattle.isa_model.specs.Machine.{Set, has_row}
use Rattle.isa_model.specs.Effects.{Moment, Effect, effect_of, is_multiple, load, load_held, loaded, or_window, store, store_if, store_made, write_of}
use Rattle.isa_model.specs.Run.{is_fence_word}
use Rattle.plug_law.specs.Exec.{Shows}
use Rattle.plug_law.specs.Pipeline.{member}
use Rattle.plug_law.specs.Table.{row_numbered, number_of, table_of}
use Rattle.plug_law.proofs.Rows.{row_is, is_met}
use Rattle.dbus_law.specs.Words.{Kind, bit, address_by, cause_by, misaligned_by, value_by}
use Rattle.dbus_law.specs.Law.{dbus_rows}
use Rattle.dbus_law.proofs.Tests.{same}
use Rattle.hw_words.proofs.Fields.{field_met}
use Rattle.dbus_law.proofs.Numbers.{Fair, lane_by, multiple_is, size_of, value_is, word_fits}

abbrev pub kind_by : (fence store half whole unsigned : Bool) → Kind
kind_by fence store half whole unsigned = record { fence = fence; store = store; half = half; whole = whole; unsigned = unsigned }

-- the action of a kind
abbrev pub load_by : (half whole unsigned : Bool) → (word a : ℕ) → Action
load_by half whole unsigned word a = Loads (add_of 32 a (imm_i word)) (size_of half whole) (not unsigned && not whole)

abbrev pub store_by : (half whole : Bool) → (word a b : ℕ) → Action
store_by half whole word a b = Stores (add_of 32 a (imm_s word)) (size_of half whole) (b % 2 ^ (8 * size_of half whole))

abbrev pub act_by : (fence store half whole unsigned : Bool) → (word a b : ℕ) → Action
act_by fence store half whole unsigned word a b = cond fence Fences (cond store (store_by half whole word a b) (load_by half whole unsigned word a))

-- a fence has no size
abbrev pub Calm : (fence half whole : Bool) → Type 0
Calm fence half whole = fence ≡ true → (half ≡ false) × (whole ≡ false)

-- what the word of a row says
pub record IsOfRow (row word : ℕ) : Type 0 where
  pub act : (pc a b : ℕ) → (row_numbered row).action pc word a b ≡ act_by (bit word 2) (bit word 5) (bit word 12) (bit word 13) (bit word 14) word a b
  pub fair : Fair (bit word 12) (bit word 13)
  pub calm : Calm (bit word 2) (bit word 12) (bit word 13)
  pub no_fence : is_fence_word word ≡ false

module _ (word v : ℕ) (m : eqb (bit_and word 0x707f) v ≡ true) where
  field : (k : ℕ) → bits_of 0x707f k k ≡ 1 → bit word k ≡ bit v k
  field k c = ap (λ n. eqb n 1) (field_met word 0x707f v k k (same (bit_and word 0x707f) v m) (c ∙ one k))
    where
      one : (k : ℕ) → 1 ≡ 2 ^ (k + 1 - k) - 1
      one k = let e : k + 1 - k ≡ 1 = omega arith in sym (ap (λ n. 2 ^ n - 1) e)

  of_value : (row : ℕ) → ((pc a b : ℕ) → (row_numbered row).action pc word a b ≡ act_by (bit v 2) (bit v 5) (bit v 12) (bit v 13) (bit v 14) word a b)
      → Fair (bit v 12) (bit v 13) → Calm (bit v 2) (bit v 12) (bit v 13) → eqb v 0x100f ≡ false → IsOfRow row word
  of_value row act fair calm other = record {
    act = λ pc a b. act pc a b ∙ sym (λ i. act_by (field 2 refl i) (field 5 refl i) (field 12 refl i) (field 13 refl i) (field 14 refl i) word a b);
    fair = (λ i. field 12 refl i && field 13 refl i) ∙ fair;
    calm = λ h. let w = calm (sym (field 2 refl) ∙ h) in (field 12 refl ∙ w.0, field 13 refl ∙ w.1);
    no_fence = ap (λ n. eqb n 0x100f) (same (bit_and word 0x707f) v m) ∙ other;
  }

-- one of the rows is the one with this number
pick : (P : ℕ → Type 0) (n x : ℕ) (rest : Bool) → (eqb x n || rest) ≡ true → P x → (rest ≡ true → P n) → P n
pick P n x rest h p k = by (eqb x n) refl h
  where
    by : (b : Bool) → eqb x n ≡ b → (b || rest) ≡ true → P n
    by true e h = subst P (same x n e) p
    by false e h = k h

calm_off : (half whole : Bool) → Calm false half whole
calm_off half whole h = absurd (grind arith)

abbrev Of : ℕ → ℕ → Type 0
Of word n = meets word (row_numbered n) ≡ true → IsOfRow n word

pub of_rows : (word row : ℕ) → member row dbus_rows ≡ true → meets word (row_numbered row) ≡ true → IsOfRow row word
of_rows word row h =
    pick (Of word) row 10 _ h (λ m. of_value word 0x3 m 10 (λ pc a b. refl) refl (calm_off false false) refl) (λ h.
    pick (Of word) row 11 _ h (λ m. of_value word 0x1003 m 11 (λ pc a b. refl) refl (calm_off true false) refl) (λ h.
    pick (Of word) row 12 _ h (λ m. of_value word 0x2003 m 12 (λ pc a b. refl) refl (calm_off false true) refl) (λ h.
    pick (Of word) row 13 _ h (λ m. of_value word 0x4003 m 13 (λ pc a b. refl) refl (calm_off false false) refl) (λ h.
    pick (Of word) row 14 _ h (λ m. of_value word 0x5003 m 14 (λ pc a b. refl) refl (calm_off true false) refl) (λ h.
    pick (Of word) row 15 _ h (λ m. of_value word 0x23 m 15 (λ pc a b. refl) refl (calm_off false false) refl) (λ h.
    pick (Of word) row 16 _ h (λ m. of_value word 0x1023 m 16 (λ pc a b. refl) refl (calm_off true false) refl) (λ h.
    pick (Of word) row 17 _ h (λ m. of_value word 0x2023 m 17 (λ pc a b. refl) refl (calm_off false true) refl) (λ h.
    pick (Of word) row 37 false h (λ m. of_value word 0xf m 37 (λ pc a b. refl) refl (λ q. (refl, refl)) refl) (λ h. absurd (grind arith))))))))))

number_same : (i j : ℕ) → ◌≡◌ {A = Option ℕ} (Some i) (Some j) → i ≡ j
number_same i j e = cc

none_not_number : (j : ℕ) → ◌≡◌ {A = Option ℕ} None (Some j) → ⊥
none_not_number j e = cc

-- a number that is found is a row's
of_row : (o : Option TableRow) (n : ℕ) → option_map number_of o ≡ Some n → (row : TableRow) × (o ≡ Some row) × (row.number ≡ n)
of_row None n e = absurd (none_not_number n e)
of_row (Some row) n e = (row, refl, number_same row.number n e)

-- what a table finds for a word is of its row
pub met : (s : Set) (word row : ℕ) → (table_of s).row_of word ≡ Some row → meets word (row_numbered row) ≡ true
unfolding table_of
met s word row h =
    let w = of_row (row_of (has_row s) word) row h in
    let f = row_is (has_row s) word w.0 w.1 in
    subst (λ q. meets word q ≡ true) (sym (ap row_numbered (sym w.2) ∙ f)) (is_met (has_row s) word w.0 w.1)

-- ---- the effect
module _ (pc word a b : ℕ) (m : Memory) (c : Csrs) (o : Moment) where
  abbrev pub effect_by : (fence store half whole unsigned : Bool) → Effect
  effect_by fence store half whole unsigned = effect_of pc word m c o (act_by fence store half whole unsigned word a b)

  now_store : (addr size v value : ℕ) (g x error : Bool) → x ≡ true → g ≡ not x → Shows (store g pc m addr size v) value (add_of 32 pc 4) (cause_by true x) addr (true && (x || error))
  now_store addr size v value true true error h k = absurd (grind arith)
  now_store addr size v value false true error h k = (refl, refl, refl)
  now_store addr size v value g false error h k = absurd (grind arith)

  now_load : (addr size value : ℕ) (signed g x error : Bool) → x ≡ true → g ≡ not x → Shows (load g pc m addr size signed) value (add_of 32 pc 4) (cause_by false x) addr (true && (x || error))
  now_load addr size value signed true true error h k = absurd (grind arith)
  now_load addr size value signed false true error h k = (refl, refl, refl)
  now_load addr size value signed g false error h k = absurd (grind arith)

  pub shows_now : (fence store half whole unsigned high low : Bool) (value : ℕ) (error : Bool)
      → address_by (kind_by fence store half whole unsigned) word a % 4 ≡ lane_by high low → Fair half whole → Calm fence half whole
      → (fence || misaligned_by (kind_by fence store half whole unsigned) high low) ≡ true
      → Shows (effect_by fence store half whole unsigned) value (add_of 32 pc 4) (cause_by store (misaligned_by (kind_by fence store half whole unsigned) high low))
      (address_by (kind_by fence store half whole unsigned) word a) (not fence && (misaligned_by (kind_by fence store half whole unsigned) high low || error))
  shows_now true store half whole unsigned high low value error l f q h = (refl, refl, tt)
  shows_now false true half whole unsigned high low value error l f q h =
      let v : ℕ = add_of 32 a (imm_s word) in
      now_store v (size_of half whole) (b % 2 ^ (8 * size_of half whole)) value (is_multiple v (size_of half whole)) (misaligned_by (kind_by false true half whole unsigned) high low) error h
      (multiple_is false true half whole unsigned v high low l f)
  shows_now false false half whole unsigned high low value error l f q h =
      let v : ℕ = add_of 32 a (imm_i word) in
      now_load v (size_of half whole) value (not unsigned && not whole) (is_multiple v (size_of half whole)) (misaligned_by (kind_by false false half whole unsigned) high low) error h
      (multiple_is false false half whole unsigned v high low l f)

  -- with the response of the bus
  held_load : (addr size value : ℕ) (signed : Bool) (held : Option ℕ) (window : Bool) (error payload : ℕ) → DataReply held window false error payload
      → ((w : ℕ) → held ≡ Some w → w < 2 ^ 32) → (payload < 2 ^ 32 → value ≡ loaded payload addr size signed)
      → Shows (load_held pc addr size signed (or_window held window)) value (add_of 32 pc 4) 5 addr (eqb error 1)
  held_load addr size value signed (Some w) window error payload r fits v =
      (ap (λ n. eqb n 1) r.0, refl, v (subst (λ n. n < 2 ^ 32) (sym r.1) (fits w refl)) ∙ ap (λ n. loaded n addr size signed) r.1)
  held_load addr size value signed None true error payload r fits v =
      (ap (λ n. eqb n 1) r.0, refl, v (subst (λ n. n < 2 ^ 32) (sym r.1) (omega arith)) ∙ ap (λ n. loaded n addr size signed) r.1)
  held_load addr size value signed None false error payload r fits v = (ap (λ n. eqb n 1) r, refl, refl)

  held_store : (addr value w : ℕ) (s : Store) (inside window : Bool) (error payload : ℕ) → DataReply (elim inside [ true ↦ Some w | false ↦ None ]) window true error payload
      → Shows (store_if (inside || window) pc addr s) value (add_of 32 pc 4) 7 addr (eqb error 1)
  held_store addr value w s true window error payload r = (ap (λ n. eqb n 1) r, refl, tt)
  held_store addr value w s false true error payload r = (ap (λ n. eqb n 1) r, refl, tt)
  held_store addr value w s false false error payload r = (ap (λ n. eqb n 1) r, refl, refl)

  store_shows : (addr value : ℕ) (s : Store) (window : Bool) (error payload : ℕ) → DataReply (word_at m addr) window true error payload
      → Shows (store_if (is_inside m addr || window) pc addr s) value (add_of 32 pc 4) 7 addr (eqb error 1)
  unfolding word_at
  store_shows addr value s window error payload r = held_store addr value _ s (is_inside m addr) window error payload r

  aligned_load : (addr size value : ℕ) (signed g x : Bool) (error : ℕ) → x ≡ false → g ≡ not x
      → Shows (load_held pc addr size signed (or_window (word_at m addr) (is_window addr))) value (add_of 32 pc 4) 5 addr (eqb error 1)
      → Shows (load g pc m addr size signed) value (add_of 32 pc 4) (cause_by false x) addr (true && (x || eqb error 1))
  aligned_load addr size value signed true false error h k s = s
  aligned_load addr size value signed false false error h k s = absurd (grind arith)
  aligned_load addr size value signed g true error h k s = absurd (grind arith)

  aligned_store : (addr size v value : ℕ) (g x : Bool) (error : ℕ) → x ≡ false → g ≡ not x
      → Shows (store_if (is_inside m addr || is_window addr) pc addr (store_made addr size v)) value (add_of 32 pc 4) 7 addr (eqb error 1)
      → Shows (store g pc m addr size v) value (add_of 32 pc 4) (cause_by true x) addr (true && (x || eqb error 1))
  aligned_store addr size v value true false error h k s = s
  aligned_store addr size v value false false error h k s = absurd (grind arith)
  aligned_store addr size v value g true error h k s = absurd (grind arith)

  pub shows_reply : (store half whole unsigned high low : Bool) (error payload : ℕ) → IsMemory m
      → address_by (kind_by false store half whole unsigned) word a % 4 ≡ lane_by high low → Fair half whole
      → misaligned_by (kind_by false store half whole unsigned) high low ≡ false
      → DataReply (word_at m (address_by (kind_by false store half whole unsigned) word a)) (is_window (address_by (kind_by false store half whole unsigned) word a)) store error payload
      → Shows (effect_by false store half whole unsigned) (value_by (kind_by false store half whole unsigned) high low payload) (add_of 32 pc 4)
      (cause_by store (misaligned_by (kind_by false store half whole unsigned) high low)) (address_by (kind_by false store half whole unsigned) word a)
      (not false && (misaligned_by (kind_by false store half whole unsigned) high low || eqb error 1))
  shows_reply true half whole unsigned high low error payload is l f h r =
      let v : ℕ = add_of 32 a (imm_s word) in
      aligned_store v (size_of half whole) (b % 2 ^ (8 * size_of half whole)) _ (is_multiple v (size_of half whole)) (misaligned_by (kind_by false true half whole unsigned) high low) error h
      (multiple_is false true half whole unsigned v high low l f) (store_shows v _ _ (is_window v) error payload r)
  shows_reply false half whole unsigned high low error payload is l f h r =
      let v : ℕ = add_of 32 a (imm_i word) in
      aligned_load v (size_of half whole) _ (not unsigned && not whole) (is_multiple v (size_of half whole)) (misaligned_by (kind_by false false half whole unsigned) high low) error h
      (multiple_is false false half whole unsigned v high low l f)
      (held_load v (size_of half whole) _ (not unsigned && not whole) (word_at m v) (is_window v) error payload r (λ w e. word_fits m v w is e)
      (λ p. value_is false false half whole unsigned v payload high low l f p h))

  -- its write, and that it does not rest
  abbrev pub write_by : (fence store half whole unsigned high low : Bool) → Option Store
  write_by fence store half whole unsigned high low =
      cond (fence || misaligned_by (kind_by fence store half whole unsigned) high low) None (cond store (Some (store_made (add_of 32 a (imm_s word)) (size_of half whole) (b % 2 ^ (8 * size_of half whole)))) None)

  write_store : (addr size v : ℕ) (g x : Bool) → g ≡ not x → write_of (store g pc m addr size v) ≡ cond x None (Some (store_made addr size v))
  write_store addr size v true true k = absurd (grind arith)
  write_store addr size v false false k = absurd (grind arith)
  write_store addr size v false true k = refl
  write_store addr size v true false k = by (is_inside m addr || is_window addr)
    where
      by : (t : Bool) → write_of (store_if t pc addr (store_made addr size v)) ≡ Some (store_made addr size v)
      by true = refl
      by false = refl

  write_load : (addr size : ℕ) (signed g x : Bool) → write_of (load g pc m addr size signed) ≡ cond x None None
  write_load addr size signed false true = refl
  write_load addr size signed false false = refl
  write_load addr size signed true x = by (or_window (word_at m addr) (is_window addr)) x
    where
      by : (h : Option ℕ) (x : Bool) → write_of (load_held pc addr size signed h) ≡ cond x None None
      by None true = refl
      by None false = refl
      by (Some w) true = refl
      by (Some w) false = refl

  pub write_is : (fence store half whole unsigned high low : Bool) → address_by (kind_by fence store half whole unsigned) word a % 4 ≡ lane_by high low → Fair half whole
      → write_of (effect_by fence store half whole unsigned) ≡ write_by fence store half whole unsigned high low
  write_is true store half whole unsigned high low l f = refl
  write_is false true half whole unsigned high low l f =
      write_store (add_of 32 a (imm_s word)) (size_of half whole) (b % 2 ^ (8 * size_of half whole)) (is_multiple (add_of 32 a (imm_s word)) (size_of half whole)) (misaligned_by (kind_by false true half whole unsigned) high low)
      (multiple_is false true half whole unsigned (add_of 32 a (imm_s word)) high low l f)
  write_is false false half whole unsigned high low l f =
      write_load (add_of 32 a (imm_i word)) (size_of half whole) (not unsigned && not whole) (is_multiple (add_of 32 a (imm_i word)) (size_of half whole)) (misaligned_by (kind_by false false half whole unsigned) high low)
