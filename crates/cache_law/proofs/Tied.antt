-- The arrays hold the lines of the machine.
use Rattle.std.proofs.Common.{◌≡◌, ℕ, zero, suc, ◌+◌, ◌-◌, ◌*◌, ◌/◌, ◌%◌, ◌<◌, ◌≤◌, Bool, true, false, cond, not, eqb, ltb, leb, ◌&&◌, ◌||◌, ◌⊎◌, inl, inr, Option, Some, None, refl, sym, ap, ◌∙◌, subst, arith}
use Rattle.std.proofs.lemmas.Bool.{ltb-true, ltb-false, lt-ltb, eqb-true, eqb-false, eq-eqb, ne_eqb, leb-true, leb-false, le-leb}
use Rattle.std.proofs.lemmas.Nat.{div-add-mod', div-mul-add, mod-mul-add, mod_below}
use Rattle.core_ports.specs.Trace.{Bus}
use Rattle.plug_law.specs.Fetch.{FetchSignals}
use Rattle.cache_law.proofs.Truths.{and_l, and_r, not_true}
use Rattle.cache_law.specs.Machine.{Registers, line_of, place_of, is_line, IsCache}
use Rattle.cache_law.specs.Machine as a
use Rattle.cache_law.specs.Cells.{Cells, IsCells, line_in, listed}
use Rattle.cache_law.specs.Cells as c
use Rattle.cache_law.proofs.Basics.{place_less}

-- a tag shows a line exactly where it is that line's
line_shown : (lines top n tag : ℕ) → 1 ≤ lines → is_line (line_in lines top (n % lines) tag) n ≡ eqb tag (top + n / lines)
line_shown lines top n tag some_lines = by (leb top tag) refl
  where
    split : n / lines * lines + n % lines ≡ n
    split = div-add-mod' n lines

    on : top ≤ tag → (e : Bool) → eqb tag (top + n / lines) ≡ e → eqb ((tag - top) * lines + n % lines) n ≡ e
    on l true e =
        let t : tag ≡ top + n / lines = eqb-true tag (top + n / lines) e in
        eq-eqb _ _ (ap (λ z. z * lines + n % lines) (let h : tag - top ≡ n / lines = omega arith in h) ∙ split)
    on l false e = ne_eqb _ _ (λ q.
        let h : tag - top ≡ n / lines = sym (div-mul-add (tag - top) lines (n % lines) (mod_below n lines some_lines)) ∙ ap (λ z. z / lines) q in
        eqb-false tag (top + n / lines) e (omega arith))

    by : (x : Bool) → leb top tag ≡ x → is_line (cond x (Some ((tag - top) * lines + n % lines)) None) n ≡ eqb tag (top + n / lines)
    by true e = on (leb-true top tag e) (eqb tag (top + n / lines)) refl
    by false e = let l : tag < top = leb-false top tag e in sym (ne_eqb tag (top + n / lines) (λ q. absurd (omega arith)))

line_made : (lines top line : ℕ) → line_in lines top (line % lines) (top + line / lines) ≡ Some line
line_made lines top line =
    (λ j. cond (le-leb top (top + line / lines) (omega arith) j) (Some ((top + line / lines - top) * lines + line % lines)) None)
    ∙ ap Some (ap (λ z. z * lines + line % lines) (let h : top + line / lines - top ≡ line / lines = omega arith in h) ∙ div-add-mod' line lines)

-- two places of the array are one exactly where line and place are
same_cell : (words i k n j : ℕ) → k < words → j < words → eqb (i * words + k) (n * words + j) ≡ (eqb i n && eqb k j)
same_cell words i k n j l h = by (eqb i n) (eqb k j) refl refl
  where
    by : (x z : Bool) → eqb i n ≡ x → eqb k j ≡ z → eqb (i * words + k) (n * words + j) ≡ (x && z)
    by true true xe ze = eq-eqb _ _ (λ q. eqb-true i n xe q * words + eqb-true k j ze q)
    by true false xe ze = ne_eqb _ _ (λ q. eqb-false k j ze (sym (mod-mul-add i words k l) ∙ (ap (λ a. a % words) q ∙ mod-mul-add n words j h)))
    by false z xe ze = ne_eqb _ _ (λ q. eqb-false i n xe (sym (div-mul-add i words k l) ∙ (ap (λ a. a / words) q ∙ div-mul-add n words j h)))

module _ (lines words top reset_pc : ℕ) (predicts : Bool) (f : FetchSignals) (ib : Bus) (q : Cells) (some_top : 1 ≤ top) (m : IsCells lines words top reset_pc predicts f ib q) (some_lines : 1 ≤ lines) (some_words : 1 ≤ words) where
  abbrev r : Registers
  r = listed lines words top q

  hits_same : (t : ℕ) → c.hits lines words top f ib q t ≡ a.hits lines words f ib r t
  hits_same t = sym (line_shown lines top (line_of words (q.pc t)) (q.tag t (line_of words (q.pc t) % lines)) some_lines)

  finds_same : (t : ℕ) → c.finds lines words top f ib q t ≡ a.finds lines words f ib r t
  finds_same t = λ j. c.looks lines words top f ib q t && (q.captured t || hits_same t j)

  moves_same : (t : ℕ) → c.moves lines words top f ib q t ≡ a.moves lines words f ib r t
  moves_same t = λ j. finds_same t j && c.room lines words top f ib q t

  misses_same : (t : ℕ) → c.misses lines words top f ib q t ≡ a.misses lines words f ib r t
  misses_same t = λ j. c.looks lines words top f ib q t && (not (q.captured t || hits_same t j) && not (f.redirect t))

  word_same : (t : ℕ) → c.word_found lines words top f ib q t ≡ a.word_found lines words f ib r t
  word_same t = λ j. cond (q.captured t) (q.captured_word t)
      (cond (sym (lt-ltb (place_of words (q.pc t)) words (place_less words (q.pc t) some_words)) j) (q.words_held t (line_of words (q.pc t) % lines * words + place_of words (q.pc t))) 0)

  -- the place stays within the line
  place_fits : (s : ℕ) → q.place (suc s) < words
  place_fits zero = m.place_fits
  place_fits (suc s) = subst (λ z. z < words) (sym (m.place s)) (by (c.misses lines words top f ib q (suc s)) (c.goes_on lines words top f ib q (suc s)) (place_fits s))
    where
      by : (x z : Bool) → q.place (suc s) < words → cond x 0 (cond z (suc (q.place (suc s)) % words) (q.place (suc s))) < words
      by true z l = omega arith
      by false true l = mod_below (suc (q.place (suc s))) words some_words
      by false false l = l

  -- and where a fill goes on it does not wrap
  place_next : (s : ℕ) → cond (c.goes_on lines words top f ib q (suc s)) (suc (q.place (suc s)) % words) (q.place (suc s)) ≡ cond (c.goes_on lines words top f ib q (suc s)) (suc (q.place (suc s))) (q.place (suc s))
  place_next s = by (c.goes_on lines words top f ib q (suc s)) refl
    where
      less : (suc (q.place (suc s)) ≡ words) ⊎ (suc (q.place (suc s)) < words) → (suc (q.place (suc s)) ≡ words → ⊥) → suc (q.place (suc s)) < words
      less (inl e) h = absurd (h e)
      less (inr l) h = l

      small : (z : ℕ) → z < words → z % words ≡ z
      small z l = ap (λ y. y % words) (let e : z ≡ 0 * words + z = omega arith in e) ∙ mod-mul-add 0 words z l

      by : (x : Bool) → c.goes_on lines words top f ib q (suc s) ≡ x → cond x (suc (q.place (suc s)) % words) (q.place (suc s)) ≡ cond x (suc (q.place (suc s))) (q.place (suc s))
      by true e =
          let n = not_true (c.is_last lines words top f ib q (suc s)) (and_l (not (c.is_last lines words top f ib q (suc s))) (not (f.fence (suc s))) (and_r (c.keeps lines words top f ib q (suc s)) _ e)) in
          small (suc (q.place (suc s))) (less (Rattle.std.proofs.Common.eq-or-lt_of_le (place_fits s)) (eqb-false _ _ n))
      by false e = refl

  tags_next : (s index : ℕ) → line_in lines top index (q.tag (suc (suc s)) index)
      ≡ cond (a.walking lines words f ib r (suc s)) (cond (eqb index (q.walk (suc s))) None (line_in lines top index (q.tag (suc s) index)))
      (cond (a.ends lines words f ib r (suc s) && eqb index (q.line (suc s) % lines)) (cond (a.now_bad lines words f ib r (suc s)) None (Some (q.line (suc s)))) (line_in lines top index (q.tag (suc s) index)))
  tags_next s index = ap (line_in lines top index) (m.tag s index) ∙ by (a.walking lines words f ib r (suc s)) (eqb index (q.walk (suc s))) (a.ends lines words f ib r (suc s)) (eqb index (q.line (suc s) % lines)) (a.now_bad lines words f ib r (suc s)) refl
    where
      empty : line_in lines top index 0 ≡ None
      empty = λ j. cond (Rattle.std.proofs.lemmas.Bool.lt-leb top 0 some_top j) (Some ((0 - top) * lines + index)) None

      by : (w x e i b : Bool) → eqb index (q.line (suc s) % lines) ≡ i
          → line_in lines top index (cond w (cond x 0 (q.tag (suc s) index)) (cond (e && i) (cond b 0 (top + q.line (suc s) / lines)) (q.tag (suc s) index)))
          ≡ cond w (cond x None (line_in lines top index (q.tag (suc s) index))) (cond (e && i) (cond b None (Some (q.line (suc s)))) (line_in lines top index (q.tag (suc s) index)))
      by true true e i b h = empty
      by true false e i b h = refl
      by false x true true true h = empty
      by false x true true false h = ap (λ z. line_in lines top z (top + q.line (suc s) / lines)) (eqb-true index (q.line (suc s) % lines) h) ∙ line_made lines top (q.line (suc s))
      by false x true false b h = refl
      by false x false i b h = refl

  cells_next : (s index place : ℕ) → cond (ltb place words) (q.words_held (suc (suc s)) (index * words + place)) 0
      ≡ cond (a.keeps lines words f ib r (suc s) && (eqb index (q.line (suc s) % lines) && eqb place (q.place (suc s)))) (ib.rsp_data (suc s)) (cond (ltb place words) (q.words_held (suc s) (index * words + place)) 0)
  cells_next s index place = by (ltb place words) refl
    where
      no : (x z : Bool) → (x && (z && false)) ≡ false
      no true true = refl
      no true false = refl
      no false z = refl

      by : (x : Bool) → ltb place words ≡ x → cond x (q.words_held (suc (suc s)) (index * words + place)) 0
          ≡ cond (a.keeps lines words f ib r (suc s) && (eqb index (q.line (suc s) % lines) && eqb place (q.place (suc s)))) (ib.rsp_data (suc s)) (cond x (q.words_held (suc s) (index * words + place)) 0)
      by true e = m.words_held s (index * words + place) ∙ λ j. cond (a.keeps lines words f ib r (suc s) && same_cell words index place (q.line (suc s) % lines) (q.place (suc s)) (ltb-true place words e) (place_fits s) j) (ib.rsp_data (suc s)) (q.words_held (suc s) (index * words + place))
      by false e =
          let l : words ≤ place = ltb-false place words e in
          let h = place_fits s in
          let n : eqb place (q.place (suc s)) ≡ false = ne_eqb place (q.place (suc s)) (λ z. absurd (omega arith)) in
          sym ((λ j. cond (a.keeps lines words f ib r (suc s) && (eqb index (q.line (suc s) % lines) && n j)) (ib.rsp_data (suc s)) 0)
          ∙ λ j. cond (no (a.keeps lines words f ib r (suc s)) (eqb index (q.line (suc s) % lines)) j) (ib.rsp_data (suc s)) 0)

  pub is_cache : IsCache lines words reset_pc predicts f ib r
  is_cache = record {
    pc_reset = m.pc_reset;
    walk_reset = m.walk_reset;
    given_reset = m.given_reset;
    owed_reset = m.owed_reset;
    captured_reset = m.captured_reset;
    full_reset = m.full_reset;
    pc = λ s. m.pc s ∙ λ j. cond (f.redirect (suc s)) (f.redirect_pc (suc s)) (cond (moves_same (suc s) j) (c.guess predicts f q (suc s)) (q.pc (suc s)));
    walk = m.walk;
    given = λ s. m.given s ∙ λ j. misses_same (suc s) j || (c.goes_on lines words top f ib q (suc s) || (q.given (suc s) && not (eqb (ib.cmd_ready (suc s)) 1)));
    owed = m.owed;
    dropped = m.dropped;
    line = λ s. m.line s ∙ λ j. cond (misses_same (suc s) j) (line_of words (q.pc (suc s))) (q.line (suc s));
    place = λ s. m.place s ∙ λ j. cond (misses_same (suc s) j) 0 (place_next s j);
    bad = λ s. m.bad s ∙ λ j. not (misses_same (suc s) j) && cond (c.keeps lines words top f ib q (suc s)) (c.now_bad lines words top f ib q (suc s)) (q.bad (suc s));
    wanted = λ s. m.wanted s ∙ λ j. (misses_same (suc s) j || q.wanted (suc s)) && not (f.redirect (suc s));
    captured = λ s. m.captured s ∙ λ j. ((c.ends lines words top f ib q (suc s) && (q.wanted (suc s) && c.now_bad lines words top f ib q (suc s))) || (q.captured (suc s) && not (moves_same (suc s) j))) && not (f.redirect (suc s));
    captured_word = m.captured_word;
    captured_error = m.captured_error;
    tags = tags_next;
    cells = cells_next;
    full = λ s. m.full s ∙ λ j. not (f.redirect (suc s)) && (moves_same (suc s) j || (q.full (suc s) && not (f.take (suc s))));
    out_pc = m.out_pc;
    out_word = λ s. m.out_word s ∙ λ j. cond (c.room lines words top f ib q (suc s)) (word_same (suc s) j) (q.out_word (suc s));
    out_error = m.out_error;
    valid = m.valid;
    item_pc = m.item_pc;
    item_word = m.item_word;
    item_error = m.item_error;
    cmd_valid = m.cmd_valid;
    cmd_addr = m.cmd_addr;
    cmd_write = m.cmd_write;
    cmd_data = m.cmd_data;
    cmd_mask = m.cmd_mask;
    asks = λ e s. ((m.asks e s).0, (m.asks e s).1 ∙ word_same (suc s));
  }
