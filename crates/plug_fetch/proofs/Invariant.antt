-- The invariant of the part, as a cycle begins.
use Rattle.std.proofs.Common.{◌≡◌, ℕ, zero, suc, ◌+◌, ◌%◌, ◌<◌, ◌≤◌, Bool, true, false, cond, not, eqb, ltb, List, [], ◌∷◌, ◌++◌, length, length-append, ◌&&◌, ◌||◌, Option, Some, None, refl, sym, ap, ◌∙◌, subst, subst₂, arith}
use Rattle.std.proofs.lemmas.Bool.{ltb-true, lt-ltb}
use Rattle.core_words.specs.Values.{one_if}
use Rattle.core_ports.specs.Trace.{Bus}
use Rattle.bus_law.specs.Memory.{Memory, word_at}
use Rattle.bus_law.specs.Protocol.{is_given, is_accepted, owed}
use Rattle.bus_law.specs.Honest.{FetchReply, fetch_reply, Responds}
use Rattle.bus_law.specs.Prompt.{given_from}
use Rattle.plug_law.specs.Past.{last, accepted_since, count_since}
use Rattle.isa_model.specs.Run.{FetchedFrom}
use Rattle.plug_law.specs.Fetch.{FetchSignals, fetched_as, next_of, owes_pc, FetchAssumed}
use Rattle.plug_fetch.proofs.Queue.{Item, Registers, rest_of, put_last, idle, kept, came, left, queue_after, pc_after, Offers, IsQueue}
use Rattle.plug_fetch.proofs.Truths.{and_l, and_r, or_l, or_r, both, not_true, not_false, same, ltb_no, ltb_off, back, cond_true}
use Rattle.bus_law.proofs.Standing.{from_by_now, owed_since}
use Rattle.plug_fetch.proofs.Counts.{none_accepted, accepted_more, none_counted, counted_more}
use Rattle.plug_fetch.proofs.Wires.{idle_if, given_if, owed_if, busy_now, busy_next, issues, rests, not_owed, no_response}

pub last_le : (p : ℕ → Bool) (t : ℕ) → last p (suc t) ≤ t
unfolding last
last_le p t = by (p t) (before t)
  where
    before : (t : ℕ) → last p t ≤ t
    before zero = omega arith
    before (suc t) = go (p t) (before t)
      where
        go : (c : Bool) → last p t ≤ t → cond c t (last p t) ≤ suc t
        go true h = omega arith
        go false h = omega arith

    by : (c : Bool) → last p t ≤ t → cond c t (last p t) ≤ t
    by true h = omega arith
    by false h = h

-- what is given of the pcs: instructions stand at multiples of 4, and the guess is what Predict answers for the word that comes
pub record IsGiven (reset_pc : ℕ) (f : FetchSignals) (guess : ℕ → ℕ) (ib : Bus) (mem : ℕ → Memory) (predicts : Bool) (predict : ℕ → ℕ → ℕ) (r : Registers) : Type 0 where
  pub reset : reset_pc % 4 ≡ 0
  pub whole : (pc word : ℕ) → pc % 4 ≡ 0 → predict pc word % 4 ≡ 0
  pub guessed : (s : ℕ) → FetchAssumed f ib mem predicts predict s → guess (suc s) ≡ predict (r.address (suc s)) (ib.rsp_data (suc s))

-- from what is owed over the items to the pc to be read next
abbrev pub Leads : (ℕ → ℕ → ℕ) → Option ℕ → List Item → ℕ → Type 0
Leads predict owes [] next_pc = (pc : ℕ) → owes ≡ Some pc → next_pc ≡ pc
Leads predict owes (x ∷ xs) next_pc = ((pc : ℕ) → owes ≡ Some pc → x.pc ≡ pc) × Leads predict (next_of predict x.error x.pc x.word) xs next_pc

-- each item is what memory held as a cycle after cycle `since` and before cycle t began
pub record IsTrueSince (mem : ℕ → Memory) (since t : ℕ) (x : Item) : Type 0 where
  pub cycle : ℕ
  pub after : since < cycle
  pub before : cycle < t
  pub gives : FetchedFrom (mem cycle) x.pc (fetched_as x.error x.word)

abbrev pub AllTrue : (ℕ → Memory) → (since t : ℕ) → List Item → Type 0
AllTrue mem since t [] = Unit {0}
AllTrue mem since t (x ∷ xs) = IsTrueSince mem since t x × AllTrue mem since t xs

-- ---- the queue
pub put_is : (depth : ℕ) (xs : List Item) (x : Item) → length xs < depth → put_last depth xs x ≡ (xs ++ x ∷ [])
put_is depth xs x h = cond_true (ltb (length xs) depth) (xs ++ x ∷ []) xs (lt-ltb _ _ h)

length_rest : (xs : List Item) → length (rest_of xs) ≤ length xs
length_rest [] = omega arith
length_rest (x ∷ xs) = omega arith

pub length_left : (tk : Bool) (q : List Item) → length (cond tk (rest_of q) q) ≤ length q
length_left true q = length_rest q
length_left false q = omega arith

length_put : (depth : ℕ) (xs : List Item) (x : Item) → length xs ≤ depth → length (put_last depth xs x) ≤ depth
length_put depth xs x h = by (ltb (length xs) depth) refl
  where
    by : (c : Bool) → ltb (length xs) depth ≡ c → length (cond c (xs ++ x ∷ []) xs) ≤ depth
    by true e = let l = ltb-true (length xs) depth e in rw (length-append xs (x ∷ [])) (omega arith)
    by false e = h

room_after : (depth : ℕ) (rd kp tk : Bool) (q : List Item) (x : Item) → length q ≤ depth
    → length (cond rd [] (cond kp (put_last depth (cond tk (rest_of q) q) x) (cond tk (rest_of q) q))) ≤ depth
room_after depth true kp tk q x h = omega arith
room_after depth false true tk q x h = length_put depth (cond tk (rest_of q) q) x (let l = length_left tk q in omega arith)
room_after depth false false tk q x h = let l = length_left tk q in omega arith

-- what is taken was there
length_after : (depth : ℕ) (tk kp valid : Bool) (pc word : ℕ) (error : Bool) (q : List Item) (x : Item) → Offers q valid pc word error → (tk ≡ true → valid ≡ true) → (kp ≡ true → length q < depth)
    → length (cond kp (put_last depth (cond tk (rest_of q) q) x) (cond tk (rest_of q) q)) + one_if tk ≡ length q + one_if kp
length_after depth tk kp valid pc word error q x offers taken room = by tk kp q offers taken room
  where
    put : (tk : Bool) (q : List Item) → length q < depth → length (put_last depth (cond tk (rest_of q) q) x) ≡ length (cond tk (rest_of q) q) + 1
    put tk q l = ap length (put_is depth (cond tk (rest_of q) q) x (let k = length_left tk q in omega arith)) ∙ length-append (cond tk (rest_of q) q) (x ∷ [])

    by : (tk kp : Bool) (q : List Item) → Offers q valid pc word error → (tk ≡ true → valid ≡ true) → (kp ≡ true → length q < depth)
        → length (cond kp (put_last depth (cond tk (rest_of q) q) x) (cond tk (rest_of q) q)) + one_if tk ≡ length q + one_if kp
    by true kp [] offers taken room = both valid (taken refl) offers
    by true true (z ∷ zs) offers taken room = let e = put true (z ∷ zs) (room refl) in omega arith
    by true false (z ∷ zs) offers taken room = omega arith
    by false true q offers taken room = let e = put false q (room refl) in omega arith
    by false false q offers taken room = refl

-- ---- the pcs
module _ (predict : ℕ → ℕ → ℕ) where
  some : (x y : ℕ) → Some x ≡ Some y → x ≡ y
  some x y e = cc

  leads_append : (o : Option ℕ) (xs : List Item) (x : Item) (next_pc next : ℕ) → x.pc ≡ next_pc → next ≡ predict x.pc x.word → Leads predict o xs next_pc → Leads predict o (xs ++ x ∷ []) next
  leads_append o [] x next_pc next e g h = (λ pc q. e ∙ h pc q, by x.error)
    where
      by : (b : Bool) (pc : ℕ) → next_of predict b x.pc x.word ≡ Some pc → next ≡ pc
      by true pc q = absurd (grind arith)
      by false pc q = g ∙ some (predict x.pc x.word) pc q
  leads_append o (z ∷ zs) x next_pc next e g h = (h.0, leads_append (next_of predict z.error z.pc z.word) zs x next_pc next e g h.1)

  leads_after : (depth : ℕ) (rd tk kp : Bool) (o : Option ℕ) (q : List Item) (valid : Bool) (pc word : ℕ) (error : Bool) (next_pc redirect_pc next : ℕ) (x : Item)
      → Offers q valid pc word error → (tk ≡ true → valid ≡ true) → (kp ≡ true → (x.pc ≡ next_pc) × (next ≡ predict x.pc x.word) × (length q < depth)) → Leads predict o q next_pc
      → Leads predict (cond rd (Some redirect_pc) (cond tk (next_of predict error pc word) o)) (cond rd [] (cond kp (put_last depth (cond tk (rest_of q) q) x) (cond tk (rest_of q) q))) (cond rd redirect_pc (cond kp next next_pc))
  leads_after depth rd tk kp o q valid pc word error next_pc redirect_pc next x offers taken keeps leads = by rd tk q offers taken keeps leads
    where
      put : (kp : Bool) (o : Option ℕ) (xs : List Item) → (kp ≡ true → (x.pc ≡ next_pc) × (next ≡ predict x.pc x.word) × (length xs < depth)) → Leads predict o xs next_pc
          → Leads predict o (cond kp (put_last depth xs x) xs) (cond kp next next_pc)
      put true o xs k h = let l = k refl in subst (λ z. Leads predict o z next) (sym (put_is depth xs x l.2)) (leads_append o xs x next_pc next l.0 l.1 h)
      put false o xs k h = h

      by : (rd tk : Bool) (q : List Item) → Offers q valid pc word error → (tk ≡ true → valid ≡ true) → (kp ≡ true → (x.pc ≡ next_pc) × (next ≡ predict x.pc x.word) × (length q < depth)) → Leads predict o q next_pc
          → Leads predict (cond rd (Some redirect_pc) (cond tk (next_of predict error pc word) o)) (cond rd [] (cond kp (put_last depth (cond tk (rest_of q) q) x) (cond tk (rest_of q) q))) (cond rd redirect_pc (cond kp next next_pc))
      by true tk q offers taken keeps leads = λ pc e. some redirect_pc pc e
      by false true [] offers taken keeps leads = both valid (taken refl) offers
      by false true (z ∷ zs) offers taken keeps leads =
          put kp (next_of predict error pc word) zs (λ e. let k = keeps e in (k.0, k.1, let l : suc (length zs) < depth = k.2 in omega arith))
          (subst (λ o. Leads predict o zs next_pc) (λ j. next_of predict (sym offers.3 j) (sym offers.1 j) (sym offers.2 j)) leads.1)
      by false false q offers taken keeps leads = put kp o q keeps leads

-- ---- the words
gives_of : (m : Memory) (pc error payload : ℕ) → FetchReply (word_at m pc) error payload → FetchedFrom m pc (fetched_as (eqb error 1) payload)
gives_of m pc error payload h = by (word_at m pc) refl h
  where
    by : (o : Option ℕ) → word_at m pc ≡ o → FetchReply o error payload → FetchedFrom m pc (fetched_as (eqb error 1) payload)
    by None e g = subst (λ k. FetchedFrom m pc (fetched_as (eqb k 1) payload)) (sym g) e
    by (Some w) e g = subst (λ k. FetchedFrom m pc (fetched_as (eqb k 1) payload)) (sym g.0) (e ∙ ap Some (sym g.1))

module _ (mem : ℕ → Memory) (since t : ℕ) where
  later : (x : Item) → IsTrueSince mem since t x → IsTrueSince mem since (suc t) x
  later x h = record { cycle = h.cycle; after = h.after; before = let l = h.before in omega arith; gives = h.gives }

  all_later : (xs : List Item) → AllTrue mem since t xs → AllTrue mem since (suc t) xs
  all_later [] h = tt
  all_later (x ∷ xs) h = (later x h.0, all_later xs h.1)

  all_rest : (xs : List Item) → AllTrue mem since t xs → AllTrue mem since t (rest_of xs)
  all_rest [] h = tt
  all_rest (x ∷ xs) h = h.1

  all_left : (tk : Bool) (xs : List Item) → AllTrue mem since t xs → AllTrue mem since t (cond tk (rest_of xs) xs)
  all_left true xs h = all_rest xs h
  all_left false xs h = h

  all_append : (xs : List Item) (x : Item) → AllTrue mem since t xs → IsTrueSince mem since t x → AllTrue mem since t (xs ++ x ∷ [])
  all_append [] x h g = (g, tt)
  all_append (z ∷ zs) x h g = (h.0, all_append zs x h.1 g)

  all_put : (depth : ℕ) (xs : List Item) (x : Item) → AllTrue mem since t xs → IsTrueSince mem since t x → AllTrue mem since t (put_last depth xs x)
  all_put depth xs x h g = by (ltb (length xs) depth)
    where
      by : (c : Bool) → AllTrue mem since t (cond c (xs ++ x ∷ []) xs)
      by true = all_append xs x h g
      by false = h

module _ (depth reset_pc : ℕ) (f : FetchSignals) (guess : ℕ → ℕ) (ib : Bus) (mem : ℕ → Memory) (predicts : Bool) (predict : ℕ → ℕ → ℕ) (r : Registers) where
  abbrev pub is_busy : ℕ → Bool
  is_busy t = r.given t || r.owed t

  abbrev pub is_idle : ℕ → Bool
  is_idle t = idle depth f guess ib r t

  -- the cycle in which the command at work was first given
  unfoldable pub start : ℕ → ℕ
  start zero = 0
  start (suc t) = cond (is_idle t) (suc t) (start t)

  pub start_le : (t : ℕ) → start t ≤ t
  unfolding start
  start_le zero = omega arith
  start_le (suc t) = go (is_idle t) (start_le t)
    where
      go : (c : Bool) → start t ≤ t → cond c (suc t) (start t) ≤ suc t
      go true h = omega arith
      go false h = omega arith

  pub data Phase (t : ℕ) : Type 0 where
    Rests : r.given t ≡ false → r.owed t ≡ false → owed ib t ≡ None → Phase t
    Asks : r.given t ≡ true → r.owed t ≡ false → owed ib t ≡ None → given_from ib t ≡ start t → Phase t
    Waits : (c : ℕ) → r.given t ≡ false → r.owed t ≡ true → owed ib t ≡ Some c → given_from ib c ≡ start t → ib.cmd_addr c ≡ r.address t → Phase t

  pub record Inv (t : ℕ) : Type 0 where
    pub phase : Phase t
    pub full : 2 ≤ t → is_busy t ≡ false → length (r.queue t) ≡ depth
    pub drops : is_busy t ≡ true → r.dropped t ≡ not (ltb (last f.redirect t) (start t))
    pub wants : is_busy t ≡ true → r.dropped t ≡ false → (r.address t ≡ r.next_pc t) × (length (r.queue t) < depth)
    pub leads : Leads predict (owes_pc f predict reset_pc t) (r.queue t) (r.next_pc t)
    pub true_items : AllTrue mem (last f.redirect t) t (r.queue t)
    pub fences : last f.fence t ≤ last f.redirect t
    pub whole : r.next_pc t % 4 ≡ 0
    pub whole_address : is_busy t ≡ true → r.address t % 4 ≡ 0
    pub room : length (r.queue t) ≤ depth
    pub counts : accepted_since ib (last f.redirect t) t ≡ count_since f.take (last f.redirect t) t + (length (r.queue t) + one_if (r.owed t && not (r.dropped t)))

  pub apart : (t : ℕ) → Phase t → (r.given t && r.owed t) ≡ false
  apart t (Rests g o w) = ap (λ b. b && r.owed t) g
  apart t (Asks g o w a) = λ i. g i && o i
  apart t (Waits c g o w a q) = ap (λ b. b && r.owed t) g

  module _ (m : IsQueue depth reset_pc f guess ib r) (given : IsGiven reset_pc f guess ib mem predicts predict r) where
    pub given_is : (s : ℕ) → is_given ib (suc s) ≡ r.given (suc s)
    unfolding is_given
    given_is s = ap (λ n. eqb n 1) (m.cmd_valid s) ∙ back (r.given (suc s))

    pub accepted_is : (s : ℕ) → is_accepted ib (suc s) ≡ (r.given (suc s) && eqb (ib.cmd_ready (suc s)) 1)
    unfolding is_accepted
    accepted_is s = ap (λ b. b && eqb (ib.cmd_ready (suc s)) 1) (given_is s)

    -- ---- in cycle 1
    first_phase : Phase 1
    unfolding owed is_accepted is_given
    first_phase = Rests m.given_reset m.owed_reset (none (eqb (ib.rsp_valid 0) 1))
      where
        none : (v : Bool) → ◌≡◌ {A = Option ℕ} (cond false (Some 0) (cond v None None)) None
        none true = refl
        none false = refl

    idle_at_first : {A : Type 0} → is_busy 1 ≡ true → A
    idle_at_first e = both (is_busy 1) e (λ i. m.given_reset i || m.owed_reset i)

    first_last : (q : ℕ → Bool) → last q 1 ≡ 0
    unfolding last
    first_last q = by (q 0)
      where
        by : (b : Bool) → ◌≡◌ {A = ℕ} (cond b 0 0) 0
        by true = refl
        by false = refl

    first_counts : accepted_since ib 0 1 ≡ count_since f.take 0 1 + (length (r.queue 1) + one_if (r.owed 1 && not (r.dropped 1)))
    unfolding accepted_since count_since is_accepted is_given
    first_counts = by (f.take 0) ∙ λ j. cond (f.take 0 && ltb 0 0) 1 0 + (length (sym m.queue_reset j) + one_if (sym m.owed_reset j && not (r.dropped 1)))
      where
        by : (b : Bool) → ◌≡◌ {A = ℕ} 0 (cond (b && ltb 0 0) 1 0 + 0)
        by true = refl
        by false = refl

    pub first : Inv 1
    unfolding owes_pc last
    first = record {
      phase = first_phase;
      full = λ l. absurd (omega arith);
      drops = λ e. idle_at_first e;
      wants = λ e. idle_at_first e;
      leads = subst (λ q. Leads predict (Some reset_pc) q (r.next_pc 1)) (sym m.queue_reset) (λ pc e. m.next_pc_reset ∙ some predict reset_pc pc e);
      true_items = subst (AllTrue mem (last f.redirect 1) 1) (sym m.queue_reset) tt;
      fences = rw (first_last f.fence, first_last f.redirect) (omega arith);
      whole = ap (λ k. k % 4) m.next_pc_reset ∙ given.reset;
      whole_address = λ e. idle_at_first e;
      room = subst (λ q. length q ≤ depth) (sym m.queue_reset) (omega arith);
      counts = subst (λ k. accepted_since ib k 1 ≡ count_since f.take k 1 + (length (r.queue 1) + one_if (r.owed 1 && not (r.dropped 1)))) (sym (first_last f.redirect)) first_counts;
    }

    module _ (s : ℕ) (i : Inv (suc s)) (a : FetchAssumed f ib mem predicts predict s) where
      abbrev t : ℕ
      t = suc s

      abbrev v : Bool
      v = eqb (ib.rsp_valid t) 1

      abbrev y : Bool
      y = eqb (ib.cmd_ready t) 1

      abbrev n : Bool
      n = ltb (length (queue_after depth f guess ib r t)) depth

      phase_next : Phase (suc t)
      unfolding owed given_from start
      phase_next = by i.phase v y n refl refl refl
        where
          -- a command is issued, or none
          anew : (b : Bool) → r.given (suc t) ≡ b → r.owed (suc t) ≡ false → owed ib (suc t) ≡ None → is_given ib t ≡ false → is_idle t ≡ true → Phase (suc t)
          anew true g o w d e = Asks g o w ((λ j. cond (d j && not (is_accepted ib t)) (given_from ib t) (suc t)) ∙ λ j. cond (sym e j) (suc t) (start t))
          anew false g o w d e = Rests g o w

          none : (b : Bool) (q : Option ℕ) → q ≡ None → ◌≡◌ {A = Option ℕ} (cond b None q) None
          none true q h = refl
          none false q h = h

          by : Phase t → (bv b_y bn : Bool) → v ≡ bv → y ≡ b_y → n ≡ bn → Phase (suc t)
          by (Rests g o w) bv b_y bn ev ey en =
              anew bn (m.given s ∙ ((λ j. given_if (g j) (o j) v (en j) y) ∙ or_false bn)) (m.owed s ∙ λ j. owed_if (g j) (o j) v y)
              ((λ j. cond ((accepted_is s ∙ λ j. g j && y) j) (Some t) (cond v None (owed ib t))) ∙ none v (owed ib t) w)
              (given_is s ∙ g) (λ j. idle_if (g j) (o j) v)
            where
              or_false : (b : Bool) → (b || false) ≡ b
              or_false true = refl
              or_false false = refl
          by (Asks g o w d) bv true bn ev ey en =
              Waits t (m.given s ∙ λ j. given_if (g j) (o j) v n (ey j)) (m.owed s ∙ λ j. owed_if (g j) (o j) v (ey j))
              (λ j. cond ((accepted_is s ∙ λ j. g j && ey j) j) (Some t) (cond v None (owed ib t)))
              (d ∙ λ j. cond (idle_if (sym g j) (sym o j) v) (suc t) (start t))
              (m.cmd_addr s ∙ sym (m.address s ∙ λ j. cond (idle_if (g j) (o j) v) (pc_after depth f guess ib r t) (r.address t)))
          by (Asks g o w d) bv false bn ev ey en =
              Asks (m.given s ∙ λ j. given_if (g j) (o j) v n (ey j)) (m.owed s ∙ λ j. owed_if (g j) (o j) v (ey j))
              ((λ j. cond ((accepted_is s ∙ λ j. g j && ey j) j) (Some t) (cond v None (owed ib t))) ∙ none v (owed ib t) w)
              ((λ j. cond ((given_is s ∙ g) j && not ((accepted_is s ∙ λ j. g j && ey j) j)) (given_from ib t) (suc t)) ∙ (d ∙ λ j. cond (idle_if (sym g j) (sym o j) v) (suc t) (start t)))
          by (Waits c g o w d q) true b_y bn ev ey en =
              anew bn (m.given s ∙ ((λ j. given_if (g j) (o j) (ev j) (en j) y) ∙ or_false bn)) (m.owed s ∙ λ j. owed_if (g j) (o j) (ev j) y)
              (λ j. cond ((accepted_is s ∙ λ j. g j && y) j) (Some t) (cond (ev j) None (owed ib t)))
              (given_is s ∙ g) (λ j. idle_if (g j) (o j) (ev j))
            where
              or_false : (b : Bool) → (b || false) ≡ b
              or_false true = refl
              or_false false = refl
          by (Waits c g o w d q) false b_y bn ev ey en =
              Waits c (m.given s ∙ λ j. given_if (g j) (o j) (ev j) n y) (m.owed s ∙ λ j. owed_if (g j) (o j) (ev j) y)
              ((λ j. cond ((accepted_is s ∙ λ j. g j && y) j) (Some t) (cond (ev j) None (owed ib t))) ∙ w)
              (d ∙ λ j. cond (idle_if (sym g j) (sym o j) (sym ev j)) (suc t) (start t))
              (q ∙ sym (m.address s ∙ λ j. cond (idle_if (g j) (o j) (ev j)) (pc_after depth f guess ib r t) (r.address t)))

      -- ---- the rows
      busy_is : is_busy (suc t) ≡ (given_if (r.given t) (r.owed t) v n y || owed_if (r.given t) (r.owed t) v y)
      busy_is = λ j. m.given s j || m.owed s j

      room_next : length (r.queue (suc t)) ≤ depth
      room_next = subst (λ q. length q ≤ depth) (sym (m.queue s)) (room_after depth (f.redirect t) (kept depth f guess ib r t) (f.take t) (r.queue t) (came depth f guess ib r t) i.room)

      full_next : is_busy (suc t) ≡ false → length (r.queue (suc t)) ≡ depth
      full_next e = by (is_idle t) refl
        where
          by : (c : Bool) → is_idle t ≡ c → length (r.queue (suc t)) ≡ depth
          by true q =
              let least : depth ≤ length (queue_after depth f guess ib r t) = ltb_no _ _ (rests (r.given t) (r.owed t) v n y q (sym busy_is ∙ e)) in
              let is : length (r.queue (suc t)) ≡ length (queue_after depth f guess ib r t) = ap length (m.queue s) in
              let most = room_next in
              omega arith
          by false q = both (given_if (r.given t) (r.owed t) v n y || owed_if (r.given t) (r.owed t) v y) (busy_next (r.given t) (r.owed t) v n y q) (sym busy_is ∙ e)

      drops_next : r.dropped (suc t) ≡ not (ltb (last f.redirect (suc t)) (start (suc t)))
      unfolding last start
      drops_next = by (is_idle t) (f.redirect t) refl refl
        where
          and_false : (b : Bool) → (b && false) ≡ false
          and_false true = refl
          and_false false = refl

          and_true : (b : Bool) → (b && true) ≡ b
          and_true true = refl
          and_true false = refl

          by : (c rd : Bool) → is_idle t ≡ c → f.redirect t ≡ rd → r.dropped (suc t) ≡ not (ltb (last f.redirect (suc t)) (start (suc t)))
          by true rd ce re =
              m.dropped s ∙ ((λ j. (f.redirect t || r.dropped t) && not (ce j)) ∙ (and_false (f.redirect t || r.dropped t)
              ∙ sym ((λ j. not (ltb (last f.redirect (suc t)) (cond (ce j) (suc t) (start t)))) ∙ ap not (lt-ltb (last f.redirect (suc t)) (suc t) (let l = last_le f.redirect t in omega arith)))))
          by false true ce re =
              m.dropped s ∙ ((λ j. (re j || r.dropped t) && not (ce j))
              ∙ sym ((λ j. not (ltb (cond (re j) t (last f.redirect t)) (cond (ce j) (suc t) (start t)))) ∙ ap not (ltb_off t (start t) (start_le t))))
          by false false ce re =
              m.dropped s ∙ ((λ j. (re j || r.dropped t) && not (ce j)) ∙ (and_true (r.dropped t)
              ∙ (i.drops (busy_now (r.given t) (r.owed t) v ce) ∙ λ j. not (ltb (cond (sym re j) t (last f.redirect t)) (cond (sym ce j) (suc t) (start t))))))

      -- a kept response is that of a command first given after the last redirect
      keeps : kept depth f guess ib r t ≡ true → (r.owed t ≡ true) × (v ≡ true) × (r.dropped t ≡ false)
      keeps e =
          let a = and_l (r.owed t && v) (not (r.dropped t)) e in
          (and_l (r.owed t) v a, and_r (r.owed t) v a, not_true (r.dropped t) (and_r (r.owed t && v) (not (r.dropped t)) e))

      owed_busy : r.owed t ≡ true → is_busy t ≡ true
      owed_busy e = or_true (r.given t) (r.owed t) e
        where
          or_true : (a b : Bool) → b ≡ true → (a || b) ≡ true
          or_true true b h = refl
          or_true false b h = h

      wanted : kept depth f guess ib r t ≡ true → (r.address t ≡ r.next_pc t) × (length (r.queue t) < depth)
      wanted e = let k = keeps e in i.wants (owed_busy k.0) k.2

      next_is : guess t ≡ predict (r.address t) (ib.rsp_data t)
      next_is = given.guessed s a

      leads_next : Leads predict (owes_pc f predict reset_pc (suc t)) (r.queue (suc t)) (r.next_pc (suc t))
      unfolding owes_pc
      leads_next =
          subst₂ (Leads predict (owes_pc f predict reset_pc (suc t))) (sym (m.queue s)) (sym (m.next_pc s))
          (leads_after predict depth (f.redirect t) (f.take t) (kept depth f guess ib r t) (owes_pc f predict reset_pc t) (r.queue t) (f.valid t) (f.pc t) (f.word t) (f.error t) (r.next_pc t) (f.redirect_pc t) (guess t) (came depth f guess ib r t)
          (m.offers s) a.takes (λ e. let w = wanted e in (w.0, next_is, w.1)) i.leads)

      wants_next : is_busy (suc t) ≡ true → r.dropped (suc t) ≡ false → (r.address (suc t) ≡ r.next_pc (suc t)) × (length (r.queue (suc t)) < depth)
      wants_next b d = by (is_idle t) refl
        where
          and_true : (b : Bool) → (b && true) ≡ b
          and_true true = refl
          and_true false = refl

          by : (c : Bool) → is_idle t ≡ c → (r.address (suc t) ≡ r.next_pc (suc t)) × (length (r.queue (suc t)) < depth)
          by true ce = (
            m.address s ∙ ((λ j. cond (ce j) (pc_after depth f guess ib r t) (r.address t)) ∙ sym (m.next_pc s)),
            subst (λ q. length q < depth) (sym (m.queue s)) (ltb-true _ _ (issues (r.given t) (r.owed t) v n y (apart t i.phase) ce (sym busy_is ∙ b))),
          )
          by false ce =
              let off : (f.redirect t || r.dropped t) ≡ false = sym (and_true (f.redirect t || r.dropped t)) ∙ ((λ j. (f.redirect t || r.dropped t) && not (sym ce j)) ∙ (sym (m.dropped s) ∙ d)) in
              let re : f.redirect t ≡ false = or_l (f.redirect t) (r.dropped t) off in
              let none : (r.owed t && v) ≡ false = no_response (r.given t) (r.owed t) v ce in
              let ke : kept depth f guess ib r t ≡ false = λ j. none j && not (r.dropped t) in
              let w = i.wants (busy_now (r.given t) (r.owed t) v ce) (or_r (f.redirect t) (r.dropped t) off) in
              let shorter = length_left (f.take t) (r.queue t) in
              let l : length (r.queue t) < depth = w.1 in (
                (m.address s ∙ λ j. cond (ce j) (pc_after depth f guess ib r t) (r.address t)) ∙ (w.0
                    ∙ sym (m.next_pc s ∙ λ j. cond (re j) (f.redirect_pc t) (cond (ke j) (guess t) (r.next_pc t)))),
                subst (λ q. length q < depth) (sym (m.queue s ∙ λ j. cond (re j) [] (cond (ke j) (put_last depth (left depth f guess ib r t) (came depth f guess ib r t)) (left depth f guess ib r t)))) (omega arith),
              )

      new_item : kept depth f guess ib r t ≡ true → IsTrueSince mem (last f.redirect t) (suc t) (came depth f guess ib r t)
      new_item e = by i.phase (keeps e)
        where
          by : Phase t → (r.owed t ≡ true) × (v ≡ true) × (r.dropped t ≡ false) → IsTrueSince mem (last f.redirect t) (suc t) (came depth f guess ib r t)
          by (Rests g o w) k = both (r.owed t) k.0 o
          by (Asks g o w d) k = both (r.owed t) k.0 o
          by (Waits c g o w d q) k =
              let x = owed_since ib t c w in
              let reply = (subst (Responds fetch_reply ib mem t) w a.honest.responds).1 (same (ib.rsp_valid t) 1 k.1) in
              let begun : last f.redirect t < start t = ltb-true _ _ (not_false (ltb (last f.redirect t) (start t)) (sym (i.drops (owed_busy k.0)) ∙ k.2)) in
              let by_then : given_from ib c ≤ c = from_by_now ib c in
              let before : c < t = x.before in
              record {
                cycle = c;
                after = omega arith;
                before = omega arith;
                gives = gives_of (mem c) (r.address t) (ib.rsp_error t) (ib.rsp_data t) (subst (λ z. FetchReply (word_at (mem c) z) (ib.rsp_error t) (ib.rsp_data t)) q reply);
              }

      true_next : AllTrue mem (last f.redirect (suc t)) (suc t) (r.queue (suc t))
      unfolding last
      true_next = by (f.redirect t) refl
        where
          old : AllTrue mem (last f.redirect t) (suc t) (left depth f guess ib r t)
          old = all_later mem (last f.redirect t) t (left depth f guess ib r t) (all_left mem (last f.redirect t) t (f.take t) (r.queue t) i.true_items)

          put : (kp : Bool) → kept depth f guess ib r t ≡ kp → AllTrue mem (last f.redirect t) (suc t) (cond kp (put_last depth (left depth f guess ib r t) (came depth f guess ib r t)) (left depth f guess ib r t))
          put true ke = all_put mem (last f.redirect t) (suc t) depth (left depth f guess ib r t) (came depth f guess ib r t) old (new_item ke)
          put false ke = old

          by : (rd : Bool) → f.redirect t ≡ rd → AllTrue mem (cond (f.redirect t) t (last f.redirect t)) (suc t) (r.queue (suc t))
          by true re = subst (AllTrue mem (cond (f.redirect t) t (last f.redirect t)) (suc t)) (sym (m.queue s ∙ λ j. cond (re j) [] (cond (kept depth f guess ib r t) (put_last depth (left depth f guess ib r t) (came depth f guess ib r t)) (left depth f guess ib r t)))) tt
          by false re =
              subst₂ (λ k q. AllTrue mem k (suc t) q) (λ j. cond (sym re j) t (last f.redirect t))
              (sym (m.queue s ∙ λ j. cond (re j) [] (cond (kept depth f guess ib r t) (put_last depth (left depth f guess ib r t) (came depth f guess ib r t)) (left depth f guess ib r t))))
              (put (kept depth f guess ib r t) refl)

      fences_next : last f.fence (suc t) ≤ last f.redirect (suc t)
      unfolding last
      fences_next = by (f.fence t) (f.redirect t) a.fences
        where
          earlier : last f.fence t ≤ s
          earlier = last_le f.fence s

          by : (fe rd : Bool) → (fe ≡ true → rd ≡ true) → cond fe t (last f.fence t) ≤ cond rd t (last f.redirect t)
          by true true h = omega arith
          by true false h = both false (h refl) refl
          by false true h = let l = earlier in omega arith
          by false false h = i.fences

      whole_next : r.next_pc (suc t) % 4 ≡ 0
      whole_next = ap (λ k. k % 4) (m.next_pc s) ∙ by (f.redirect t) (kept depth f guess ib r t) refl refl
        where
          by : (rd kp : Bool) → f.redirect t ≡ rd → kept depth f guess ib r t ≡ kp → cond rd (f.redirect_pc t) (cond kp (guess t) (r.next_pc t)) % 4 ≡ 0
          by true kp re ke = a.whole
          by false true re ke = ap (λ k. k % 4) next_is ∙ given.whole (r.address t) (ib.rsp_data t) (i.whole_address (owed_busy (keeps ke).0))
          by false false re ke = i.whole

      whole_address_next : r.address (suc t) % 4 ≡ 0
      whole_address_next = ap (λ k. k % 4) (m.address s) ∙ by (is_idle t) refl
        where
          by : (c : Bool) → is_idle t ≡ c → cond c (pc_after depth f guess ib r t) (r.address t) % 4 ≡ 0
          by true ce = ap (λ k. k % 4) (sym (m.next_pc s)) ∙ whole_next
          by false ce = i.whole_address (busy_now (r.given t) (r.owed t) v ce)

      -- ---- the counts
      abbrev accepts : Bool
      accepts = is_accepted ib t && ltb (last f.redirect t) (given_from ib t)

      bits : f.redirect t ≡ false → one_if accepts + one_if (r.owed t && not (r.dropped t)) ≡ one_if (kept depth f guess ib r t) + one_if (r.owed (suc t) && not (r.dropped (suc t)))
      bits re = by i.phase v y refl refl
        where
          asked : (x : Bool) → one_if x + 0 ≡ 0 + one_if (not (not x && true))
          asked true = refl
          asked false = refl

          turned : (x : Bool) → 0 + one_if x ≡ one_if x + 0
          turned true = refl
          turned false = refl

          waits : (x : Bool) → 0 + one_if (not x) ≡ 0 + one_if (not (x && true))
          waits true = refl
          waits false = refl

          by : Phase t → (bv b_y : Bool) → v ≡ bv → y ≡ b_y → one_if accepts + one_if (r.owed t && not (r.dropped t)) ≡ one_if (kept depth f guess ib r t) + one_if (r.owed (suc t) && not (r.dropped (suc t)))
          by (Rests g o w) bv b_y ev ey =
              (λ j. one_if ((accepted_is s ∙ λ j. g j && y) j && ltb (last f.redirect t) (given_from ib t)) + one_if (o j && not (r.dropped t)))
              ∙ sym (λ j. one_if ((o j && v) && not (r.dropped t)) + one_if ((m.owed s ∙ λ j. owed_if (g j) (o j) v y) j && not (r.dropped (suc t))))
          by (Asks g o w d) bv true ev ey =
              let dr = i.drops (ap (λ b. b || r.owed t) g) in
              (λ j. one_if ((accepted_is s ∙ λ j. g j && ey j) j && ltb (last f.redirect t) (d j)) + one_if (o j && not (r.dropped t)))
              ∙ (asked (ltb (last f.redirect t) (start t)) ∙ sym (λ j. one_if ((o j && v) && not (r.dropped t)) + one_if ((m.owed s ∙ λ j. owed_if (g j) (o j) v (ey j)) j && not ((m.dropped s ∙ λ j. (re j || dr j) && not (idle_if (g j) (o j) v)) j))))
          by (Asks g o w d) bv false ev ey =
              (λ j. one_if ((accepted_is s ∙ λ j. g j && ey j) j && ltb (last f.redirect t) (given_from ib t)) + one_if (o j && not (r.dropped t)))
              ∙ sym (λ j. one_if ((o j && v) && not (r.dropped t)) + one_if ((m.owed s ∙ λ j. owed_if (g j) (o j) v (ey j)) j && not (r.dropped (suc t))))
          by (Waits c g o w d q) true b_y ev ey =
              (λ j. one_if ((accepted_is s ∙ λ j. g j && y) j && ltb (last f.redirect t) (given_from ib t)) + one_if (o j && not (r.dropped t)))
              ∙ (turned (not (r.dropped t)) ∙ sym (λ j. one_if ((o j && ev j) && not (r.dropped t)) + one_if ((m.owed s ∙ λ j. owed_if (g j) (o j) (ev j) y) j && not (r.dropped (suc t)))))
          by (Waits c g o w d q) false b_y ev ey =
              (λ j. one_if ((accepted_is s ∙ λ j. g j && y) j && ltb (last f.redirect t) (given_from ib t)) + one_if (o j && not (r.dropped t)))
              ∙ (waits (r.dropped t) ∙ sym (λ j. one_if ((o j && ev j) && not (r.dropped t)) + one_if ((m.owed s ∙ λ j. owed_if (g j) (o j) (ev j) y) j && not ((m.dropped s ∙ λ j. (re j || r.dropped t) && not (idle_if (g j) (o j) (ev j))) j))))

      -- after a redirect's cycle nothing is owed that will be kept
      none_kept : f.redirect t ≡ true → (r.owed (suc t) && not (r.dropped (suc t))) ≡ false
      none_kept re = by (is_idle t) refl
        where
          and_false : (b : Bool) → (b && false) ≡ false
          and_false true = refl
          and_false false = refl

          by : (c : Bool) → is_idle t ≡ c → (r.owed (suc t) && not (r.dropped (suc t))) ≡ false
          by true ce = ap (λ b. b && not (r.dropped (suc t))) (m.owed s ∙ not_owed (r.given t) (r.owed t) v y (apart t i.phase) ce)
          by false ce = (λ j. r.owed (suc t) && not ((m.dropped s ∙ λ j. (re j || r.dropped t) && not (ce j)) j)) ∙ and_false (r.owed (suc t))

      counts_next : accepted_since ib (last f.redirect (suc t)) (suc t) ≡ count_since f.take (last f.redirect (suc t)) (suc t) + (length (r.queue (suc t)) + one_if (r.owed (suc t) && not (r.dropped (suc t))))
      unfolding last
      counts_next = by (f.redirect t) refl
        where
          by : (rd : Bool) → f.redirect t ≡ rd → accepted_since ib (cond (f.redirect t) t (last f.redirect t)) (suc t) ≡ count_since f.take (cond (f.redirect t) t (last f.redirect t)) (suc t) + (length (r.queue (suc t)) + one_if (r.owed (suc t) && not (r.dropped (suc t))))
          by true re =
              let qe : r.queue (suc t) ≡ [] = m.queue s ∙ λ j. cond (re j) [] (cond (kept depth f guess ib r t) (put_last depth (left depth f guess ib r t) (came depth f guess ib r t)) (left depth f guess ib r t)) in
              (λ j. accepted_since ib (cond (re j) t (last f.redirect t)) (suc t)) ∙ (none_accepted ib t (suc t) (omega arith)
              ∙ sym ((λ j. count_since f.take (cond (re j) t (last f.redirect t)) (suc t) + (length (qe j) + one_if (none_kept re j))) ∙ λ j. none_counted f.take t (suc t) (omega arith) j + (length {A = Item} [] + one_if false)))
          by false re =
              let qe : r.queue (suc t) ≡ cond (kept depth f guess ib r t) (put_last depth (left depth f guess ib r t) (came depth f guess ib r t)) (left depth f guess ib r t) =
              m.queue s ∙ λ j. cond (re j) [] (cond (kept depth f guess ib r t) (put_last depth (left depth f guess ib r t) (came depth f guess ib r t)) (left depth f guess ib r t)) in
              let le : length (r.queue (suc t)) + one_if (f.take t) ≡ length (r.queue t) + one_if (kept depth f guess ib r t) =
              (λ j. length (qe j) + one_if (f.take t)) ∙ length_after depth (f.take t) (kept depth f guess ib r t) (f.valid t) (f.pc t) (f.word t) (f.error t) (r.queue t) (came depth f guess ib r t) (m.offers s) a.takes (λ e. (wanted e).1) in
              let ae = accepted_more ib (last f.redirect t) t in
              let before : last f.redirect t ≤ s = last_le f.redirect s in
              let te = counted_more f.take (last f.redirect t) t (omega arith) in
              let be = bits re in
              let ce = i.counts in
              let total : accepted_since ib (last f.redirect t) (suc t) ≡ count_since f.take (last f.redirect t) (suc t) + (length (r.queue (suc t)) + one_if (r.owed (suc t) && not (r.dropped (suc t)))) = omega arith in
              (λ j. accepted_since ib (cond (re j) t (last f.redirect t)) (suc t)) ∙ (total ∙ λ j. count_since f.take (cond (sym re j) t (last f.redirect t)) (suc t) + (length (r.queue (suc t)) + one_if (r.owed (suc t) && not (r.dropped (suc t)))))

      pub next : Inv (suc t)
      next = record {
        phase = phase_next;
        full = λ l. full_next;
        drops = λ e. drops_next;
        wants = wants_next;
        leads = leads_next;
        true_items = true_next;
        fences = fences_next;
        whole = whole_next;
        whole_address = λ e. whole_address_next;
        room = room_next;
        counts = counts_next;
      }

    -- the invariant holds as each cycle after cycle 0 begins, for what was assumed of the cycles before it
    pub inv : (s : ℕ) → ((j : ℕ) → j < s → FetchAssumed f ib mem predicts predict j) → Inv (suc s)
    inv zero h = first
    inv (suc s) h = next s (inv s (λ j l. h j (omega arith))) (h s (omega arith))
