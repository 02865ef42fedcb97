-- The places are a queue: the held ones come first.
use Rattle.std.proofs.Common.{◌≡◌, ℕ, zero, suc, ◌+◌, ◌-◌, ◌<◌, ◌≤◌, Bool, true, false, cond, not, eqb, ltb, List, [], ◌∷◌, ◌++◌, length, ◌&&◌, ◌||◌, refl, sym, ap, ◌∙◌, arith}
use Rattle.std.proofs.lemmas.Bool.{ltb-true, lt-ltb}
use Rattle.std.proofs.lemmas.Bool.Decides.{nat_tests}
use Rattle.core_ports.specs.Trace.{Bus}
use Rattle.plug_law.specs.Fetch.{FetchSignals}
use Rattle.plug_fetch.proofs.Queue.{Item, Registers, rest_of, put_last, came, Offers, IsQueue}
use Rattle.plug_fetch.proofs.Queue as chain
use Rattle.plug_fetch.proofs.Turns.{kept, moved, fills, held_after, Places, item_at, items, listed, now_at, IsPlaces}
use Rattle.plug_fetch.proofs.Truths.{ltb_no, ltb_off, eqb_refl}

-- the items of k places from place i on
cells : (ℕ → Item) → (k i : ℕ) → List Item
cells x zero i = []
cells x (suc k) i = x i ∷ cells x k (suc i)

length_cells : (x : ℕ → Item) (k i : ℕ) → length (cells x k i) ≡ k
unfolding cells
length_cells x zero i = refl
length_cells x (suc k) i = let e = length_cells x k (suc i) in omega arith

-- where k of n places are held
items_are : (v : ℕ → Bool) (x : ℕ → Item) (n k i : ℕ) → k ≤ n → ((j : ℕ) → j < n → v (i + j) ≡ ltb j k) → items v x n i ≡ cells x k i
unfolding items cells
items_are v x zero zero i l h = refl
items_are v x zero (suc k) i l h = absurd (omega arith)
items_are v x (suc n) zero i l h = λ j. cond ((ap v here ∙ (h 0 (omega arith) ∙ none)) j) (x i ∷ items v x n (suc i)) []
  where
    here : i ≡ i + 0
    here = omega arith

    none : ltb 0 0 ≡ false
    none = refl
items_are v x (suc n) (suc k) i l h =
    (λ j. cond ((ap v here ∙ (h 0 (omega arith) ∙ lt-ltb 0 (suc k) (omega arith))) j) (x i ∷ items v x n (suc i)) [])
    ∙ ap (λ q. x i ∷ q) (items_are v x n k (suc i) (omega arith) (λ j lt. ap v (there j) ∙ (h (suc j) (omega arith) ∙ less j)))
  where
    here : i ≡ i + 0
    here = omega arith

    there : (j : ℕ) → suc i + j ≡ i + suc j
    there j = omega arith

    less : (j : ℕ) → ltb (suc j) (suc k) ≡ ltb j k
    less j = grind (arith, nat_tests)

cells_same : (x y : ℕ → Item) (k i : ℕ) → ((j : ℕ) → j < k → x (i + j) ≡ y (i + j)) → cells x k i ≡ cells y k i
unfolding cells
cells_same x y zero i h = refl
cells_same x y (suc k) i h = λ j. (sym (ap x here) ∙ (h 0 (omega arith) ∙ ap y here)) j ∷ cells_same x y k (suc i) (λ j lt. ap x (there j) ∙ (h (suc j) (omega arith) ∙ sym (ap y (there j)))) j
  where
    here : i + 0 ≡ i
    here = omega arith

    there : (j : ℕ) → suc i + j ≡ i + suc j
    there j = omega arith

cells_last : (x : ℕ → Item) (k i : ℕ) → cells x (suc k) i ≡ (cells x k i ++ x (i + k) ∷ [])
unfolding cells
cells_last x zero i = λ j. x (here j) ∷ []
  where
    here : i ≡ i + 0
    here = omega arith
cells_last x (suc k) i = ap (λ q. x i ∷ q) (cells_last x k (suc i) ∙ λ j. cells x k (suc i) ++ x (there j) ∷ [])
  where
    there : suc i + k ≡ i + suc k
    there = omega arith

cells_moved : (x : ℕ → Item) (k i : ℕ) → cells x k (suc i) ≡ cells (λ j. x (suc j)) k i
unfolding cells
cells_moved x zero i = refl
cells_moved x (suc k) i = ap (λ q. x (suc i) ∷ q) (cells_moved x k (suc i))

left_taken : (x : ℕ → Item) (k : ℕ) → rest_of (cells x k 0) ≡ cells (λ i. x (suc i)) (k - 1) 0
unfolding cells
left_taken x zero = refl
left_taken x (suc k) = cells_moved x k 0 ∙ ap (λ n. cells (λ i. x (suc i)) n 0) one_less
  where
    one_less : k ≡ suc k - 1
    one_less = omega arith

-- ---- tests of numbers
first_edge : (l : ℕ) → (not (ltb 0 l) && true) ≡ eqb 0 l
first_edge l = grind (arith, nat_tests)

edge : (i l : ℕ) → (not (ltb (suc i) l) && ltb i l) ≡ eqb (suc i) l
edge i l = by (ltb i l) refl
  where
    by : (c : Bool) → ltb i l ≡ c → (not (ltb (suc i) l) && c) ≡ eqb (suc i) l
    by true e = by_next (ltb (suc i) l) refl
      where
        by_next : (b : Bool) → ltb (suc i) l ≡ b → (not b && true) ≡ eqb (suc i) l
        by_next true g = grind (arith, nat_tests)
        by_next false g = grind (arith, nat_tests)
    by false e = by_next (ltb (suc i) l) refl
      where
        by_next : (b : Bool) → ltb (suc i) l ≡ b → (not b && false) ≡ eqb (suc i) l
        by_next true g = grind (arith, nat_tests)
        by_next false g = grind (arith, nat_tests)

one_more : (i l : ℕ) → (ltb i l || eqb i l) ≡ ltb i (suc l)
one_more i l = by (ltb i l) refl
  where
    by : (c : Bool) → ltb i l ≡ c → (c || eqb i l) ≡ ltb i (suc l)
    by true e = grind (arith, nat_tests)
    by false e = grind (arith, nat_tests)

none_below : (i : ℕ) → ltb i 0 ≡ false
none_below i = grind (arith, nat_tests)

-- the same item, chosen field by field or whole
item_put : (b c : Bool) (came next own : Item) → ◌≡◌ {A = Item} (record { pc = cond b came.pc (cond c next.pc own.pc); word = cond b came.word (cond c next.word own.word); error = cond b came.error (cond c next.error own.error) }) (cond b came (cond c next own))
item_put true c came next own = refl
item_put false true came next own = refl
item_put false false came next own = refl

-- ---- one cycle, with k held places as it begins
module _ (depth : ℕ) (f : FetchSignals) (guess : ℕ → ℕ) (ib : Bus) (q : Places) (t k : ℕ) (most : k ≤ depth) (holds : (i : ℕ) → i < depth → q.held i t ≡ ltb i k) where
  -- after a take
  abbrev left_of : Bool → ℕ
  left_of true = k - 1
  left_of false = k

  abbrev after : ℕ
  after = left_of (f.take t)

  after_most : (tk : Bool) → left_of tk ≤ depth
  after_most true = omega arith
  after_most false = most

  moved_is : (i : ℕ) → i < depth → moved depth (now_at f guess ib q t) i ≡ ltb i after
  moved_is i l = by (f.take t)
    where
      by : (tk : Bool) → cond tk (ltb (suc i) depth && q.held (suc i) t) (q.held i t) ≡ ltb i (left_of tk)
      by true = by_last (ltb (suc i) depth) refl
        where
          by_last : (c : Bool) → ltb (suc i) depth ≡ c → (c && q.held (suc i) t) ≡ ltb i (k - 1)
          by_last true e = holds (suc i) (ltb-true _ _ e) ∙ grind (arith, nat_tests)
          by_last false e = sym (ltb_off i (k - 1) (let g : depth ≤ suc i = ltb_no (suc i) depth e in omega arith))
      by false = holds i l

  fills_is : (i : ℕ) → i < depth → fills depth (now_at f guess ib q t) i ≡ (kept (now_at f guess ib q t) && eqb i after)
  fills_is zero l = ap (λ b. kept (now_at f guess ib q t) && b) (ap (λ b. not b && true) (moved_is 0 l) ∙ first_edge after)
  fills_is (suc i) l = ap (λ b. kept (now_at f guess ib q t) && b) ((λ j. not (moved_is (suc i) l j) && moved_is i (omega arith) j) ∙ edge i after)

  -- how many are held then
  abbrev count_of : (rd kp : Bool) → ℕ
  count_of rd kp = cond rd 0 (cond kp (cond (ltb after depth) (suc after) after) after)

  count_most : (rd kp : Bool) → count_of rd kp ≤ depth
  count_most true kp = omega arith
  count_most false true = by (ltb after depth) refl
    where
      by : (c : Bool) → ltb after depth ≡ c → cond c (suc after) after ≤ depth
      by true e = ltb-true _ _ e
      by false e = after_most (f.take t)
  count_most false false = after_most (f.take t)

  held_is : (i : ℕ) → i < depth → held_after depth (now_at f guess ib q t) i ≡ ltb i (count_of (f.redirect t) (kept (now_at f guess ib q t)))
  held_is i l = (λ j. not (f.redirect t) && (moved_is i l j || fills_is i l j)) ∙ by (f.redirect t) (kept (now_at f guess ib q t))
    where
      by : (rd kp : Bool) → (not rd && (ltb i after || (kp && eqb i after))) ≡ ltb i (count_of rd kp)
      by true kp = sym (none_below i)
      by false true = one_more i after ∙ by_room (ltb after depth) refl
        where
          by_room : (c : Bool) → ltb after depth ≡ c → ltb i (suc after) ≡ ltb i (cond c (suc after) after)
          by_room true e = refl
          by_room false e = let g : depth ≤ after = ltb_no after depth e in lt-ltb i (suc after) (omega arith) ∙ sym (lt-ltb i after (omega arith))
      by false false = or_false (ltb i after)
        where
          or_false : (b : Bool) → (b || false) ≡ b
          or_false true = refl
          or_false false = refl

  abbrev x : ℕ → Item
  x = item_at q t

  -- the contents after a take
  abbrev shifted : Bool → ℕ → Item
  shifted tk i = cond tk (x (suc i)) (x i)

  left_is : (tk : Bool) → cond tk (rest_of (cells x k 0)) (cells x k 0) ≡ cells (shifted tk) (left_of tk) 0
  left_is true = left_taken x k
  left_is false = cells_same x (shifted false) k 0 (λ j l. refl)

  abbrev new : Item
  new = record { pc = q.address t; word = ib.rsp_data t; error = eqb (ib.rsp_error t) 1 }

  module _ (x' : ℕ → Item) (puts : (i : ℕ) → i < depth → x' i ≡ cond (fills depth (now_at f guess ib q t) i) new (cond (f.take t && ltb (suc i) depth) (x (suc i)) (x i))) where
    -- the places before the first empty one
    old_is : (i : ℕ) → i < after → x' i ≡ shifted (f.take t) i
    old_is i l = puts i below ∙ ((λ j. cond (unfilled j) new (cond (f.take t && ltb (suc i) depth) (x (suc i)) (x i))) ∙ by (f.take t) l)
      where
        below : i < depth
        below = let g = after_most (f.take t) in omega arith

        and_false : (b : Bool) → (b && false) ≡ false
        and_false true = refl
        and_false false = refl

        other : eqb i after ≡ false
        other = grind (arith, nat_tests, l)

        unfilled : fills depth (now_at f guess ib q t) i ≡ false
        unfilled = fills_is i below ∙ (ap (λ b. kept (now_at f guess ib q t) && b) other ∙ and_false (kept (now_at f guess ib q t)))

        by : (tk : Bool) → i < left_of tk → cond (tk && ltb (suc i) depth) (x (suc i)) (x i) ≡ shifted tk i
        by true g = λ j. cond (lt-ltb (suc i) depth (omega arith) j) (x (suc i)) (x i)
        by false g = refl

    abbrev taken : List Item
    taken = cond (f.take t) (rest_of (cells x k 0)) (cells x k 0)

    taken_is : cells x' after 0 ≡ taken
    taken_is = cells_same x' (shifted (f.take t)) after 0 (λ j l. ap x' (here j) ∙ (old_is j l ∙ ap (shifted (f.take t)) (sym (here j)))) ∙ sym (left_is (f.take t))
      where
        here : (j : ℕ) → 0 + j ≡ j
        here j = omega arith

    length_taken : length taken ≡ after
    length_taken = ap length (sym taken_is) ∙ length_cells x' after 0

    queue_is : cells x' (count_of (f.redirect t) (kept (now_at f guess ib q t))) 0 ≡ cond (f.redirect t) [] (cond (kept (now_at f guess ib q t)) (put_last depth taken new) taken)
    unfolding cells
    queue_is = by (f.redirect t) (kept (now_at f guess ib q t)) refl
      where
        by : (rd kp : Bool) → kept (now_at f guess ib q t) ≡ kp → cells x' (count_of rd kp) 0 ≡ cond rd [] (cond kp (put_last depth taken new) taken)
        by true kp ke = refl
        by false false ke = taken_is
        by false true ke = by_room (ltb after depth) refl ∙ λ j. cond (ltb (sym length_taken j) depth) (taken ++ new ∷ []) taken
          where
            by_room : (c : Bool) → ltb after depth ≡ c → cells x' (cond c (suc after) after) 0 ≡ cond c (taken ++ new ∷ []) taken
            by_room false e = taken_is
            by_room true e = cells_last x' after 0 ∙ λ j. taken_is j ++ last_is j ∷ []
              where
                there : 0 + after ≡ after
                there = omega arith

                filled : fills depth (now_at f guess ib q t) after ≡ true
                filled = fills_is after (ltb-true after depth e) ∙ ((λ j. ke j && eqb after after) ∙ eqb_refl after)

                last_is : x' (0 + after) ≡ new
                last_is = ap x' there ∙ (puts after (ltb-true after depth e) ∙ λ j. cond (filled j) new (cond (f.take t && ltb (suc after) depth) (x (suc after)) (x after)))

-- ---- all cycles
module _ (depth reset_pc : ℕ) (f : FetchSignals) (guess : ℕ → ℕ) (ib : Bus) (q : Places) (m : IsPlaces depth reset_pc f guess ib q) where
  -- the held places come first
  pub record Count (t : ℕ) : Type 0 where
    pub count : ℕ
    pub most : count ≤ depth
    pub holds : (i : ℕ) → i < depth → q.held i t ≡ ltb i count

  counted : (s : ℕ) → Count (suc s)
  counted zero = record { count = 0; most = omega arith; holds = λ i l. m.held_reset i l ∙ sym (none_below i) }
  counted (suc s) =
      let c = counted s in
      record {
        count = count_of depth f guess ib q (suc s) c.count c.most c.holds (f.redirect (suc s)) (kept (now_at f guess ib q (suc s)));
        most = count_most depth f guess ib q (suc s) c.count c.most c.holds (f.redirect (suc s)) (kept (now_at f guess ib q (suc s)));
        holds = λ i l. m.held s i l ∙ held_is depth f guess ib q (suc s) c.count c.most c.holds i l;
      }

  abbrev r : Registers
  r = listed depth q

  -- the queue is made of the held places
  queue_cells : (s : ℕ) → r.queue (suc s) ≡ cells (item_at q (suc s)) (counted s).count 0
  queue_cells s = items_are (λ i. q.held i (suc s)) (item_at q (suc s)) depth c.count 0 c.most (λ j l. ap (λ k. q.held k (suc s)) (here j) ∙ c.holds j l)
    where
      c : Count (suc s)
      c = counted s

      here : (j : ℕ) → 0 + j ≡ j
      here j = omega arith

  puts : (s i : ℕ) → i < depth → item_at q (suc (suc s)) i ≡ cond (fills depth (now_at f guess ib q (suc s)) i) (came depth f guess ib r (suc s)) (cond (f.take (suc s) && ltb (suc i) depth) (item_at q (suc s) (suc i)) (item_at q (suc s) i))
  puts s i l = (λ j. record { pc = m.pc s i l j; word = m.word s i l j; error = m.error s i l j }) ∙ item_put (fills depth (now_at f guess ib q (suc s)) i) (f.take (suc s) && ltb (suc i) depth) (came depth f guess ib r (suc s)) (item_at q (suc s) (suc i)) (item_at q (suc s) i)

  queue_next : (s : ℕ) → r.queue (suc (suc s)) ≡ chain.queue_after depth f guess ib r (suc s)
  unfolding counted
  queue_next s =
      let c = counted s in
      queue_cells (suc s) ∙ (queue_is depth f guess ib q (suc s) c.count c.most c.holds (item_at q (suc (suc s))) (puts s)
      ∙ λ j. cond (f.redirect (suc s)) [] (cond (kept (now_at f guess ib q (suc s))) (put_last depth (cond (f.take (suc s)) (rest_of (sym (queue_cells s) j)) (sym (queue_cells s) j)) (came depth f guess ib r (suc s))) (cond (f.take (suc s)) (rest_of (sym (queue_cells s) j)) (sym (queue_cells s) j))))

  -- there is room exactly where the last place will be empty
  room_is : 1 ≤ depth → (s : ℕ) → not (held_after depth (now_at f guess ib q (suc s)) (depth - 1)) ≡ ltb (length (chain.queue_after depth f guess ib r (suc s))) depth
  room_is least s =
      ap not (sym (m.held s (depth - 1) (omega arith)) ∙ c.holds (depth - 1) (omega arith))
      ∙ (by ∙ ap (λ n. ltb n depth) (sym (length_cells (item_at q (suc (suc s))) c.count 0) ∙ ap length (sym (queue_cells (suc s)) ∙ queue_next s)))
    where
      c : Count (suc (suc s))
      c = counted (suc s)

      most : c.count ≤ depth
      most = c.most

      by : not (ltb (depth - 1) c.count) ≡ ltb c.count depth
      by = cases (ltb c.count depth) refl
        where
          cases : (b : Bool) → ltb c.count depth ≡ b → not (ltb (depth - 1) c.count) ≡ b
          cases true e = let g = ltb-true c.count depth e in ap not (ltb_off (depth - 1) c.count (omega arith))
          cases false e = let g : depth ≤ c.count = ltb_no c.count depth e in ap not (lt-ltb (depth - 1) c.count (omega arith))

  offers_of : (n t : ℕ) → 1 ≤ n → f.valid t ≡ q.held 0 t → f.pc t ≡ q.pc 0 t → f.word t ≡ q.word 0 t → f.error t ≡ q.error 0 t → Offers (items (λ i. q.held i t) (item_at q t) n 0) (f.valid t) (f.pc t) (f.word t) (f.error t)
  unfolding items
  offers_of zero t l ve pe we ee = absurd (omega arith)
  offers_of (suc n) t l ve pe we ee = by (q.held 0 t) ve
    where
      by : (h : Bool) → f.valid t ≡ h → Offers (cond h (item_at q t 0 ∷ items (λ i. q.held i t) (item_at q t) n 1) []) (f.valid t) (f.pc t) (f.word t) (f.error t)
      by true e = (e, pe, we, ee)
      by false e = e

  first_queue : r.queue 1 ≡ []
  unfolding counted cells
  first_queue = queue_cells 0

  pub is_queue : 1 ≤ depth → IsQueue depth reset_pc f guess ib r
  is_queue least = record {
    queue_reset = first_queue;
    given_reset = m.given_reset;
    owed_reset = m.owed_reset;
    dropped_reset = m.dropped_reset;
    next_pc_reset = m.next_pc_reset;
    queue = queue_next;
    given = λ s. m.given s ∙ ap (λ b. (chain.idle depth f guess ib r (suc s) && b) || (q.given (suc s) && not (eqb (ib.cmd_ready (suc s)) 1))) (room_is least s);
    owed = m.owed;
    dropped = m.dropped;
    address = m.address;
    next_pc = m.next_pc;
    offers = λ s. offers_of depth (suc s) least (m.valid s) (m.offers_pc s) (m.offers_word s) (m.offers_error s);
    cmd_valid = m.cmd_valid;
    cmd_addr = m.cmd_addr;
    cmd_write = m.cmd_write;
    cmd_data = m.cmd_data;
    cmd_mask = m.cmd_mask;
  }
