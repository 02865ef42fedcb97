-- Each step keeps what the search knows, and leaves less work.
use Rattle.std.proofs.Common.{◌≡◌, ℕ, suc, ◌+◌, ◌-◌, ◌<◌, ◌≤◌, inl, inr, false, ltb, List, [], ◌∷◌, ◌++◌, length, get_or, set, refl, ap, sym, ◌∙◌, subst, arith, length-append, get_or-set_same, get_or-set_other}
use Rattle.std.proofs.lemmas.List.{get_or_push}
use Rattle.std.proofs.lemmas.Bool.Decides.{nat_tests}
use Rattle.topo_sort.specs.Graph.{needs, Edge, Leads, AreWithin}
use Rattle.topo_sort.specs.Ranks.{ranks}
use Rattle.topo_sort.specs.Search.{Inv, IsSearch, left, work, work_left}
use Rattle.topo_sort.specs.Moves.{IsTop, IsNext, IsStep, Enters, Leaves, Passes, Moved}
use Rattle.topo_sort.specs.declared.search.Search.{Search}
use Rattle.topo_sort.specs.declared.step.Step.TheVariants.{Enter, Close, Pass}
use Rattle.topo_sort.proofs.Same.{same}
use Rattle.topo_sort.proofs.Counts.{count_less, count_same, left_less}
use Rattle.topo_sort.proofs.Enters.{enter}
use Rattle.topo_sort.proofs.Leaves.{leave}
use Rattle.topo_sort.proofs.Passes.{pass}
use Rattle.topo_sort.proofs.Loops.{closes}

not_below : (n : ℕ) → ltb (n + 2) 1 ≡ false
not_below n = grind (arith, nat_tests)

-- a rank that rises leaves each node seen that was
rises : (rs new : List ℕ) (d v : ℕ) → new ≡ set rs d v → d < length rs → 0 < v → (x : ℕ) → 0 < get_or rs x 0 → 0 < get_or new x 0
rises rs new d v e l h x k = elim (same x d) [
  | inl s ↦ let q : get_or new x 0 ≡ v = ap (λ ns. get_or ns x 0) e ∙ ap (λ n. get_or (set rs d v) n 0) s ∙ get_or-set_same rs d v 0 l in omega (arith, q, h)
  | inr n ↦ let q : get_or new x 0 ≡ get_or rs x 0 = ap (λ ns. get_or ns x 0) e ∙ get_or-set_other rs d x v 0 n in omega (arith, q, k)
]

same_inv : (edges : List (List ℕ)) (r d p o r' d' p' o' : List ℕ) → r' ≡ r → d' ≡ d → p' ≡ p → o' ≡ o → Inv edges r d p o → Inv edges r' d' p' o'
same_inv edges r d p o r' d' p' o' a b c e i =
    subst (λ x. Inv edges x d' p' o') (sym a) (subst (λ x. Inv edges r x p' o') (sym b) (subst (λ x. Inv edges r d x o') (sym c) (subst (λ x. Inv edges r d p x) (sym e) i)))

same_work : (edges : List (List ℕ)) (r d p r' d' p' : List ℕ) → r' ≡ r → d' ≡ d → p' ≡ p → work_left edges r' d' p' ≡ work_left edges r d p
same_work edges r d p r' d' p' a b c = λ i. work_left edges (a i) (b i) (c i)

-- ---- a new node goes on the path

enter_less : (edges : List (List ℕ)) (r d p : List ℕ) (x : ℕ) → x < length r → get_or r x 0 ≡ 0 → work_left edges (set r x 1) d (p ++ (x ∷ [])) < work_left edges r d p
enter_less edges r d p x l z =
    let c = count_less 1 r x 1 l (ap (λ n. ltb n 1) z) refl in
    let q = length-append p (x ∷ []) in
    omega (arith, c, q)

pub entered : (edges : List (List ℕ)) (old new : Search) (d : ℕ) → IsSearch edges old → d < length edges → get_or (ranks old) d 0 ≡ 0
    → ((k : ℕ) → suc k ≡ length old.path.items → Edge edges (get_or old.path.items k 0) d) → Enters old new d → Moved edges old new
entered edges old new d i b z e m =
    let l : d < length (ranks old) = (let q = i.ranks_len in omega (arith, q, b)) in
    record {
      search = same_inv edges (set (ranks old) d 1) old.done.items (old.path.items ++ (d ∷ [])) old.order.items (ranks new) new.done.items new.path.items new.order.items
          m.ranks_set m.done_same m.path_more m.order_same
          (enter edges (ranks old) old.done.items old.path.items old.order.items d i b z e);
      seen = rises (ranks old) (ranks new) d 1 m.ranks_set l (omega arith);
      less =
          let q = same_work edges (set (ranks old) d 1) old.done.items (old.path.items ++ (d ∷ [])) (ranks new) new.done.items new.path.items m.ranks_set m.done_same m.path_more in
          let h = enter_less edges (ranks old) old.done.items old.path.items d l z in
          subst (λ n. n < work edges old) (sym q) h;
    }

-- ---- the last node of the path goes into the order

leave_less : (edges : List (List ℕ)) (r d p : List ℕ) (x n : ℕ) → x < length r → get_or r x 0 ≡ 1 → work_left edges (set r x (n + 2)) d p < work_left edges r d (p ++ (x ∷ []))
leave_less edges r d p x n l z =
    let c = count_same 1 r x (n + 2) l (ap (λ n. ltb n 1) z ∙ sym (not_below n)) in
    let q = length-append p (x ∷ []) in
    omega (arith, c, q)

pub left_path : (edges : List (List ℕ)) (old new : Search) (x : ℕ) → IsSearch edges old → length (needs edges x) ≤ get_or old.done.items x 0 → Leaves old new x → Moved edges old new
left_path edges old new x i a m =
    let j : Inv edges (ranks old) old.done.items (new.path.items ++ (x ∷ [])) old.order.items = subst (λ p. Inv edges (ranks old) old.done.items p old.order.items) m.path_less i in
    let q = length-append new.path.items (x ∷ []) in
    let w : get_or (new.path.items ++ (x ∷ [])) (length new.path.items) 0 ≡ x = get_or_push new.path.items x 0 (length new.path.items) refl in
    let l : x < length (ranks old) = (let h = j.path_in (length new.path.items) (omega (arith, q)) in let r = i.ranks_len in omega (arith, h, w, r)) in
    let z : get_or (ranks old) x 0 ≡ 1 = ap (λ n. get_or (ranks old) n 0) (sym w) ∙ j.path_open (length new.path.items) (omega (arith, q)) in
    record {
      search = same_inv edges (set (ranks old) x (length old.order.items + 2)) old.done.items new.path.items (old.order.items ++ (x ∷ [])) (ranks new) new.done.items new.path.items new.order.items
          m.ranks_set m.done_same refl m.order_more
          (leave edges (ranks old) old.done.items new.path.items old.order.items x j a);
      seen = rises (ranks old) (ranks new) x (length old.order.items + 2) m.ranks_set l (omega arith);
      less =
          let s = same_work edges (set (ranks old) x (length old.order.items + 2)) old.done.items new.path.items (ranks new) new.done.items new.path.items m.ranks_set m.done_same refl in
          let t = same_work edges (ranks old) old.done.items (new.path.items ++ (x ∷ [])) (ranks old) old.done.items old.path.items refl refl m.path_less in
          let h = leave_less edges (ranks old) old.done.items new.path.items x (length old.order.items) l z in
          subst (λ n. n < work edges old) (sym s) (subst (λ n. work_left edges (set (ranks old) x (length old.order.items + 2)) old.done.items new.path.items < n) (sym t) h);
    }

-- ---- a need is passed

pass_less : (edges : List (List ℕ)) (r d p : List ℕ) (x n : ℕ) → x < length d → length d ≡ length edges → get_or d x 0 < length (needs edges x) → n ≡ get_or d x 0 + 1
    → work_left edges r (set d x n) p < work_left edges r d p
pass_less edges r d p x n l e h s =
    let q = left_less edges d x l e h in
    let t : left edges (set d x n) ≡ left edges (set d x (get_or d x 0 + 1)) = ap (λ m. left edges (set d x m)) s in
    omega (arith, q, t)

pub passed : (edges : List (List ℕ)) (old new : Search) (x n : ℕ) → IsSearch edges old → x < length edges → IsStep edges (ranks old) old.done.items x (Pass n) → Passes old new x n → Moved edges old new
passed edges old new x n i l h m =
    let dl : x < length old.done.items = (let q = i.done_len in omega (arith, q, l)) in
    record {
      search = same_inv edges (ranks old) (set old.done.items x n) old.path.items old.order.items (ranks new) new.done.items new.path.items new.order.items
          m.ranks_same m.done_set m.path_same m.order_same
          (pass edges (ranks old) old.done.items old.path.items old.order.items x (get_or old.done.items x 0) n i l refl h.2 h.1);
      seen = λ y k. subst (λ rs. 0 < get_or rs y 0) (sym m.ranks_same) k;
      less =
          let s = same_work edges (ranks old) (set old.done.items x n) old.path.items (ranks new) new.done.items new.path.items m.ranks_same m.done_set m.path_same in
          let w = pass_less edges (ranks old) old.done.items old.path.items x n dl i.done_len h.0.more h.2 in
          subst (λ n. n < work edges old) (sym s) w;
    }

-- ---- the next need of the path's last node

pub wanted : (edges : List (List ℕ)) (done path : List ℕ) (top d : ℕ) → IsTop path top → IsNext edges done top d → (k : ℕ) → suc k ≡ length path → Edge edges (get_or path k 0) d
wanted edges done path top d t n k e =
    let h : k ≡ length path - 1 = omega arith in
    let q : get_or path k 0 ≡ top = ap (λ j. get_or path j 0) h ∙ t.last in
    subst (λ x. Edge edges x d) (sym q) (get_or done top 0, (n.more, n.same))

pub next_within : (edges : List (List ℕ)) (done : List ℕ) (top d : ℕ) → AreWithin edges → IsNext edges done top d → d < length edges
next_within edges done top d w n = subst (λ x. x < length edges) n.same (w top (get_or done top 0) n.more)

pub top_within : (edges : List (List ℕ)) (s : Search) (top : ℕ) → IsSearch edges s → IsTop s.path.items top → top < length edges
top_within edges s top i t = subst (λ x. x < length edges) t.last (i.path_in (length s.path.items - 1) (let h = t.some in omega (arith, h)))

pub enter_step : (edges : List (List ℕ)) (old new : Search) (top d : ℕ) → AreWithin edges → IsSearch edges old → IsTop old.path.items top → IsStep edges (ranks old) old.done.items top (Enter d)
    → Enters old new d → Moved edges old new
enter_step edges old new top d w i t h m = entered edges old new d i (next_within edges old.done.items top d w h.0) h.1 (wanted edges old.done.items old.path.items top d t h.0) m

pub pass_step : (edges : List (List ℕ)) (old new : Search) (top n : ℕ) → IsSearch edges old → IsTop old.path.items top → IsStep edges (ranks old) old.done.items top (Pass n)
    → Passes old new top n → Moved edges old new
pass_step edges old new top n i t h m = passed edges old new top n i (top_within edges old top i t) h m

pub close_step : (edges : List (List ℕ)) (old : Search) (top d : ℕ) → IsSearch edges old → IsTop old.path.items top → IsStep edges (ranks old) old.done.items top (Close d) → Leads edges d d
close_step edges old top d i t h = closes edges (ranks old) old.done.items old.path.items old.order.items d i h.1 (wanted edges old.done.items old.path.items top d t h.0)

-- a node goes on the empty path
pub enter_root : (edges : List (List ℕ)) (old new : Search) (d : ℕ) → IsSearch edges old → old.path.items ≡ [] → d < length edges → get_or (ranks old) d 0 ≡ 0 → Enters old new d → Moved edges old new
enter_root edges old new d i p b z m = entered edges old new d i b z (λ k h. absurd (let q : length old.path.items ≡ 0 = ap length p in omega (arith, h, q))) m
