-- The last node of the path goes into the order.
use Rattle.std.proofs.Common.{◌≡◌, ℕ, suc, ◌+◌, ◌-◌, ◌<◌, ◌≤◌, inl, inr, false, ltb, List, [], ◌∷◌, ◌++◌, length, get_or, set, refl, ap, sym, ◌∙◌, subst, arith, length-append, length-set, get_or-set_same, get_or-set_other}
use Rattle.std.proofs.lemmas.List.{get_or_append_left, get_or_push}
use Rattle.std.proofs.lemmas.Bool.Decides.{nat_tests}
use Rattle.topo_sort.specs.Graph.{needs, need, Edge}
use Rattle.topo_sort.specs.Ranks.{count_below}
use Rattle.topo_sort.specs.Search.{Inv}
use Rattle.topo_sort.proofs.Counts.{count_less}
use Rattle.topo_sort.proofs.Same.{same, at_end, keeps}

two_more : (n : ℕ) → ltb (n + 2) 2 ≡ false
two_more n = grind (arith, nat_tests)

module _ (edges : List (List ℕ)) (ranks done path order : List ℕ) (x : ℕ) (i : Inv edges ranks done (path ++ (x ∷ [])) order)
    (all : length (needs edges x) ≤ get_or done x 0) where
  longer : length (path ++ (x ∷ [])) ≡ length path + 1
  longer = length-append path (x ∷ [])

  more : length (order ++ (x ∷ [])) ≡ length order + 1
  more = length-append order (x ∷ [])

  first : (k : ℕ) → k < length path → get_or (path ++ (x ∷ [])) k 0 ≡ get_or path k 0
  first k l = get_or_append_left path (x ∷ []) 0 k l

  last : get_or (path ++ (x ∷ [])) (length path) 0 ≡ x
  last = get_or_push path x 0 (length path) refl

  g : get_or ranks x 0 ≡ 1
  g = ap (λ n. get_or ranks n 0) (sym last) ∙ i.path_open (length path) (omega (arith, longer))

  gl : get_or ranks x 0 < 2
  gl = omega (arith, g)

  xl : x < length ranks
  xl = let h = i.path_in (length path) (omega (arith, longer)) in let q = last in let r = i.ranks_len in omega (arith, h, q, r)

  new : get_or (set ranks x (length order + 2)) x 0 ≡ length order + 2
  new = get_or-set_same ranks x (length order + 2) 0 xl

  now : (y : ℕ) → y ≡ x → get_or (set ranks x (length order + 2)) y 0 ≡ length order + 2
  now y s = ap (λ n. get_or (set ranks x (length order + 2)) n 0) s ∙ new

  before : (y : ℕ) → (y ≡ x → ⊥) → get_or (set ranks x (length order + 2)) y 0 ≡ get_or ranks y 0
  before y n = get_or-set_other ranks x y (length order + 2) 0 n

  stays : (y : ℕ) → 2 ≤ get_or ranks y 0 → get_or (set ranks x (length order + 2)) y 0 ≡ get_or ranks y 0
  stays y h = keeps ranks x (length order + 2) y gl h

  -- x stands on the path at its end alone
  other : (k : ℕ) → k < length path → get_or path k 0 ≡ x → ⊥
  other k l s = let q = i.path_once k (length path) (omega (arith, longer, l)) (omega (arith, longer)) (first k l ∙ s ∙ sym last) in omega (arith, q, l)

  lower : (y j : ℕ) → 2 ≤ get_or (set ranks x (length order + 2)) y 0 → j < length (needs edges y)
      → (2 ≤ get_or (set ranks x (length order + 2)) (need edges y j) 0) × (get_or (set ranks x (length order + 2)) (need edges y j) 0 < get_or (set ranks x (length order + 2)) y 0)
  lower y j h l = elim (same y x) [
    | inl s ↦
        let l' : j < length (needs edges x) = subst (λ n. j < length (needs edges n)) s l in
        let d : 2 ≤ get_or ranks (need edges x j) 0 = i.passed x j (omega (arith, all, l')) in
        let q = stays (need edges x j) d in
        let b : get_or ranks (need edges x j) 0 < length order + 2 = i.below (need edges x j) in
        subst (λ n. (2 ≤ get_or (set ranks x (length order + 2)) (need edges n j) 0) × (get_or (set ranks x (length order + 2)) (need edges n j) 0 < get_or (set ranks x (length order + 2)) n 0)) (sym s)
        (omega (arith, d, q), omega (arith, b, q, new))
    | inr n ↦
        let q = before y n in
        let c = i.lower y j (omega (arith, h, q)) l in
        let r = stays (need edges y j) c.0 in
        let c0 = c.0 in let c1 = c.1 in
        (omega (arith, c0, r), omega (arith, c1, r, q))
  ]

  on_path : (y : ℕ) → get_or (set ranks x (length order + 2)) y 0 ≡ 1 → (k : ℕ) × ((k < length path) × (get_or path k 0 ≡ y))
  on_path y h = elim (same y x) [
    | inl s ↦ absurd (let q = now y s in omega (arith, q, h))
    | inr n ↦
        let f = i.on_path y (sym (before y n) ∙ h) in
        let m : f.0 < suc (length path) = (let l = f.1.0 in omega (arith, l, longer)) in
        elim (at_end f.0 (length path) m) [
          | inl l ↦ (f.0, (l, sym (first f.0 l) ∙ f.1.1))
          | inr e ↦ absurd (n (sym f.1.1 ∙ get_or_push path x 0 f.0 (sym e)))
        ]
  ]

  placed : (y : ℕ) → 2 ≤ get_or (set ranks x (length order + 2)) y 0 → get_or (order ++ (x ∷ [])) (get_or (set ranks x (length order + 2)) y 0 - 2) 0 ≡ y
  placed y h = elim (same y x) [
    | inl s ↦ let q = now y s in get_or_push order x 0 (get_or (set ranks x (length order + 2)) y 0 - 2) (omega (arith, q)) ∙ sym s
    | inr n ↦
        let q = before y n in
        let o : 2 ≤ get_or ranks y 0 = omega (arith, h, q) in
        let b = i.below y in
        ap (λ m. get_or (order ++ (x ∷ [])) (m - 2) 0) q ∙ get_or_append_left order (x ∷ []) 0 (get_or ranks y 0 - 2) (omega (arith, b, o)) ∙ i.placed y o
  ]

  listed : (k : ℕ) → k < length (order ++ (x ∷ [])) → get_or (set ranks x (length order + 2)) (get_or (order ++ (x ∷ [])) k 0) 0 ≡ k + 2
  listed k h = elim (at_end k (length order) (omega (arith, h, more))) [
    | inl l ↦
        let q = i.listed k l in
        ap (λ n. get_or (set ranks x (length order + 2)) n 0) (get_or_append_left order (x ∷ []) 0 k l) ∙ stays (get_or order k 0) (omega (arith, q)) ∙ q
    | inr e ↦ ap (λ n. get_or (set ranks x (length order + 2)) n 0) (get_or_push order x 0 k (sym e)) ∙ new ∙ ap (λ n. n + 2) (sym e)
  ]

  counted : length (order ++ (x ∷ [])) + count_below 2 (set ranks x (length order + 2)) ≡ length edges
  counted =
      let c = count_less 2 ranks x (length order + 2) xl (ap (λ r. ltb r 2) g) (two_more (length order)) in
      let old = i.counted in
      omega (arith, c, old, more)

  pub leave : Inv edges (set ranks x (length order + 2)) done path (order ++ (x ∷ []))
  leave = record {
    ranks_len = length-set ranks x (length order + 2) ∙ i.ranks_len;
    done_len = i.done_len;
    path_in = λ k h. subst (λ n. n < length edges) (first k h) (i.path_in k (omega (arith, longer, h)));
    path_open = λ k h. before (get_or path k 0) (other k h) ∙ ap (λ n. get_or ranks n 0) (sym (first k h)) ∙ i.path_open k (omega (arith, longer, h));
    path_once = λ j k hj hk s. i.path_once j k (omega (arith, longer, hj)) (omega (arith, longer, hk)) (first j hj ∙ s ∙ sym (first k hk));
    linked = λ k h.
        subst (λ n. Edge edges n (get_or path (suc k) 0)) (first k (omega (arith, h)))
        (subst (λ n. Edge edges (get_or (path ++ (x ∷ [])) k 0) n) (first (suc k) h) (i.linked k (omega (arith, longer, h))));
    on_path = on_path;
    below = λ y. elim (same y x) [
      | inl s ↦ let q = now y s in omega (arith, q, more)
      | inr n ↦ let q = before y n in let b = i.below y in omega (arith, q, b, more)
    ];
    placed = placed;
    listed = listed;
    lower = lower;
    counted = counted;
    passed = λ y j h. let c = i.passed y j h in let r = stays (need edges y j) c in omega (arith, c, r);
  }
