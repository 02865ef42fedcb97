-- A new node goes on the path.
use Rattle.std.proofs.Common.{◌≡◌, ℕ, suc, ◌+◌, ◌-◌, ◌<◌, ◌≤◌, ◌⊎◌, inl, inr, ltb, List, [], ◌∷◌, ◌++◌, length, get_or, set, refl, ap, sym, ◌∙◌, subst, arith, length-append, length-set, get_or-set_same, get_or-set_other}
use Rattle.std.proofs.lemmas.List.{get_or_append_left, get_or_push}
use Rattle.topo_sort.specs.Graph.{need, Edge}
use Rattle.topo_sort.specs.Search.{Inv}
use Rattle.topo_sort.proofs.Counts.{count_same}
use Rattle.topo_sort.proofs.Same.{same, at_end, keeps}

module _ (edges : List (List ℕ)) (ranks done path order : List ℕ) (d : ℕ) (i : Inv edges ranks done path order) (b : d < length edges) (z : get_or ranks d 0 ≡ 0)
    (e : (k : ℕ) → suc k ≡ length path → Edge edges (get_or path k 0) d) where
  zl : get_or ranks d 0 < 2
  zl = omega (arith, z)

  dl : d < length ranks
  dl = let q = i.ranks_len in omega (arith, b, q)

  longer : length (path ++ (d ∷ [])) ≡ length path + 1
  longer = length-append path (d ∷ [])

  first : (k : ℕ) → k < length path → get_or (path ++ (d ∷ [])) k 0 ≡ get_or path k 0
  first k l = get_or_append_left path (d ∷ []) 0 k l

  last : (k : ℕ) → k ≡ length path → get_or (path ++ (d ∷ [])) k 0 ≡ d
  last k s = get_or_push path d 0 k (sym s)

  here : get_or (set ranks d 1) d 0 ≡ 1
  here = get_or-set_same ranks d 1 0 dl

  now : (x : ℕ) → x ≡ d → get_or (set ranks d 1) x 0 ≡ 1
  now x s = ap (λ n. get_or (set ranks d 1) n 0) s ∙ here

  before : (x : ℕ) → (x ≡ d → ⊥) → get_or (set ranks d 1) x 0 ≡ get_or ranks x 0
  before x n = get_or-set_other ranks d x 1 0 n

  stays : (y : ℕ) → 2 ≤ get_or ranks y 0 → get_or (set ranks d 1) y 0 ≡ get_or ranks y 0
  stays y h = keeps ranks d 1 y zl h

  -- the path's nodes are open, and d is not
  fresh : (k : ℕ) → k < length path → get_or path k 0 ≡ d → ⊥
  fresh k l s = let o = i.path_open k l in let q : get_or ranks (get_or path k 0) 0 ≡ get_or ranks d 0 = ap (λ n. get_or ranks n 0) s in omega (arith, o, q, z)

  each : (k : ℕ) → k < length (path ++ (d ∷ [])) → (k < length path) ⊎ (k ≡ length path)
  each k h = at_end k (length path) (omega (arith, h, longer))

  path_in : (k : ℕ) → k < length (path ++ (d ∷ [])) → get_or (path ++ (d ∷ [])) k 0 < length edges
  path_in k h = elim (each k h) [
    | inl l ↦ subst (λ n. n < length edges) (sym (first k l)) (i.path_in k l)
    | inr s ↦ subst (λ n. n < length edges) (sym (last k s)) b
  ]

  path_open : (k : ℕ) → k < length (path ++ (d ∷ [])) → get_or (set ranks d 1) (get_or (path ++ (d ∷ [])) k 0) 0 ≡ 1
  path_open k h = elim (each k h) [
    | inl l ↦ ap (λ n. get_or (set ranks d 1) n 0) (first k l) ∙ before (get_or path k 0) (fresh k l) ∙ i.path_open k l
    | inr s ↦ ap (λ n. get_or (set ranks d 1) n 0) (last k s) ∙ here
  ]

  path_once : (j k : ℕ) → j < length (path ++ (d ∷ [])) → k < length (path ++ (d ∷ [])) → get_or (path ++ (d ∷ [])) j 0 ≡ get_or (path ++ (d ∷ [])) k 0 → j ≡ k
  path_once j k hj hk s = elim (each j hj) [
    | inl lj ↦ elim (each k hk) [
      | inl lk ↦ i.path_once j k lj lk (sym (first j lj) ∙ s ∙ first k lk)
      | inr sk ↦ absurd (fresh j lj (sym (first j lj) ∙ s ∙ last k sk))
    ]
    | inr sj ↦ elim (each k hk) [
      | inl lk ↦ absurd (fresh k lk (sym (first k lk) ∙ sym s ∙ last j sj))
      | inr sk ↦ sj ∙ sym sk
    ]
  ]

  linked : (k : ℕ) → suc k < length (path ++ (d ∷ [])) → Edge edges (get_or (path ++ (d ∷ [])) k 0) (get_or (path ++ (d ∷ [])) (suc k) 0)
  linked k h = elim (each (suc k) h) [
    | inl l ↦ subst (λ y. Edge edges (get_or (path ++ (d ∷ [])) k 0) y) (sym (first (suc k) l)) (subst (λ x. Edge edges x (get_or path (suc k) 0)) (sym (first k (omega arith))) (i.linked k l))
    | inr s ↦ subst (λ y. Edge edges (get_or (path ++ (d ∷ [])) k 0) y) (sym (last (suc k) s)) (subst (λ x. Edge edges x d) (sym (first k (omega arith))) (e k s))
  ]

  on_path : (x : ℕ) → get_or (set ranks d 1) x 0 ≡ 1 → (k : ℕ) × ((k < length (path ++ (d ∷ []))) × (get_or (path ++ (d ∷ [])) k 0 ≡ x))
  on_path x h = elim (same x d) [
    | inl s ↦ (length path, (omega (arith, longer), last (length path) refl ∙ sym s))
    | inr n ↦
        let g = i.on_path x (sym (before x n) ∙ h) in
        let l = g.1.0 in
        (g.0, (omega (arith, l, longer), first g.0 g.1.0 ∙ g.1.1))
  ]

  -- a node with a rank of 2 or more is not d, and has the rank that it had
  placed : (x : ℕ) → 2 ≤ get_or (set ranks d 1) x 0 → (get_or (set ranks d 1) x 0 ≡ get_or ranks x 0) × (2 ≤ get_or ranks x 0)
  placed x h = elim (same x d) [
    | inl s ↦ absurd (let q = now x s in omega (arith, q, h))
    | inr n ↦ let q = before x n in (q, omega (arith, q, h))
  ]

  pub enter : Inv edges (set ranks d 1) done (path ++ (d ∷ [])) order
  enter = record {
    ranks_len = length-set ranks d 1 ∙ i.ranks_len;
    done_len = i.done_len;
    path_in = path_in;
    path_open = path_open;
    path_once = path_once;
    linked = linked;
    on_path = on_path;
    below = λ x. elim (same x d) [
      | inl s ↦ let q = now x s in omega (arith, q)
      | inr n ↦ subst (λ m. m < length order + 2) (sym (before x n)) (i.below x)
    ];
    placed = λ x h. let p = placed x h in ap (λ m. get_or order (m - 2) 0) p.0 ∙ i.placed x p.1;
    listed = λ k h. let q = i.listed k h in stays (get_or order k 0) (omega (arith, q)) ∙ q;
    lower = λ x j h l.
        let p = placed x h in
        let c = i.lower x j p.1 l in
        let r = stays (need edges x j) c.0 in
        let c0 = c.0 in let c1 = c.1 in let q = p.0 in
        (omega (arith, c0, r), omega (arith, c1, r, q));
    counted = ap (λ n. length order + n) (count_same 2 ranks d 1 dl (ap (λ r. ltb r 2) z)) ∙ i.counted;
    passed = λ x j h. let c = i.passed x j h in let r = stays (need edges x j) c in omega (arith, c, r);
  }
