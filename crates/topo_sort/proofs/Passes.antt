-- One more of what a node needs stands in the order.
use Rattle.std.proofs.Common.{◌≡◌, ℕ, ◌+◌, ◌<◌, ◌≤◌, inl, inr, List, length, get_or, set, ap, sym, ◌∙◌, subst, arith, length-set, get_or-set_same, get_or-set_other}
use Rattle.topo_sort.specs.Graph.{need}
use Rattle.topo_sort.specs.Search.{Inv}
use Rattle.topo_sort.proofs.Same.{same}

module _ (edges : List (List ℕ)) (ranks done path order : List ℕ) (x at n : ℕ) (i : Inv edges ranks done path order) (l : x < length edges)
    (a : get_or done x 0 ≡ at) (m : n ≡ at + 1) (b : 2 ≤ get_or ranks (need edges x at) 0) where
  most : get_or (set done x n) x 0 ≡ n
  most = get_or-set_same done x n 0 (let q = i.done_len in omega (arith, l, q))

  earlier : (y j : ℕ) → y ≡ x → (j ≡ at → ⊥) → j < get_or (set done x n) y 0 → j < get_or done x 0
  earlier y j s t h = let q : get_or (set done x n) y 0 ≡ get_or (set done x n) x 0 = ap (λ k. get_or (set done x n) k 0) s in let p = most in omega (arith, a, m, q, p, h, t)

  passed : (y j : ℕ) → j < get_or (set done x n) y 0 → 2 ≤ get_or ranks (need edges y j) 0
  passed y j h = elim (same y x) [
    | inl s ↦ elim (same j at) [
      | inl t ↦ subst (λ k. 2 ≤ get_or ranks (need edges k j) 0) (sym s) (subst (λ k. 2 ≤ get_or ranks (need edges x k) 0) (sym t) b)
      | inr t ↦ subst (λ k. 2 ≤ get_or ranks (need edges k j) 0) (sym s) (i.passed x j (earlier y j s t h))
    ]
    | inr t ↦ i.passed y j (subst (λ k. j < k) (get_or-set_other done x y n 0 t) h)
  ]

  pub pass : Inv edges ranks (set done x n) path order
  pass = record {
    ranks_len = i.ranks_len;
    done_len = length-set done x n ∙ i.done_len;
    path_in = i.path_in;
    path_open = i.path_open;
    path_once = i.path_once;
    linked = i.linked;
    on_path = i.on_path;
    below = i.below;
    placed = i.placed;
    listed = i.listed;
    lower = i.lower;
    counted = i.counted;
    passed = passed;
  }
