-- An edge from the end of the path to a node on it closes a loop.
use Rattle.std.proofs.Common.{◌≡◌, ℕ, zero, suc, ◌+◌, ◌-◌, ◌<◌, inl, inr, List, length, get_or, subst, arith}
use Rattle.topo_sort.specs.Graph.{Edge, Leads}
use Rattle.topo_sort.specs.Graph.Leads.{direct, further}
use Rattle.topo_sort.specs.Search.{Inv}
use Rattle.topo_sort.proofs.Same.{same}

-- the path's nodes lead to those behind them
along : (edges : List (List ℕ)) (ranks done path order : List ℕ) → Inv edges ranks done path order → (k n : ℕ) → k + suc n < length path → Leads edges (get_or path k 0) (get_or path (k + suc n) 0)
along edges ranks done path order i k zero h =
    let e : suc k ≡ k + suc zero = omega arith in
    subst (λ m. Leads edges (get_or path k 0) (get_or path m 0)) e (direct (i.linked k (omega (arith, h))))
along edges ranks done path order i k (suc n) h =
    let e : suc (k + suc n) ≡ k + suc (suc n) = omega arith in
    subst (λ m. Leads edges (get_or path k 0) (get_or path m 0)) e (further (along edges ranks done path order i k n (omega (arith, h))) (i.linked (k + suc n) (omega (arith, h))))

pub closes : (edges : List (List ℕ)) (ranks done path order : List ℕ) (d : ℕ) → Inv edges ranks done path order → get_or ranks d 0 ≡ 1
    → ((k : ℕ) → suc k ≡ length path → Edge edges (get_or path k 0) d) → Leads edges d d
closes edges ranks done path order d i g e =
    let f = i.on_path d g in
    let l = f.1.0 in
    elim (same (suc f.0) (length path)) [
      | inl s ↦ subst (λ x. Leads edges x d) f.1.1 (direct (e f.0 s))
      | inr n ↦
          let m : f.0 + suc (length path - f.0 - 2) < length path = omega (arith, l, n) in
          let q : suc (f.0 + suc (length path - f.0 - 2)) ≡ length path = omega (arith, l, n) in
          subst (λ x. Leads edges x d) f.1.1 (further (along edges ranks done path order i f.0 (length path - f.0 - 2) m) (e (f.0 + suc (length path - f.0 - 2)) q))
    ]
