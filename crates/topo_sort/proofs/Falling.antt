-- Where ranks do not rise, a node whose needs all have lower ones does not lead to itself.
use Rattle.std.proofs.Common.{◌≡◌, ℕ, ◌<◌, ◌≤◌, List, length, get_or, ap, subst, arith}
use Rattle.topo_sort.specs.Graph.{needs, need, Edge, Leads}
use Rattle.topo_sort.specs.Graph.Leads.{direct, further}
use Rattle.topo_sort.specs.Falls.{AreBelow, DoFall}

edge_falls : (edges : List (List ℕ)) (ranks : List ℕ) (x y : ℕ) → DoFall edges ranks → Edge edges x y → get_or ranks y 0 ≤ get_or ranks x 0
edge_falls edges ranks x y f e = subst (λ n. get_or ranks n 0 ≤ get_or ranks x 0) e.1.1 (f x e.0 e.1.0)

leads_below : (edges : List (List ℕ)) (ranks : List ℕ) (x y : ℕ) → DoFall edges ranks → AreBelow edges ranks x (get_or ranks x 0) → Leads edges x y → get_or ranks y 0 < get_or ranks x 0
leads_below edges ranks x y f b (direct e) = subst (λ n. get_or ranks n 0 < get_or ranks x 0) e.1.1 (b e.0 e.1.0)
leads_below edges ranks x z f b (further {y = y} l e) =
    let p = leads_below edges ranks x y f b l in
    let q = edge_falls edges ranks y z f e in
    omega (arith, p, q)

pub not_back : (edges : List (List ℕ)) (ranks : List ℕ) (x : ℕ) → DoFall edges ranks → AreBelow edges ranks x (get_or ranks x 0) → Leads edges x x → ⊥
not_back edges ranks x f b l = let p = leads_below edges ranks x x f b l in omega (arith, p)
