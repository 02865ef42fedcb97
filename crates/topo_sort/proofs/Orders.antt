-- Where the search has come to all nodes, all stand in the order, each behind what it needs.
use Rattle.std.proofs.Common.{◌≡◌, ℕ, zero, suc, ◌-◌, ◌<◌, ◌≤◌, List, [], ◌∷◌, length, get_or, ap, subst, arith}
use Rattle.topo_sort.specs.Graph.{needs, need, Edge, Leads}
use Rattle.topo_sort.specs.Graph.Leads.{direct, further}
use Rattle.topo_sort.specs.Search.{Inv}
use Rattle.topo_sort.specs.Order.{IsOrder}
use Rattle.topo_sort.proofs.Counts.{count_none}

-- what has needs is a node, and what has a rank
node_of_needs : (edges : List (List ℕ)) (x i : ℕ) → i < length (needs edges x) → x < length edges
node_of_needs [] x i h = absurd (omega arith)
node_of_needs (e ∷ edges) zero i h = omega arith
node_of_needs (e ∷ edges) (suc x) i h = let r : x < length edges = node_of_needs edges x i h in omega arith

node_of_rank : (ranks : List ℕ) (x : ℕ) → 0 < get_or ranks x 0 → x < length ranks
node_of_rank [] x h = absurd (omega arith)
node_of_rank (r ∷ ranks) zero h = omega arith
node_of_rank (r ∷ ranks) (suc x) h = let q : x < length ranks = node_of_rank ranks x h in omega arith

pub leads_from : (edges : List (List ℕ)) (x y : ℕ) → Leads edges x y → x < length edges
leads_from edges x y (direct e) = node_of_needs edges x e.0 e.1.0
leads_from edges x z (further {y = y} l e) = leads_from edges x y l

module _ (edges : List (List ℕ)) (ranks done order : List ℕ) (i : Inv edges ranks done [] order) (seen : (x : ℕ) → x < length edges → 0 < get_or ranks x 0) where
  has_place : (x : ℕ) → x < length edges → 2 ≤ get_or ranks x 0
  has_place x l =
      let p = seen x l in
      let g : get_or ranks x 0 ≡ 1 → ⊥ = λ e. (let f = i.on_path x e in let h = f.1.0 in omega (arith, h)) in
      omega (arith, p, g)

  edge_lower : (x y : ℕ) → 2 ≤ get_or ranks x 0 → Edge edges x y → (2 ≤ get_or ranks y 0) × (get_or ranks y 0 < get_or ranks x 0)
  edge_lower x y b e = subst (λ n. (2 ≤ get_or ranks n 0) × (get_or ranks n 0 < get_or ranks x 0)) e.1.1 (i.lower x e.0 b e.1.0)

  leads_lower : (x y : ℕ) → 2 ≤ get_or ranks x 0 → Leads edges x y → (2 ≤ get_or ranks y 0) × (get_or ranks y 0 < get_or ranks x 0)
  leads_lower x y b (direct e) = edge_lower x y b e
  leads_lower x z b (further {y = y} l e) =
      let p = leads_lower x y b l in
      let q = edge_lower y z p.0 e in
      let p1 = p.1 in let q1 = q.1 in
      (q.0, omega (arith, p1, q1))

  pub is_order : IsOrder edges order
  is_order = record {
    size = let c = i.counted in let z = count_none ranks (λ k h. has_place k (let r = i.ranks_len in omega (arith, h, r))) in omega (arith, c, z);
    nodes = λ k l. let r = i.listed k l in let s = node_of_rank ranks (get_or order k 0) (omega (arith, r)) in let e = i.ranks_len in omega (arith, s, e);
    all = λ x l. let b = has_place x l in let c = i.below x in (get_or ranks x 0 - 2, (omega (arith, b, c), i.placed x b));
    once = λ j k hj hk e. let a = i.listed j hj in let b = i.listed k hk in let q : get_or ranks (get_or order j 0) 0 ≡ get_or ranks (get_or order k 0) 0 = ap (λ n. get_or ranks n 0) e in omega (arith, a, b, q);
    behind = λ k j l h.
        let r = i.listed k l in
        let b : 2 ≤ get_or ranks (get_or order k 0) 0 = omega (arith, r) in
        let c = i.lower (get_or order k 0) j b h in
        let c0 = c.0 in let c1 = c.1 in
        (get_or ranks (need edges (get_or order k 0) j) 0 - 2, (omega (arith, r, c0, c1), i.placed (need edges (get_or order k 0) j) c0));
    no_loop = λ x h. let p = leads_lower x x (has_place x (leads_from edges x x h)) h in let q = p.1 in omega (arith, q);
  }
