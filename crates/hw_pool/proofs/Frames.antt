-- Additions to a pool one behind the other.
use Rattle.std.proofs.Common.{◌≡◌, ◌∙◌, ℕ, ◌+◌, ◌<◌, ◌≤◌, List, arith, ap, sym, subst, refl, length, inl, inr}
use Rattle.std.proofs.lemmas.Bool.{cases_lt}
use Rattle.hw_pool.specs.declared.node.Node.{Node}
use Rattle.hw_pool.specs.Nodes.{PoolValue, node_at, IsPool}
use Rattle.hw_pool.specs.Trees.{tree_of}
use Rattle.hw_pool.specs.Frame.{Adds, IsInner, AddsInner}

-- the same nodes, with no less room
pub adds_nothing : (old new : PoolValue) → new.nodes ≡ old.nodes → old.spare ≤ new.spare → Adds old new 0
adds_nothing old new same room = record {
  longer = let e = ap length same in omega arith;
  most = let e = ap length same in omega arith;
  spare = omega arith;
  nodes = λ k h. ap (λ nodes. node_at nodes k) same;
  trees = λ k h. ap (λ nodes. tree_of nodes k) same;
}

pub adds_then : (a b c : PoolValue) (m n total : ℕ) → Adds a b m → Adds b c n → m + n ≤ total → Adds a c total
adds_then a b c m n total first second sum = record {
  longer = omega (arith, first.longer, second.longer);
  most = omega (arith, first.most, second.most);
  spare = omega (arith, first.spare, second.spare);
  nodes = λ k h. second.nodes k (omega (arith, first.longer)) ∙ first.nodes k h;
  trees = λ k h. second.trees k (omega (arith, first.longer)) ∙ first.trees k h;
}

-- nothing is added
pub inner_nothing : (nodes : List Node) → AddsInner nodes nodes
inner_nothing nodes = record {
  longer = omega arith;
  nodes = λ k h. refl;
  inner = λ k l h. absurd (omega arith);
  pool = λ h. h;
}

-- at most one node is added, and where one is, it is this one
pub inner_one : (old new : PoolValue) (n : ℕ) (node : Node) (id : ℕ) → Adds old new n → n ≤ 1 → (length old.nodes < length new.nodes → id ≡ length old.nodes)
    → node_at new.nodes id ≡ node → IsPool new.nodes → IsInner node.op → AddsInner old.nodes new.nodes
inner_one old new n node id adds one grown is pool inner = record {
  longer = adds.longer;
  nodes = adds.nodes;
  inner = λ k l h.
      let last : id ≡ length old.nodes = grown (omega arith) in
      let at : id ≡ k = omega (arith, adds.most) in
      subst (λ (j : ℕ). IsInner (node_at new.nodes j).op) at (subst (λ (m : Node). IsInner m.op) (sym is) inner);
  pool = λ h. pool;
}

pub inner_then : (a b c : List Node) → AddsInner a b → AddsInner b c → AddsInner a c
inner_then a b c first second = record {
  longer = omega (arith, first.longer, second.longer);
  nodes = λ k h. second.nodes k (omega (arith, first.longer)) ∙ first.nodes k h;
  inner = λ k l h. elim (cases_lt k (length b)) [
    | inl below ↦ subst (λ (m : Node). IsInner m.op) (sym (second.nodes k below)) (first.inner k l below)
    | inr above ↦ second.inner k above h
  ];
  pool = λ h. second.pool (first.pool h);
}
