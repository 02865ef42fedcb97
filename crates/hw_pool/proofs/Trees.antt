-- A live node's tree depends on the nodes up to it alone.
use Rattle.std.proofs.Common.{◌≡◌, ◌∙◌, ℕ, suc, zero, ◌+◌, ◌<◌, ◌≤◌, List, [], ◌∷◌, ◌++◌, length, get_or, refl, arith, ap, sym, subst, length-append, inl, inr}
use Rattle.std.proofs.lemmas.Bool.{cases_lt}
use Rattle.std.proofs.Math.ListN.{get_or-append}
use Rattle.hw_pool.specs.declared.node.Node.{Node}
use Rattle.hw_pool.specs.declared.node.Op.{Op}
use Rattle.hw_pool.specs.declared.node.Op.TheVariants.{Lit, Input, Wire, Reg, Not, And, Or, Xor, Add, Sub, Eq, Ltu, Mux, Cat, Slice, Read}
use Rattle.hw_pool.specs.Nodes.{PoolValue, node_at, EachChild, IsWidth, AreChildren, IsPool}
use Rattle.hw_pool.specs.Trees.{Tree, of_op, of_node, unfold_to, tree_of}
use Rattle.hw_pool.specs.Trees.Tree.{Not as not_tree, And as and_tree, Or as or_tree, Xor as xor_tree, Add as add_tree, Sub as sub_tree, Eq as eq_tree, Ltu as ltu_tree, Mux as mux_tree, Cat as cat_tree, Slice as slice_tree, Read as read_tree}
use Rattle.hw_pool.specs.Frame.{Adds}

-- what holds of each child and leads to Q holds with Q
pub each_child : (P Q : ℕ → Type 0) → ((c : ℕ) → P c → Q c) → (o : Op) → EachChild P o → EachChild Q o
each_child P Q f (Lit value) h = tt
each_child P Q f (Input port) h = tt
each_child P Q f (Wire wire) h = tt
each_child P Q f (Reg reg) h = tt
each_child P Q f (Not a) h = f a.0 h
each_child P Q f (And a b) h = (f a.0 h.0, f b.0 h.1)
each_child P Q f (Or a b) h = (f a.0 h.0, f b.0 h.1)
each_child P Q f (Xor a b) h = (f a.0 h.0, f b.0 h.1)
each_child P Q f (Add a b) h = (f a.0 h.0, f b.0 h.1)
each_child P Q f (Sub a b) h = (f a.0 h.0, f b.0 h.1)
each_child P Q f (Eq a b) h = (f a.0 h.0, f b.0 h.1)
each_child P Q f (Ltu a b) h = (f a.0 h.0, f b.0 h.1)
each_child P Q f (Mux c a b) h = (f c.0 h.0, f a.0 h.1, f b.0 h.2)
each_child P Q f (Cat a b) h = (f a.0 h.0, f b.0 h.1)
each_child P Q f (Slice a high low) h = f a.0 h
each_child P Q f (Read array a) h = f a.0 h

-- an operator reads the trees of its children alone
of_op-same : (f g : ℕ → Tree) (w : ℕ) (o : Op) → EachChild (λ c. f c ≡ g c) o → of_op f w o ≡ of_op g w o
of_op-same f g w (Lit value) h = refl
of_op-same f g w (Input port) h = refl
of_op-same f g w (Wire wire) h = refl
of_op-same f g w (Reg reg) h = refl
of_op-same f g w (Not a) h = ap (not_tree w) h
of_op-same f g w (And a b) h = λ i. and_tree w (h.0 i) (h.1 i)
of_op-same f g w (Or a b) h = λ i. or_tree w (h.0 i) (h.1 i)
of_op-same f g w (Xor a b) h = λ i. xor_tree w (h.0 i) (h.1 i)
of_op-same f g w (Add a b) h = λ i. add_tree w (h.0 i) (h.1 i)
of_op-same f g w (Sub a b) h = λ i. sub_tree w (h.0 i) (h.1 i)
of_op-same f g w (Eq a b) h = λ i. eq_tree w (h.0 i) (h.1 i)
of_op-same f g w (Ltu a b) h = λ i. ltu_tree w (h.0 i) (h.1 i)
of_op-same f g w (Mux c a b) h = λ i. mux_tree w (h.0 i) (h.1 i) (h.2 i)
of_op-same f g w (Cat a b) h = λ i. cat_tree w (h.0 i) (h.1 i)
of_op-same f g w (Slice a high low) h = ap (λ t. slice_tree w t high low) h
of_op-same f g w (Read array a) h = ap (read_tree w array) h

-- the same operator over children with the same trees
of_children : (f g : ℕ → Tree) (nodes : List Node) (k level : ℕ) (n : Node) → AreChildren nodes k level n.op → ((c : ℕ) → c < k → f c ≡ g c) → of_node f n ≡ of_node g n
of_children f g nodes k level n h same =
    of_op-same f g n.width n.op (each_child (λ c. (c < k) × ((node_at nodes c).level ≤ level)) (λ c. f c ≡ g c) (λ c p. same c p.0) n.op h)

-- lists that agree on the live nodes of a pool unfold them to the same trees
unfold-kept : (depth : ℕ) (old new : List Node) → IsPool old → ((k : ℕ) → k < length old → node_at new k ≡ node_at old k) → (k : ℕ) → k < length old
    → unfold_to depth new k ≡ unfold_to depth old k
unfolding unfold_to
unfold-kept zero old new pool same k h = refl
unfold-kept (suc depth) old new pool same k h =
    ap (of_node (unfold_to depth new)) (same k h)
    ∙ of_children (unfold_to depth new) (unfold_to depth old) old k (node_at old k).level (node_at old k) (pool.children k h)
    (λ c below. unfold-kept depth old new pool same c (omega arith))

pub tree-kept : (old new : List Node) → IsPool old → ((k : ℕ) → k < length old → node_at new k ≡ node_at old k) → (k : ℕ) → k < length old
    → tree_of new k ≡ tree_of old k
unfolding tree_of
tree-kept old new pool same k h = unfold-kept (suc k) old new pool same k h

-- a tree that is unfolded far enough is unfolded no further
unfold-enough : (d e : ℕ) (nodes : List Node) (k : ℕ) → IsPool nodes → k < length nodes → k < d → k < e → unfold_to d nodes k ≡ unfold_to e nodes k
unfolding unfold_to
unfold-enough zero e nodes k pool h d_is e_is = absurd (omega arith)
unfold-enough (suc d) zero nodes k pool h d_is e_is = absurd (omega arith)
unfold-enough (suc d) (suc e) nodes k pool h d_is e_is =
    of_children (unfold_to d nodes) (unfold_to e nodes) nodes k (node_at nodes k).level (node_at nodes k) (pool.children k h)
    (λ c below. unfold-enough d e nodes c pool (omega arith) (omega arith) (omega arith))

-- the tree of a live node is its operator over the trees of its children
pub tree-here : (nodes : List Node) (k : ℕ) → IsPool nodes → k < length nodes → tree_of nodes k ≡ of_node (tree_of nodes) (node_at nodes k)
unfolding unfold_to tree_of
tree-here nodes k pool h =
    of_children (unfold_to k nodes) (tree_of nodes) nodes k (node_at nodes k).level (node_at nodes k) (pool.children k h)
    (λ c below. unfold-enough k (suc c) nodes c pool (omega arith) (omega arith) (omega arith))

get_or-end : (nodes : List Node) (n d : Node) → get_or (nodes ++ n ∷ []) (length nodes) d ≡ n
get_or-end [] n d = refl
get_or-end (m ∷ ms) n d = get_or-end ms n d

module _ (nodes : List Node) (n : Node) where
  pub node-end : node_at (nodes ++ n ∷ []) (length nodes) ≡ n
  node-end = get_or-end nodes n _

  pub node-before : (k : ℕ) → k < length nodes → node_at (nodes ++ n ∷ []) k ≡ node_at nodes k
  node-before k h = get_or-append nodes (n ∷ []) _ k h

  -- children keep their levels while nodes are added
  children-more : (k level : ℕ) (o : Op) → k ≤ length nodes → AreChildren nodes k level o → AreChildren (nodes ++ n ∷ []) k level o
  children-more k level o most h =
      each_child (λ c. (c < k) × ((node_at nodes c).level ≤ level)) (λ c. (c < k) × ((node_at (nodes ++ n ∷ []) c).level ≤ level))
      (λ c p. (p.0, subst (λ (m : Node). m.level ≤ level) (sym (node-before c (omega (arith, p.0)))) p.1)) o h

  -- a node over live children keeps a pool
  pub pool-more : IsPool nodes → length nodes < 65535 → IsWidth n.width → AreChildren nodes (length nodes) n.level n.op → IsPool (nodes ++ n ∷ [])
  pool-more pool room width children = record {
    few = let e : length (nodes ++ n ∷ []) ≡ length nodes + 1 = length-append nodes (n ∷ []) in omega arith;
    widths = λ k h. elim (cases_lt k (length nodes)) [
      | inl l ↦ subst (λ (m : Node). IsWidth m.width) (sym (node-before k l)) (pool.widths k l)
      | inr g ↦
          let e : length (nodes ++ n ∷ []) ≡ length nodes + 1 = length-append nodes (n ∷ []) in
          let here : length nodes ≡ k = omega arith in
          subst (λ (j : ℕ). IsWidth (node_at (nodes ++ n ∷ []) j).width) here (subst (λ (m : Node). IsWidth m.width) (sym node-end) width)
    ];
    children = λ k h. elim (cases_lt k (length nodes)) [
      | inl l ↦
          subst (λ (m : Node). AreChildren (nodes ++ n ∷ []) k m.level m.op) (sym (node-before k l))
          (children-more k (node_at nodes k).level (node_at nodes k).op (omega arith) (pool.children k l))
      | inr g ↦
          let e : length (nodes ++ n ∷ []) ≡ length nodes + 1 = length-append nodes (n ∷ []) in
          let here : length nodes ≡ k = omega arith in
          subst (λ (j : ℕ). AreChildren (nodes ++ n ∷ []) j (node_at (nodes ++ n ∷ []) j).level (node_at (nodes ++ n ∷ []) j).op) here
          (subst (λ (m : Node). AreChildren (nodes ++ n ∷ []) (length nodes) m.level m.op) (sym node-end)
          (children-more (length nodes) n.level n.op (omega arith) children))
    ];
  }

  -- the tree of a node that is added
  pub tree-end : IsPool nodes → length nodes < 65535 → IsWidth n.width → AreChildren nodes (length nodes) n.level n.op
      → tree_of (nodes ++ n ∷ []) (length nodes) ≡ of_node (tree_of nodes) n
  tree-end pool room width children =
      let e : length (nodes ++ n ∷ []) ≡ length nodes + 1 = length-append nodes (n ∷ []) in
      tree-here (nodes ++ n ∷ []) (length nodes) (pool-more pool room width children) (omega arith)
      ∙ ap (of_node (tree_of (nodes ++ n ∷ []))) node-end
      ∙ of_children (tree_of (nodes ++ n ∷ [])) (tree_of nodes) nodes (length nodes) n.level n children
      (λ c below. tree-kept nodes (nodes ++ n ∷ []) pool node-before c below)

-- one node more
pub adds-one : (old new : PoolValue) (n : Node) → IsPool old.nodes → new.nodes ≡ old.nodes ++ n ∷ [] → old.spare ≤ new.spare + 1 → Adds old new 1
adds-one old new n pool is spare =
    let e : length (old.nodes ++ n ∷ []) ≡ length old.nodes + 1 = length-append old.nodes (n ∷ []) in
    let l : length new.nodes ≡ length (old.nodes ++ n ∷ []) = ap length is in
    let same : (k : ℕ) → k < length old.nodes → node_at new.nodes k ≡ node_at old.nodes k = λ k h. ap (λ ns. node_at ns k) is ∙ node-before old.nodes n k h in
    record {
      longer = omega arith;
      most = omega arith;
      spare = spare;
      nodes = same;
      trees = λ k h. tree-kept old.nodes new.nodes pool same k h;
    }
