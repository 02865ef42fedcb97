use Rattle.std.proofs.Common.{◌≡◌, ◌∙◌, ◌-◌, Bool, true, false, cond, List, [], ◌∷◌, ◌++◌, length, arith, ap, sym, subst, min, vec_capacity}
use Rattle.hw_pool.specs.declared.node.Node.{Node}
use Rattle.hw_pool.specs.Nodes.{PoolValue, IsPool, AreChildren}
use Rattle.hw_pool.specs.Trees.{tree_of, of_node}
use Rattle.hw_pool.proofs.Trees.{pool-more, tree-end, adds-one}
use Rattle.hw_pool.proofs.pool.Pool.append.Goals as goal

-- what was pushed where the push succeeded
pushed : (b : Bool) (old new : List Node) (n : Node) → b ≡ true → new ≡ cond b (old ++ n ∷ []) old → new ≡ old ++ n ∷ []
pushed true old new n ok is = is
pushed false old new n ok is = absurd (let e : false ≡ true = ok in cc)

pub invariant_of-self : goal.invariant_of-self
invariant_of-self c =
    let nodes = c.self.inside.nodes.items in
    let n = c.args.node in
    let room : min (vec_capacity c.self.inside.nodes) 65535 - length nodes ≡ c.args.self.now.spare = ap (λ (v : PoolValue). v.spare) c.self.view_is in
    let is : c.push.new.self.items ≡ nodes ++ n ∷ [] = pushed _ nodes _ n (c.push.ensures.succeeds (omega arith)) c.push.ensures.items in
    let same : nodes ≡ c.args.self.now.nodes = ap (λ (v : PoolValue). v.nodes) c.self.view_is in
    subst IsPool (sym is) (pool-more nodes n c.self.invariant (omega arith) c.requires.width
    (subst (λ (ns : List Node). AreChildren ns (length ns) n.level n.op) (sym same) c.requires.children))

pub returns-clause-tree : goal.returns-clause-tree
returns-clause-tree c =
    let nodes = c.self.inside.nodes.items in
    let n = c.args.node in
    let room : min (vec_capacity c.self.inside.nodes) 65535 - length nodes ≡ c.args.self.now.spare = ap (λ (v : PoolValue). v.spare) c.self.view_is in
    let is : c.push.new.self.items ≡ nodes ++ n ∷ [] = pushed _ nodes _ n (c.push.ensures.succeeds (omega arith)) c.push.ensures.items in
    let same : nodes ≡ c.args.self.now.nodes = ap (λ (v : PoolValue). v.nodes) c.self.view_is in
    let children = subst (λ (ns : List Node). AreChildren ns (length ns) n.level n.op) (sym same) c.requires.children in
    (λ i. tree_of (is i) (length (sym same i))) ∙ tree-end nodes n c.self.invariant (omega arith) c.requires.width children ∙ ap (λ ns. of_node (tree_of ns) n) same

pub returns-clause-adds : goal.returns-clause-adds
returns-clause-adds c =
    let nodes = c.self.inside.nodes.items in
    let n = c.args.node in
    let room : min (vec_capacity c.self.inside.nodes) 65535 - length nodes ≡ c.args.self.now.spare = ap (λ (v : PoolValue). v.spare) c.self.view_is in
    let is : c.push.new.self.items ≡ nodes ++ n ∷ [] = pushed _ nodes _ n (c.push.ensures.succeeds (omega arith)) c.push.ensures.items in
    let same : nodes ≡ c.args.self.now.nodes = ap (λ (v : PoolValue). v.nodes) c.self.view_is in
    adds-one _ _ n (subst IsPool same c.self.invariant) (subst (λ (ns : List Node). c.push.new.self.items ≡ ns ++ n ∷ []) same is) (omega arith)

pub returns-clause-pool : goal.returns-clause-pool
returns-clause-pool c =
    let nodes = c.self.inside.nodes.items in
    let n = c.args.node in
    let room : min (vec_capacity c.self.inside.nodes) 65535 - length nodes ≡ c.args.self.now.spare = ap (λ (v : PoolValue). v.spare) c.self.view_is in
    let is : c.push.new.self.items ≡ nodes ++ n ∷ [] = pushed _ nodes _ n (c.push.ensures.succeeds (omega arith)) c.push.ensures.items in
    let same : nodes ≡ c.args.self.now.nodes = ap (λ (v : PoolValue). v.nodes) c.self.view_is in
    subst IsPool (sym is) (pool-more nodes n c.self.invariant (omega arith) c.requires.width
    (subst (λ (ns : List Node). AreChildren ns (length ns) n.level n.op) (sym same) c.requires.children))
