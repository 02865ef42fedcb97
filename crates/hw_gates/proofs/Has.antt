-- What is said of places says what `IsNet` and `InScope` say.
use Rattle.std.proofs.Common.{◌≡◌, ◌∙◌, ℕ, Bool, true, eqb, ◌&&◌, length, refl, ap, sym, subst}
use Rattle.hw_pool.specs.Nodes.{PoolValue, node_at, IsWidth}
use Rattle.hw_pool.specs.Trees.{Tree, tree_of, width_of}
use Rattle.hw_pool.specs.Meaning.{Env}
use Rattle.hw_pool.specs.Scope.{Scope, Takes}
use Rattle.hw_expr.specs.declared.net.Net.{Net}
use Rattle.hw_expr.specs.Nets.{IsNet, InScope, net_value}
use Rattle.hw_gates.specs.Places.{is_width, does_fit, does_take, place, life, alive, Shape, shape, worth, takes, granted, value_in, Has, IsIn}
use Rattle.hw_gates.proofs.Decides.{both, left, right, same-of, of-same, less-of, of-less, width-is, is-width, fits-of, of-fits, take-of, of-take}

pub net_of : (p : PoolValue) (n : Net) → Has p n → IsNet p n
unfolding place shape life alive
net_of p n h =
    let t : Tree = tree_of p.nodes n.id.0 in
    let node_width : (node_at p.nodes n.id.0).width ≡ n.width = ap (λ (s : Shape). s.width) h.1 in
    let f = ap (λ (s : Shape). s.fits) h.1 in
    let f1 = right (eqb (width_of t) (node_at p.nodes n.id.0).width) _ f in
    let wide : IsWidth n.width = subst IsWidth node_width (width-is _ (left (is_width (node_at p.nodes n.id.0).width) _ f1)) in
    record {
      live = less-of n.id.0 (length p.nodes) (ap (λ (f : ℕ → Bool). f 0) h.0);
      node_width = node_width;
      level = ap (λ (s : Shape). s.level) h.1;
      width = same-of (width_of t) (node_at p.nodes n.id.0).width (left _ _ f) ∙ node_width;
      least = wide.0;
      most = wide.1;
      fits = fits-of t (right (is_width (node_at p.nodes n.id.0).width) _ f1);
    }

pub has_of : (p : PoolValue) (n : Net) → IsNet p n → Has p n
unfolding place shape life alive
has_of p n is =
    let t : Tree = tree_of p.nodes n.id.0 in
    let w : ℕ = (node_at p.nodes n.id.0).width in
    let wide : IsWidth w = subst IsWidth (sym is.node_width) (is.least, is.most) in
    let f : (eqb (width_of t) w && (is_width w && does_fit t)) ≡ true =
    both (eqb (width_of t) w) _ (of-same (width_of t) w (is.width ∙ sym is.node_width)) (both (is_width w) (does_fit t) (is-width w wide) (of-fits t is.fits)) in
    (λ i _. of-less n.id.0 (length p.nodes) is.live i, λ i. record { width = is.node_width i; level = is.level i; fits = f i })

pub value_is : (env : Env) (p : PoolValue) (n : Net) → value_in env p n ≡ net_value env p n
unfolding place worth net_value
value_is env p n = refl

pub in_scope : (s : Scope) (p : PoolValue) (n : Net) → Has p n → IsIn s p n → InScope s p n
unfolding place shape takes granted
in_scope s p n has h = record {
  is = net_of p n has;
  takes =
      let there : does_take s (node_at p.nodes n.id.0).level (tree_of p.nodes n.id.0) ≡ true = ap (λ (f : ℕ → Bool). f 0) h in
      subst (λ (level : ℕ). Takes s level (tree_of p.nodes n.id.0)) (ap (λ (x : Shape). x.level) has.1) (take-of s _ (tree_of p.nodes n.id.0) there);
}

pub is_in : (s : Scope) (p : PoolValue) (n : Net) → InScope s p n → IsIn s p n
unfolding place takes granted
is_in s p n h = (λ i _. of-take s (node_at p.nodes n.id.0).level (tree_of p.nodes n.id.0) (subst (λ (level : ℕ). Takes s level (tree_of p.nodes n.id.0)) (sym h.is.level) h.takes) i)
