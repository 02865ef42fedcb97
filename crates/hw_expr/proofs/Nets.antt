-- Nets and their values while nodes are added.
use Rattle.std.proofs.Common.{◌≡◌, ◌∙◌, ℕ, ◌<◌, length, refl, arith, ap, sym, subst}
use Rattle.hw_pool.specs.declared.node.Node.{Node}
use Rattle.hw_pool.specs.declared.node.Op.{Op}
use Rattle.hw_pool.specs.declared.node.Op.TheVariants.{Lit, Input, Wire, Reg, Not, And, Or, Xor, Add, Sub, Eq, Ltu, Mux, Cat, Slice, Read}
use Rattle.hw_pool.specs.Nodes.{PoolValue, IsWidth, node_at}
use Rattle.hw_pool.specs.Trees.{Tree, of_op, tree_of, width_of}
use Rattle.hw_pool.specs.Meaning.{Env, value, Fits}
use Rattle.hw_pool.specs.Frame.{Adds}
use Rattle.hw_expr.specs.declared.net.Net.{Net}
use Rattle.hw_expr.specs.Nets.{IsNet, net_value}

-- a net stays one
pub still_net : (old new : PoolValue) (n : ℕ) (net : Net) → Adds old new n → IsNet old net → IsNet new net
still_net old new n net adds is = record {
  live = omega (arith, is.live, adds.longer);
  node_width = ap (λ (m : Node). m.width) (adds.nodes net.id.0 is.live) ∙ is.node_width;
  level = ap (λ (m : Node). m.level) (adds.nodes net.id.0 is.live) ∙ is.level;
  width = ap width_of (adds.trees net.id.0 is.live) ∙ is.width;
  least = is.least;
  most = is.most;
  fits = subst Fits (sym (adds.trees net.id.0 is.live)) is.fits;
}

-- and keeps its value
pub still_value : (env : Env) (old new : PoolValue) (n : ℕ) (net : Net) → Adds old new n → IsNet old net → net_value env new net ≡ net_value env old net
unfolding net_value
still_value env old new n net adds is = ap (value env) (adds.trees net.id.0 is.live)

-- an operator's tree has its width
pub width-op : (f : ℕ → Tree) (w : ℕ) (o : Op) → width_of (of_op f w o) ≡ w
width-op f w (Lit value) = refl
width-op f w (Input port) = refl
width-op f w (Wire wire) = refl
width-op f w (Reg reg) = refl
width-op f w (Not a) = refl
width-op f w (And a b) = refl
width-op f w (Or a b) = refl
width-op f w (Xor a b) = refl
width-op f w (Add a b) = refl
width-op f w (Sub a b) = refl
width-op f w (Eq a b) = refl
width-op f w (Ltu a b) = refl
width-op f w (Mux c a b) = refl
width-op f w (Cat a b) = refl
width-op f w (Slice a high low) = refl
width-op f w (Read array a) = refl

-- the net of a node that is added
pub put_net : (f : ℕ → Tree) (pool : PoolValue) (o : Op) (net : Net) → net.id.0 < length pool.nodes → IsWidth net.width → Fits (of_op f net.width o)
    → node_at pool.nodes net.id.0 ≡ record { op = o; width = net.width; level = net.level } → tree_of pool.nodes net.id.0 ≡ of_op f net.width o → IsNet pool net
put_net f pool o net live wide fits node tree = record {
  live = live;
  node_width = ap (λ (m : Node). m.width) node;
  level = ap (λ (m : Node). m.level) node;
  width = ap width_of tree ∙ width-op f net.width o;
  least = wide.0;
  most = wide.1;
  fits = subst Fits (sym tree) fits;
}
