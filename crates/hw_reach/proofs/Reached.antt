-- A node that a module reaches is live, and its tree fits with all its forward wires.
use Rattle.std.proofs.Common.{◌≡◌, ℕ, ◌<◌, ◌≤◌, ◌⊎◌, List, arith, subst, inl, inr}
use Rattle.hw_pool.specs.declared.node.Node.{Node}
use Rattle.hw_pool.specs.declared.node.Op.{Op}
use Rattle.hw_pool.specs.declared.node.Op.TheVariants as op
use Rattle.hw_pool.specs.Nodes.{PoolValue, node_at, EachChild, IsPool}
use Rattle.hw_pool.specs.Trees.{Tree, of_op, tree_of}
use Rattle.hw_pool.specs.Trees.Tree.{Lit, Input, Wire, Reg, Not, And, Or, Xor, Add, Sub, Eq, Ltu, Mux, Cat, Slice, Read}
use Rattle.hw_pool.specs.Meaning.{Fits}
use Rattle.hw_pool.proofs.Trees.{tree-here}
use Rattle.hw_expr.specs.declared.net.Net.{Net}
use Rattle.hw_module.specs.Rows.{ModuleValue}
use Rattle.hw_module.specs.Fits.{TreeFits, FitsIn}
use Rattle.hw_module.specs.Checked.{DriversFit}
use Rattle.hw_module.specs.Reached.{Drives, IsChild, Reached, top_of, ReachedFits}
use Rattle.hw_module.specs.Reached.Drives.{OfWire, OfReg, OfEnable, OfAddr, OfValue, OfPort}
use Rattle.hw_module.specs.Reached.Reached.{Driver, Child}

-- no forward wire of a tree that fits is above the level
pub tree_top : (m : ModuleValue) (level : ℕ) (t : Tree) → TreeFits m level t → top_of m.wires t ≤ level
tree_top m level (Lit width value) h = omega arith
tree_top m level (Input width port) h = omega arith
tree_top m level (Wire width wire) h = h.level
tree_top m level (Reg width reg) h = omega arith
tree_top m level (Not width a) h = tree_top m level a h
tree_top m level (And width a b) h = omega (arith, tree_top m level a h.0, tree_top m level b h.1)
tree_top m level (Or width a b) h = omega (arith, tree_top m level a h.0, tree_top m level b h.1)
tree_top m level (Xor width a b) h = omega (arith, tree_top m level a h.0, tree_top m level b h.1)
tree_top m level (Add width a b) h = omega (arith, tree_top m level a h.0, tree_top m level b h.1)
tree_top m level (Sub width a b) h = omega (arith, tree_top m level a h.0, tree_top m level b h.1)
tree_top m level (Eq width a b) h = omega (arith, tree_top m level a h.0, tree_top m level b h.1)
tree_top m level (Ltu width a b) h = omega (arith, tree_top m level a h.0, tree_top m level b h.1)
tree_top m level (Mux width c a b) h = omega (arith, tree_top m level c h.0, tree_top m level a h.1, tree_top m level b h.2)
tree_top m level (Cat width a b) h = omega (arith, tree_top m level a h.0, tree_top m level b h.1)
tree_top m level (Slice width a high low) h = tree_top m level a h
tree_top m level (Read width array a) h = tree_top m level a h.1

-- a tree that fits does at each level that no forward wire of it is above
pub tree_fits_at : (m : ModuleValue) (level most : ℕ) (t : Tree) → TreeFits m level t → top_of m.wires t ≤ most → TreeFits m most t
tree_fits_at m level most (Lit width value) h l = tt
tree_fits_at m level most (Input width port) h l = h
tree_fits_at m level most (Wire width wire) h l = record { there = h.there; width = h.width; level = l }
tree_fits_at m level most (Reg width reg) h l = h
tree_fits_at m level most (Not width a) h l = tree_fits_at m level most a h l
tree_fits_at m level most (And width a b) h l = (tree_fits_at m level most a h.0 (omega arith), tree_fits_at m level most b h.1 (omega arith))
tree_fits_at m level most (Or width a b) h l = (tree_fits_at m level most a h.0 (omega arith), tree_fits_at m level most b h.1 (omega arith))
tree_fits_at m level most (Xor width a b) h l = (tree_fits_at m level most a h.0 (omega arith), tree_fits_at m level most b h.1 (omega arith))
tree_fits_at m level most (Add width a b) h l = (tree_fits_at m level most a h.0 (omega arith), tree_fits_at m level most b h.1 (omega arith))
tree_fits_at m level most (Sub width a b) h l = (tree_fits_at m level most a h.0 (omega arith), tree_fits_at m level most b h.1 (omega arith))
tree_fits_at m level most (Eq width a b) h l = (tree_fits_at m level most a h.0 (omega arith), tree_fits_at m level most b h.1 (omega arith))
tree_fits_at m level most (Ltu width a b) h l = (tree_fits_at m level most a h.0 (omega arith), tree_fits_at m level most b h.1 (omega arith))
tree_fits_at m level most (Mux width c a b) h l =
    (tree_fits_at m level most c h.0 (omega arith), tree_fits_at m level most a h.1 (omega arith), tree_fits_at m level most b h.2 (omega arith))
tree_fits_at m level most (Cat width a b) h l = (tree_fits_at m level most a h.0 (omega arith), tree_fits_at m level most b h.1 (omega arith))
tree_fits_at m level most (Slice width a high low) h l = tree_fits_at m level most a h l
tree_fits_at m level most (Read width array a) h l = (h.0, tree_fits_at m level most a h.1 l)

pub tree_fits_at_top : (m : ModuleValue) (level : ℕ) (t : Tree) → TreeFits m level t → TreeFits m (top_of m.wires t) t
tree_fits_at_top m level t h = tree_fits_at m level (top_of m.wires t) t h (omega arith)

-- what a child takes from an operator
pub record ChildFits (m : ModuleValue) (level : ℕ) (t : Tree) : Type 0 where
  pub fits : Fits t
  pub tree : TreeFits m level t

child_fits : (m : ModuleValue) (level : ℕ) (f : ℕ → Tree) (width : ℕ) (o : Op) → Fits (of_op f width o) → TreeFits m level (of_op f width o)
    → EachChild (λ c. ChildFits m level (f c)) o
child_fits m level f width (op.Lit value) h t = tt
child_fits m level f width (op.Input port) h t = tt
child_fits m level f width (op.Wire wire) h t = tt
child_fits m level f width (op.Reg reg) h t = tt
child_fits m level f width (op.Not a) h t = record { fits = h.2; tree = t }
child_fits m level f width (op.And a b) h t = (record { fits = h.3; tree = t.0 }, record { fits = h.4; tree = t.1 })
child_fits m level f width (op.Or a b) h t = (record { fits = h.3; tree = t.0 }, record { fits = h.4; tree = t.1 })
child_fits m level f width (op.Xor a b) h t = (record { fits = h.3; tree = t.0 }, record { fits = h.4; tree = t.1 })
child_fits m level f width (op.Add a b) h t = (record { fits = h.3; tree = t.0 }, record { fits = h.4; tree = t.1 })
child_fits m level f width (op.Sub a b) h t = (record { fits = h.3; tree = t.0 }, record { fits = h.4; tree = t.1 })
child_fits m level f width (op.Eq a b) h t = (record { fits = h.2; tree = t.0 }, record { fits = h.3; tree = t.1 })
child_fits m level f width (op.Ltu a b) h t = (record { fits = h.2; tree = t.0 }, record { fits = h.3; tree = t.1 })
child_fits m level f width (op.Mux c a b) h t =
    (record { fits = h.4; tree = t.0 }, record { fits = h.5; tree = t.1 }, record { fits = h.6; tree = t.2 })
child_fits m level f width (op.Cat a b) h t = (record { fits = h.2; tree = t.0 }, record { fits = h.3; tree = t.1 })
child_fits m level f width (op.Slice a high low) h t = record { fits = h.3; tree = t }
child_fits m level f width (op.Read array a) h t = record { fits = h.1; tree = t.1 }

at_two : (P : ℕ → Type 0) (a b k : ℕ) → P a → P b → (a ≡ k) ⊎ (b ≡ k) → P k
at_two P a b k h i c = elim c [ inl e ↦ subst P e h | inr e ↦ subst P e i ]

-- what holds of each child holds of a node that is one
pub at_child : (P : ℕ → Type 0) (o : Op) (k : ℕ) → EachChild P o → IsChild o k → P k
at_child P (op.Lit value) k h c = absurd c
at_child P (op.Input port) k h c = absurd c
at_child P (op.Wire wire) k h c = absurd c
at_child P (op.Reg reg) k h c = absurd c
at_child P (op.Not a) k h c = subst P c h
at_child P (op.And a b) k h c = at_two P a.0 b.0 k h.0 h.1 c
at_child P (op.Or a b) k h c = at_two P a.0 b.0 k h.0 h.1 c
at_child P (op.Xor a b) k h c = at_two P a.0 b.0 k h.0 h.1 c
at_child P (op.Add a b) k h c = at_two P a.0 b.0 k h.0 h.1 c
at_child P (op.Sub a b) k h c = at_two P a.0 b.0 k h.0 h.1 c
at_child P (op.Eq a b) k h c = at_two P a.0 b.0 k h.0 h.1 c
at_child P (op.Ltu a b) k h c = at_two P a.0 b.0 k h.0 h.1 c
at_child P (op.Mux i a b) k h c = elim c [ inl e ↦ subst P e h.0 | inr d ↦ at_two P a.0 b.0 k h.1 h.2 d ]
at_child P (op.Cat a b) k h c = at_two P a.0 b.0 k h.0 h.1 c
at_child P (op.Slice a high low) k h c = subst P c h
at_child P (op.Read array a) k h c = subst P c h

net_reached : (m : ModuleValue) (pool : PoolValue) (net : Net) (k : ℕ) → FitsIn m pool net → net.id.0 ≡ k → ReachedFits m pool.nodes k
net_reached m pool net k h e = subst (λ (j : ℕ). ReachedFits m pool.nodes j) e (record {
  live = h.is.live;
  fits = h.is.fits;
  tree = tree_fits_at_top m net.level (tree_of pool.nodes net.id.0) h.tree;
})

pub driver_fits : (m : ModuleValue) (pool : PoolValue) → DriversFit m pool → (k : ℕ) → Drives m k → ReachedFits m pool.nodes k
driver_fits m pool h k (OfWire w net l is e) = net_reached m pool net k (h.wires w net l is).fits e
driver_fits m pool h k (OfReg r net l is e) = net_reached m pool net k (h.regs r net l is).fits e
driver_fits m pool h k (OfEnable a w l is e) = net_reached m pool w.enable k (h.arrays a w l is).enable e
driver_fits m pool h k (OfAddr a w l is e) = net_reached m pool w.addr k (h.arrays a w l is).addr e
driver_fits m pool h k (OfValue a w l is e) = net_reached m pool w.value k (h.arrays a w l is).value e
driver_fits m pool h k (OfPort p net l is e) = net_reached m pool net k (h.outs p net l is).fits e

child_reached : (m : ModuleValue) (nodes : List Node) → IsPool nodes → (j k : ℕ) → ReachedFits m nodes j → IsChild (node_at nodes j).op k → ReachedFits m nodes k
child_reached m nodes pool j k h c =
    let node = node_at nodes j in
    let level = top_of m.wires (tree_of nodes j) in
    let below : (k < j) × ((node_at nodes k).level ≤ node.level) =
    at_child (λ i. (i < j) × ((node_at nodes i).level ≤ node.level)) node.op k (pool.children j h.live) c in
    let child : ChildFits m level (tree_of nodes k) =
    at_child (λ i. ChildFits m level (tree_of nodes i)) node.op k
    (child_fits m level (tree_of nodes) node.width node.op
    (subst (λ (t : Tree). Fits t) (tree-here nodes j pool h.live) h.fits)
    (subst (λ (t : Tree). TreeFits m level t) (tree-here nodes j pool h.live) h.tree)) c in
    record {
      live = omega (arith, h.live, below.0);
      fits = child.fits;
      tree = tree_fits_at_top m level (tree_of nodes k) child.tree;
    }

pub reached_fits : (m : ModuleValue) (pool : PoolValue) → IsPool pool.nodes → DriversFit m pool → (k : ℕ) → Reached m pool.nodes k → ReachedFits m pool.nodes k
reached_fits m pool is h k (Driver d) = driver_fits m pool h k d
reached_fits m pool is h k (Child j r c) = child_reached m pool.nodes is j k (reached_fits m pool is h j r) c
