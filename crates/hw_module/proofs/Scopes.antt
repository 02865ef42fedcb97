-- Nets that fit a module are those in its scope.
use Rattle.std.proofs.Common.{◌≡◌, ◌∙◌, ℕ, ◌≤◌, length, refl, arith, ap, sym, subst, Bool, true, false, cond, ltb, leb, ◌&&◌, Option, None, Some}
use Rattle.std.proofs.lemmas.Bool.{lt-ltb, le-leb, ltb-true, leb-true, cond-true, and_parts, and_from}
use Rattle.core_ports.specs.Ports.{is_input}
use Rattle.core_ports.specs.Ports as ports
use Rattle.hw_pool.specs.Nodes.{PoolValue}
use Rattle.hw_pool.specs.Trees.{Tree, tree_of, width_of}
use Rattle.hw_pool.specs.Trees.Tree.{Lit, Input, Wire, Reg, Not, And, Or, Xor, Add, Sub, Eq, Ltu, Mux, Cat, Slice, Read}
use Rattle.hw_pool.specs.Scope.{IsWireOf, IsArrayOf, Takes}
use Rattle.hw_expr.specs.declared.net.Net.{Net}
use Rattle.hw_expr.specs.Nets.{InScope, IsNet}
use Rattle.hw_module.specs.Ports.{port_at}
use Rattle.hw_module.specs.Rows.{ModuleValue, wire_at, reg_at, array_at}
use Rattle.hw_module.specs.Frame.{Grows}
use Rattle.hw_module.specs.Fits.{InputFits, TreeFits, FitsIn}
use Rattle.hw_module.proofs.Fits.{leaf_fits, tree_more}
use Rattle.hw_module.specs.Scope.{input_width, scope_of}

some-is : {A : Type 0} {a b : A} → Some a ≡ Some b → a ≡ b
some-is e = cc

-- a test holds where what it guards is there
guarded : {A : Type 0} (b : Bool) (x y : A) → cond b (Some x) None ≡ Some y → (b ≡ true) × (x ≡ y)
guarded true x y e = (refl, some-is e)
guarded false x y e = absurd (let n : ◌≡◌ {A = Option _} None (Some y) = e in cc)

wire-guarded : (b : Bool) (level width : ℕ) (w : ℕ × ℕ) → IsWireOf level width (cond b (Some w) None) → (b ≡ true) × (w.0 ≡ width) × (w.1 ≤ level)
wire-guarded true level width w h = (refl, h.0, h.1)
wire-guarded false level width w h = absurd h

array-guarded : (b : Bool) (width bits : ℕ) (a : ℕ × ℕ) → IsArrayOf width bits (cond b (Some a) None) → (b ≡ true) × (a.0 ≡ width) × (a.1 ≡ bits)
array-guarded true width bits a h = (refl, h.0, h.1)
array-guarded false width bits a h = absurd h

module _ (m : ModuleValue) (level : ℕ) where
  input_to : (width port : ℕ) → InputFits width port → input_width port ≡ Some width
  input_to width port h =
      cond-true _ (Some (ports.width_of (port_at port))) None
      (and_from _ _ (le-leb 1 port h.readable.least) (and_from _ _ (lt-ltb port 30 h.readable.most) h.readable.input))
      ∙ ap Some h.width

  input_from : (width port : ℕ) → input_width port ≡ Some width → InputFits width port
  input_from width port e =
      let g = guarded (leb 1 port && (ltb port 30 && is_input (port_at port))) (ports.width_of (port_at port)) width e in
      let a = and_parts _ _ g.0 in
      let b = and_parts _ _ a.1 in
      record {
        readable = record { least = leb-true 1 port a.0; most = ltb-true port 30 b.0; input = b.1 };
        width = g.1;
      }

  pub tree_to : (t : Tree) → TreeFits m level t → Takes (scope_of m) level t
  unfolding scope_of
  tree_to (Lit width value) h = tt
  tree_to (Input width port) h = input_to width port h
  tree_to (Wire width wire) h = subst (λ o. IsWireOf level width o) (sym (cond-true (ltb wire (length m.wires)) _ None (lt-ltb wire _ h.there))) (h.width, h.level)
  tree_to (Reg width reg) h = cond-true (ltb reg (length m.regs)) _ None (lt-ltb reg _ h.there) ∙ ap Some h.width
  tree_to (Not width a) h = tree_to a h
  tree_to (And width a b) h = (tree_to a h.0, tree_to b h.1)
  tree_to (Or width a b) h = (tree_to a h.0, tree_to b h.1)
  tree_to (Xor width a b) h = (tree_to a h.0, tree_to b h.1)
  tree_to (Add width a b) h = (tree_to a h.0, tree_to b h.1)
  tree_to (Sub width a b) h = (tree_to a h.0, tree_to b h.1)
  tree_to (Eq width a b) h = (tree_to a h.0, tree_to b h.1)
  tree_to (Ltu width a b) h = (tree_to a h.0, tree_to b h.1)
  tree_to (Mux width c a b) h = (tree_to c h.0, tree_to a h.1, tree_to b h.2)
  tree_to (Cat width a b) h = (tree_to a h.0, tree_to b h.1)
  tree_to (Slice width a high low) h = tree_to a h
  tree_to (Read width array a) h = (
    subst (λ o. IsArrayOf width (width_of a) o) (sym (cond-true (ltb array (length m.arrays)) _ None (lt-ltb array _ h.0.there))) (h.0.width, h.0.bits),
    tree_to a h.1,
  )

  pub tree_from : (t : Tree) → Takes (scope_of m) level t → TreeFits m level t
  unfolding scope_of
  tree_from (Lit width value) h = tt
  tree_from (Input width port) h = input_from width port h
  tree_from (Wire width wire) h =
      let g = wire-guarded (ltb wire (length m.wires)) level width ((wire_at m.wires wire).width, (wire_at m.wires wire).level) h in
      record { there = ltb-true wire _ g.0; width = g.1; level = g.2 }
  tree_from (Reg width reg) h =
      let g = guarded (ltb reg (length m.regs)) (reg_at m.regs reg).width width h in
      record { there = ltb-true reg _ g.0; width = g.1 }
  tree_from (Not width a) h = tree_from a h
  tree_from (And width a b) h = (tree_from a h.0, tree_from b h.1)
  tree_from (Or width a b) h = (tree_from a h.0, tree_from b h.1)
  tree_from (Xor width a b) h = (tree_from a h.0, tree_from b h.1)
  tree_from (Add width a b) h = (tree_from a h.0, tree_from b h.1)
  tree_from (Sub width a b) h = (tree_from a h.0, tree_from b h.1)
  tree_from (Eq width a b) h = (tree_from a h.0, tree_from b h.1)
  tree_from (Ltu width a b) h = (tree_from a h.0, tree_from b h.1)
  tree_from (Mux width c a b) h = (tree_from c h.0, tree_from a h.1, tree_from b h.2)
  tree_from (Cat width a b) h = (tree_from a h.0, tree_from b h.1)
  tree_from (Slice width a high low) h = tree_from a h
  tree_from (Read width array a) h = (
    (let g = array-guarded (ltb array (length m.arrays)) width (width_of a) ((array_at m.arrays array).width, (array_at m.arrays array).bits) h.0 in
        record { there = ltb-true array _ g.0; width = g.1; bits = g.2 }),
    tree_from a h.1,
  )

pub scope_from : (m : ModuleValue) (pool : PoolValue) (net : Net) → FitsIn m pool net → InScope (scope_of m) pool net
scope_from m pool net h = record { is = h.is; takes = tree_to m net.level (tree_of pool.nodes net.id.0) h.tree }

-- a net whose tree is one part that fits
pub leaf_scope : (m : ModuleValue) (pool : PoolValue) (net : Net) (t : Tree) → IsNet pool net → tree_of pool.nodes net.id.0 ≡ t → TreeFits m net.level t
    → InScope (scope_of m) pool net
leaf_scope m pool net t is tree fits = scope_from m pool net (leaf_fits m pool net t is tree fits)

pub fits_of : (m : ModuleValue) (pool : PoolValue) (net : Net) → InScope (scope_of m) pool net → FitsIn m pool net
fits_of m pool net h = record { is = h.is; tree = tree_from m net.level (tree_of pool.nodes net.id.0) h.takes }

-- what is in the scope of a module is in it when the module has grown
pub kept_grown : (old new : ModuleValue) (n : ℕ) (pool : PoolValue) (net : Net) → Grows old new n → InScope (scope_of old) pool net → InScope (scope_of new) pool net
kept_grown old new n pool net grows h = record {
  is = h.is;
  takes = tree_to new net.level (tree_of pool.nodes net.id.0)
      (tree_more old new n net.level net.level grows (omega arith) (tree_of pool.nodes net.id.0) (tree_from old net.level (tree_of pool.nodes net.id.0) h.takes));
}
