-- Nets that fit, while nodes are added and the module grows.
use Rattle.std.proofs.Common.{◌≡◌, ◌∙◌, ℕ, ◌≤◌, refl, arith, sym, subst}
use Rattle.hw_pool.specs.Nodes.{PoolValue}
use Rattle.hw_pool.specs.Trees.{Tree, tree_of, width_of}
use Rattle.hw_pool.specs.Trees.Tree.{Lit, Input, Wire, Reg, Not, And, Or, Xor, Add, Sub, Eq, Ltu, Mux, Cat, Slice, Read}
use Rattle.hw_pool.specs.Frame.{Adds}
use Rattle.hw_expr.specs.declared.net.Net.{Net}
use Rattle.hw_expr.specs.Nets.{IsNet}
use Rattle.hw_expr.proofs.Nets.{still_net}
use Rattle.hw_module.specs.Rows.{ModuleValue}
use Rattle.hw_module.specs.Frame.{Grows}
use Rattle.hw_module.specs.Fits.{WireFits, RegFits, ReadFits, TreeFits, FitsIn}

-- a tree fits a module that has grown, at any level above
module _ (old new : ModuleValue) (n low high : ℕ) (grows : Grows old new n) (le : low ≤ high) where
  pub wire_more : (width wire : ℕ) → WireFits old low width wire → WireFits new high width wire
  wire_more width wire h = record {
    there = omega (arith, h.there, grows.more_wires);
    width = (grows.wires wire h.there).width ∙ h.width;
    level = let e = (grows.wires wire h.there).level in omega (arith, h.level);
  }

  pub reg_more : (width reg : ℕ) → RegFits old width reg → RegFits new width reg
  reg_more width reg h = record {
    there = omega (arith, h.there, grows.more_regs);
    width = (grows.regs reg h.there).width ∙ h.width;
  }

  pub read_more : (width array wide : ℕ) → ReadFits old width array wide → ReadFits new width array wide
  read_more width array wide h = record {
    there = omega (arith, h.there, grows.more_arrays);
    width = (grows.arrays array h.there).width ∙ h.width;
    bits = (grows.arrays array h.there).bits ∙ h.bits;
  }

  pub tree_more : (t : Tree) → TreeFits old low t → TreeFits new high t
  tree_more (Lit width value) h = tt
  tree_more (Input width port) h = h
  tree_more (Wire width wire) h = wire_more width wire h
  tree_more (Reg width reg) h = reg_more width reg h
  tree_more (Not width a) h = tree_more a h
  tree_more (And width a b) h = (tree_more a h.0, tree_more b h.1)
  tree_more (Or width a b) h = (tree_more a h.0, tree_more b h.1)
  tree_more (Xor width a b) h = (tree_more a h.0, tree_more b h.1)
  tree_more (Add width a b) h = (tree_more a h.0, tree_more b h.1)
  tree_more (Sub width a b) h = (tree_more a h.0, tree_more b h.1)
  tree_more (Eq width a b) h = (tree_more a h.0, tree_more b h.1)
  tree_more (Ltu width a b) h = (tree_more a h.0, tree_more b h.1)
  tree_more (Mux width c a b) h = (tree_more c h.0, tree_more a h.1, tree_more b h.2)
  tree_more (Cat width a b) h = (tree_more a h.0, tree_more b h.1)
  tree_more (Slice width a high low) h = tree_more a h
  tree_more (Read width array a) h = (read_more width array (width_of a) h.0, tree_more a h.1)

-- a net that fits a module fits it when it has grown
pub grown_fits : (old new : ModuleValue) (n : ℕ) (pool : PoolValue) (net : Net) → Grows old new n → FitsIn old pool net → FitsIn new pool net
grown_fits old new n pool net grows h = record {
  is = h.is;
  tree = tree_more old new n net.level net.level grows (omega arith) (tree_of pool.nodes net.id.0) h.tree;
}

-- a net that fits still does when nodes are added
pub added_fits : (m : ModuleValue) (old new : PoolValue) (n : ℕ) (net : Net) → Adds old new n → FitsIn m old net → FitsIn m new net
added_fits m old new n net adds h = record {
  is = still_net old new n net adds h.is;
  tree = subst (TreeFits m net.level) (sym (adds.trees net.id.0 h.is.live)) h.tree;
}

-- a net whose tree is one part that fits
pub leaf_fits : (m : ModuleValue) (pool : PoolValue) (net : Net) (t : Tree) → IsNet pool net → tree_of pool.nodes net.id.0 ≡ t → TreeFits m net.level t → FitsIn m pool net
leaf_fits m pool net t is tree fits = record {
  is = is;
  tree = subst (TreeFits m net.level) (sym tree) fits;
}

-- a module stays as it is
pub grows_same : (m : ModuleValue) → Grows m m 0
grows_same m = record {
  room = omega arith;
  fill = omega arith;
  more_wires = omega arith;
  more_regs = omega arith;
  more_arrays = omega arith;
  wires = λ k h. record { owner = refl; width = refl; level = refl; driver = λ net e. e };
  regs = λ k h. record { owner = refl; width = refl; reset = refl; next = λ net e. e };
  arrays = λ k h. record { owner = refl; width = refl; bits = refl; write = λ w e. e };
  outs = λ k net e. e;
}
