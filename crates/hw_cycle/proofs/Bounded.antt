-- The values of a cycle are within their widths.
use Rattle.std.proofs.Common.{◌≡◌, ◌∙◌, ℕ, zero, suc, ◌^◌, ◌<◌, ◌≤◌, length, Option, None, Some, refl, ap, sym, subst, arith}
use Rattle.hw_pool.specs.Nodes.{PoolValue, IsPool}
use Rattle.hw_pool.specs.Trees.{Tree, tree_of, width_of}
use Rattle.hw_pool.specs.Trees.Tree.{Lit, Input, Wire, Reg, Not, And, Or, Xor, Add, Sub, Eq, Ltu, Mux, Cat, Slice, Read}
use Rattle.hw_pool.specs.Meaning.{value, Fits, Within}
use Rattle.hw_pool.proofs.Bounds.{value-fits}
use Rattle.hw_expr.specs.declared.net.Net.{Net}
use Rattle.hw_module.specs.Rows.{ModuleValue, wire_at}
use Rattle.hw_module.specs.Fits.{TreeFits}
use Rattle.hw_module.specs.Checked.{IsChecked}
use Rattle.hw_module.specs.Cycle.{Held, env_of, driven_value, wire_value, cycle_env}
use Rattle.hw_cycle.specs.Levels.{AreHeld}
use Rattle.hw_reach.proofs.Solves.{wire_solves}

to_width : (n v w : ℕ) → v ≡ w → n < 2 ^ v → n < 2 ^ w
to_width n v w e h = subst (λ u. n < 2 ^ u) e h

-- a tree that fits takes numbers that are within their widths, where its forward wires are
module _ (m : ModuleValue) (s : Held) (ins wires : ℕ → ℕ) (held : AreHeld m s ins) (level : ℕ)
    (below : (w : ℕ) → w < length m.wires → (wire_at m.wires w).level ≤ level → wires w < 2 ^ (wire_at m.wires w).width) where
  pub within : (t : Tree) → TreeFits m level t → Within (env_of s ins wires) t
  within (Lit width v) h = tt
  within (Input width port) h = to_width _ _ width h.width (held.inputs port h.readable.most h.readable.input)
  within (Wire width wire) h = to_width _ _ width h.width (below wire h.there h.level)
  within (Reg width reg) h = to_width _ _ width h.width (held.regs reg h.there)
  within (Not width a) h = within a h
  within (And width a b) h = (within a h.0, within b h.1)
  within (Or width a b) h = (within a h.0, within b h.1)
  within (Xor width a b) h = (within a h.0, within b h.1)
  within (Add width a b) h = (within a h.0, within b h.1)
  within (Sub width a b) h = (within a h.0, within b h.1)
  within (Eq width a b) h = (within a h.0, within b h.1)
  within (Ltu width a b) h = (within a h.0, within b h.1)
  within (Mux width c a b) h = (within c h.0, within a h.1, within b h.2)
  within (Cat width a b) h = (within a h.0, within b h.1)
  within (Slice width a high low) h = within a h
  within (Read width array a) h =
      (to_width _ _ width h.0.width (held.cells array (value (env_of s ins wires) a) h.0.there), within a h.1)

module _ (m : ModuleValue) (pool : PoolValue) (is : IsPool pool.nodes) (s : Held) (ins : ℕ → ℕ) (checked : IsChecked m pool) (held : AreHeld m s ins) where
  -- a forward wire is within its width where those of lower levels are
  wire_next : (n w : ℕ)
      → ((v : ℕ) → v < length m.wires → (wire_at m.wires v).level < n → wire_value m pool.nodes s ins v < 2 ^ (wire_at m.wires v).width)
      → w < length m.wires → (wire_at m.wires w).level ≤ n → (driver : Option Net) → (wire_at m.wires w).driver ≡ driver
      → wire_value m pool.nodes s ins w < 2 ^ (wire_at m.wires w).width
  wire_next n w lower h l None e = absurd (checked.driven.wires w h e)
  wire_next n w lower h l (Some net) e =
      let drives = checked.fits.wires w net h e in
      let t = tree_of pool.nodes net.id.0 in
      let env = cycle_env m pool.nodes s ins in
      let less : net.level < (wire_at m.wires w).level = drives.below in
      let inside : Within env t =
      within m s ins (wire_value m pool.nodes s ins) held net.level (λ v there most. lower v there (omega arith)) t drives.fits.tree in
      let fits : value env t < 2 ^ width_of t = value-fits env t drives.fits.is.fits inside in
      subst (λ n. n < 2 ^ (wire_at m.wires w).width) (sym (wire_solves m pool is checked.fits s ins w h ∙ ap (driven_value env pool.nodes) e))
      (to_width (value env t) (width_of t) (wire_at m.wires w).width (drives.fits.is.width ∙ drives.width) fits)

  wires_below : (n w : ℕ) → w < length m.wires → (wire_at m.wires w).level < n → wire_value m pool.nodes s ins w < 2 ^ (wire_at m.wires w).width
  wires_below zero w h l = absurd (omega arith)
  wires_below (suc n) w h l = wire_next n w (wires_below n) h (omega arith) (wire_at m.wires w).driver refl

  -- each forward wire is within its width
  pub wire_bound : (w : ℕ) → w < length m.wires → wire_value m pool.nodes s ins w < 2 ^ (wire_at m.wires w).width
  wire_bound w h = wires_below (suc (wire_at m.wires w).level) w h (omega arith)

  -- a tree that fits has a value within its width
  pub tree_bound : (level : ℕ) (t : Tree) → Fits t → TreeFits m level t → value (cycle_env m pool.nodes s ins) t < 2 ^ width_of t
  tree_bound level t fits tree =
      value-fits (cycle_env m pool.nodes s ins) t fits
      (within m s ins (wire_value m pool.nodes s ins) held level (λ w there most. wire_bound w there) t tree)
