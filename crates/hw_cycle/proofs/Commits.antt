-- Outputs and next numbers are those of the module's cycle.
use Rattle.std.proofs.Common.{◌≡◌, ℕ, ◌^◌, ◌<◌, ◌≤◌, Bool, true, false, cond, eqb, List, length, get_or, set, Option, None, Some, refl, ap, sym, subst, arith, length-set, inl, inr, get_or-set_same, get_or-set_other}
use Rattle.std.proofs.lemmas.Bool.{cases_eq, cases_lt}
use Rattle.std.proofs.lemmas.List.{get_or_past}
use Rattle.std.proofs.lemmas.Nat.{pow_pos}
use Rattle.core_words.specs.Values.{choose}
use Rattle.hw_pool.specs.declared.node.Node.{Node}
use Rattle.hw_pool.specs.Nodes.{PoolValue, IsPool}
use Rattle.hw_pool.specs.Trees.{tree_of}
use Rattle.hw_pool.specs.Meaning.{value}
use Rattle.hw_expr.specs.declared.net.Net.{Net}
use Rattle.hw_module.specs.declared.rows.ArrayWrite.{ArrayWrite}
use Rattle.hw_module.specs.Rows.{ModuleValue, IsModule, IsReset, reg_at, array_at, out_at}
use Rattle.hw_module.specs.Fits.{FitsIn}
use Rattle.hw_module.specs.Checked.{IsChecked}
use Rattle.hw_module.specs.Cycle.{Held, driven_value, net_at, cycle_env, out_value, next_reg, next_cells, next_held}
use Rattle.hw_module.specs.Reached.{AreMarks}
use Rattle.hw_module.specs.Reached.Drives.{OfReg, OfEnable, OfAddr, OfValue, OfPort}
use Rattle.hw_cycle.specs.Levels.{AreHeld, IsLive, IsMarked, driven_by, node_value}
use Rattle.hw_cycle.specs.Commit.{AreSettled, next_in, written_in, CanWrite}
use Rattle.hw_cycle.proofs.Bounded.{tree_bound}

-- marked nodes with their values are drivers with theirs
pub settled : (m : ModuleValue) (nodes : List Node) (s : Held) (ins : ℕ → ℕ) (marks : List Bool) (values : List ℕ) → AreMarks m nodes marks
    → ((k : ℕ) → IsMarked marks k → get_or values k 0 ≡ node_value m nodes s ins marks k) → AreSettled m nodes s ins values
unfolding node_value
settled m nodes s ins marks values are done k drives = done k (are.drivers k drives)

module _ (m : ModuleValue) (pool : PoolValue) (is : IsPool pool.nodes) (checked : IsChecked m pool) (s : Held) (ins : ℕ → ℕ) where
  -- what a net that fits has
  net_bound : AreHeld m s ins → (net : Net) → FitsIn m pool net → net_at (cycle_env m pool.nodes s ins) pool.nodes net < 2 ^ net.width
  net_bound held net fits =
      subst (λ w. value (cycle_env m pool.nodes s ins) (tree_of pool.nodes net.id.0) < 2 ^ w) fits.is.width
      (tree_bound m pool is s ins checked held net.level (tree_of pool.nodes net.id.0) fits.is.fits fits.tree)

  -- the drivers are live
  pub out_live : (n : ℕ) → length pool.nodes ≤ n → (p : ℕ) → p < 30 → IsLive n (out_at m.outs p)
  out_live n room p h = live (out_at m.outs p) refl
    where
      live : (o : Option Net) → out_at m.outs p ≡ o → IsLive n o
      live None e = tt
      live (Some net) e = let l : net.id.0 < length pool.nodes = (checked.fits.outs p net h e).fits.is.live in omega arith

  pub reg_live : (n : ℕ) → length pool.nodes ≤ n → (r : ℕ) → r < length m.regs → IsLive n (reg_at m.regs r).next
  reg_live n room r h = live (reg_at m.regs r).next refl
    where
      live : (o : Option Net) → (reg_at m.regs r).next ≡ o → IsLive n o
      live None e = tt
      live (Some net) e = let l : net.id.0 < length pool.nodes = (checked.fits.regs r net h e).fits.is.live in omega arith

  module _ (values : List ℕ) (done : AreSettled m pool.nodes s ins values) where
    pub out_is : (p : ℕ) → p < 30 → driven_by values (out_at m.outs p) ≡ out_value m pool.nodes s ins p
    out_is p h = same (out_at m.outs p) refl
      where
        same : (o : Option Net) → out_at m.outs p ≡ o → driven_by values o ≡ driven_value (cycle_env m pool.nodes s ins) pool.nodes o
        same None e = refl
        same (Some net) e = done net.id.0 (OfPort p net h e refl)

    next_is : (r : ℕ) → r < length m.regs → driven_by values (reg_at m.regs r).next ≡ driven_value (cycle_env m pool.nodes s ins) pool.nodes (reg_at m.regs r).next
    next_is r h = same (reg_at m.regs r).next refl
      where
        same : (o : Option Net) → (reg_at m.regs r).next ≡ o → driven_by values o ≡ driven_value (cycle_env m pool.nodes s ins) pool.nodes o
        same None e = refl
        same (Some net) e = done net.id.0 (OfReg r net h e refl)

    reset_is : (start : Option ℕ) (a b : ℕ) → a ≡ b → next_in (ins 1) start a ≡ next_reg m pool.nodes s ins start b
    reset_is None a b e = e
    reset_is (Some start) a b e = ap (choose (ins 1) start) e

    pub reg_is : (r : ℕ) → r < length m.regs → next_in (ins 1) (reg_at m.regs r).reset (driven_by values (reg_at m.regs r).next) ≡ (next_held m pool.nodes s ins).regs r
    unfolding next_held
    reg_is r h = reset_is (reg_at m.regs r).reset _ _ (next_is r h)

    pub cell_is : (a : ℕ) → a < length m.arrays → written_in values (array_at m.arrays a).write (s.cells a) ≡ (next_held m pool.nodes s ins).cells a
    unfolding next_held
    cell_is a h = same (array_at m.arrays a).write refl
      where
        same : (o : Option ArrayWrite) → (array_at m.arrays a).write ≡ o → written_in values o (s.cells a) ≡ next_cells m pool.nodes s ins o (s.cells a)
        same None e = refl
        same (Some w) e =
            let enable = done w.enable.id.0 (OfEnable a w h e refl) in
            let addr = done w.addr.id.0 (OfAddr a w h e refl) in
            let stored = done w.value.id.0 (OfValue a w h e refl) in
            λ i. cond (eqb (enable i) 1) (set (s.cells a) (addr i) (stored i)) (s.cells a)

    pub can_write : AreHeld m s ins → length pool.nodes ≤ length values → ((a : ℕ) → a < length m.arrays → length (s.cells a) ≡ 2 ^ (array_at m.arrays a).bits)
        → (a : ℕ) → a < length m.arrays → CanWrite values (array_at m.arrays a).write (s.cells a)
    can_write held room counts a h = can (array_at m.arrays a).write refl
      where
        can : (o : Option ArrayWrite) → (array_at m.arrays a).write ≡ o → CanWrite values o (s.cells a)
        can None e = tt
        can (Some w) e =
            let drives = checked.fits.arrays a w h e in
            let enable : w.enable.id.0 < length pool.nodes = drives.enable.is.live in
            let addr : w.addr.id.0 < length pool.nodes = drives.addr.is.live in
            let stored : w.value.id.0 < length pool.nodes = drives.value.is.live in
            let bound : net_at (cycle_env m pool.nodes s ins) pool.nodes w.addr < 2 ^ w.addr.width = net_bound held w.addr drives.addr in
            let inside : net_at (cycle_env m pool.nodes s ins) pool.nodes w.addr < length (s.cells a) =
            subst (λ n. net_at (cycle_env m pool.nodes s ins) pool.nodes w.addr < n) (sym (counts a h))
            (subst (λ b. net_at (cycle_env m pool.nodes s ins) pool.nodes w.addr < 2 ^ b) drives.bits bound) in (
              omega arith,
              omega arith,
              omega arith,
              subst (λ n. n < length (s.cells a)) (sym (done w.addr.id.0 (OfAddr a w h e refl))) inside,
            )

  -- the next numbers are within their widths
  below_choose : (c a b n : ℕ) → a < n → b < n → choose c a b < n
  below_choose c a b n h k = pick (eqb c 1)
    where
      pick : (t : Bool) → cond t a b < n
      pick true = h
      pick false = k

  pub next_bound : IsModule m → AreHeld m s ins → (r : ℕ) → r < length m.regs → (next_held m pool.nodes s ins).regs r < 2 ^ (reg_at m.regs r).width
  unfolding next_held
  next_bound module_is held r h =
      with_reset (reg_at m.regs r).reset (module_is.resets r h) (driven (reg_at m.regs r).next refl)
    where
      driven : (o : Option Net) → (reg_at m.regs r).next ≡ o → driven_value (cycle_env m pool.nodes s ins) pool.nodes o < 2 ^ (reg_at m.regs r).width
      driven None e = pow_pos (reg_at m.regs r).width
      driven (Some net) e =
          let drives = checked.fits.regs r net h e in
          subst (λ w. net_at (cycle_env m pool.nodes s ins) pool.nodes net < 2 ^ w) drives.width (net_bound held net drives.fits)

      with_reset : (start : Option ℕ) → IsReset (reg_at m.regs r).width start → driven_value (cycle_env m pool.nodes s ins) pool.nodes (reg_at m.regs r).next < 2 ^ (reg_at m.regs r).width
          → next_reg m pool.nodes s ins start (driven_value (cycle_env m pool.nodes s ins) pool.nodes (reg_at m.regs r).next) < 2 ^ (reg_at m.regs r).width
      with_reset None reset next = next
      with_reset (Some start) reset next = below_choose (ins 1) start _ (2 ^ (reg_at m.regs r).width) (reset start refl) next

  -- cells that are set
  set_bound : (old : List ℕ) (at v n : ℕ) → ((i : ℕ) → get_or old i 0 < n) → v < n → (i : ℕ) → get_or (set old at v) i 0 < n
  set_bound old at v n each h i = elim (cases_eq i at) [
    | inl same ↦ elim (cases_lt at (length old)) [
      | inl there ↦ subst (λ (j : ℕ). get_or (set old at v) j 0 < n) (sym same) (subst (λ (x : ℕ). x < n) (sym (get_or-set_same old at v 0 there)) h)
      | inr past ↦ subst (λ (x : ℕ). x < n) (sym (get_or_past (set old at v) i 0 (let e : length (set old at v) ≡ length old = length-set old at v in omega arith))) (let z : get_or old i 0 < n = each i in omega arith)
    ]
    | inr other ↦ subst (λ (x : ℕ). x < n) (sym (get_or-set_other old at i v 0 other)) (each i)
  ]

  pub cells_bound : AreHeld m s ins → (a i : ℕ) → a < length m.arrays → get_or ((next_held m pool.nodes s ins).cells a) i 0 < 2 ^ (array_at m.arrays a).width
  unfolding next_held
  cells_bound held a i h = written (array_at m.arrays a).write refl
    where
      pick : (t : Bool) (addr stored : ℕ) → stored < 2 ^ (array_at m.arrays a).width → get_or (cond t (set (s.cells a) addr stored) (s.cells a)) i 0 < 2 ^ (array_at m.arrays a).width
      pick true addr stored bound = set_bound (s.cells a) addr stored (2 ^ (array_at m.arrays a).width) (λ j. held.cells a j h) bound i
      pick false addr stored bound = held.cells a i h

      written : (o : Option ArrayWrite) → (array_at m.arrays a).write ≡ o → get_or (next_cells m pool.nodes s ins o (s.cells a)) i 0 < 2 ^ (array_at m.arrays a).width
      written None e = held.cells a i h
      written (Some w) e =
          let drives = checked.fits.arrays a w h e in
          let addr = net_at (cycle_env m pool.nodes s ins) pool.nodes w.addr in
          let stored = net_at (cycle_env m pool.nodes s ins) pool.nodes w.value in
          let bound : stored < 2 ^ (array_at m.arrays a).width = subst (λ n. stored < 2 ^ n) drives.width (net_bound held w.value drives.value) in
          pick (eqb (net_at (cycle_env m pool.nodes s ins) pool.nodes w.enable) 1) addr stored bound

  -- arrays keep as many cells
  pub cells_many : (a : ℕ) → length ((next_held m pool.nodes s ins).cells a) ≡ length (s.cells a)
  unfolding next_held
  cells_many a = written (array_at m.arrays a).write
    where
      pick : (t : Bool) (addr stored : ℕ) → length (cond t (set (s.cells a) addr stored) (s.cells a)) ≡ length (s.cells a)
      pick true addr stored = length-set (s.cells a) addr stored
      pick false addr stored = refl

      written : (o : Option ArrayWrite) → length (next_cells m pool.nodes s ins o (s.cells a)) ≡ length (s.cells a)
      written None = refl
      written (Some w) = pick (eqb (net_at (cycle_env m pool.nodes s ins) pool.nodes w.enable) 1) _ _

-- an array with its next cells is as long, and its cells are within its width
pub held_after : (m : ModuleValue) (pool : PoolValue) (is : IsPool pool.nodes) (checked : IsChecked m pool) (old new : Held) (ins : ℕ → ℕ) → IsModule m → AreHeld m old ins
    → ((r : ℕ) → r < length m.regs → new.regs r ≡ (next_held m pool.nodes old ins).regs r)
    → ((a : ℕ) → a < length m.arrays → new.cells a ≡ (next_held m pool.nodes old ins).cells a) → AreHeld m new ins
held_after m pool is checked old new ins module_is held regs cells = record {
  inputs = held.inputs;
  regs = λ r h. subst (λ (v : ℕ). v < 2 ^ (reg_at m.regs r).width) (sym (regs r h)) (next_bound m pool is checked old ins module_is held r h);
  cells = λ a i h. subst (λ (l : List ℕ). get_or l i 0 < 2 ^ (array_at m.arrays a).width) (sym (cells a h)) (cells_bound m pool is checked old ins held a i h);
}
