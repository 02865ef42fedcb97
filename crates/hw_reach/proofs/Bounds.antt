-- The values of a cycle are within their widths, and what a module holds stays within them, where what it held before and
-- the inputs are.
use Rattle.std.proofs.Common.{◌≡◌, ◌∙◌, ℕ, zero, suc, ◌^◌, ◌<◌, Bool, true, false, cond, eqb, List, length, get_or, set, All, Option, None, Some, refl, sym, subst, inl, inr, length-set}
use Rattle.std.proofs.lemmas.Bool.{cases_lt}
use Rattle.std.proofs.lemmas.List.{get_or_past}
use Rattle.std.proofs.lemmas.List.Elements.{All-get_or, All-set}
use Rattle.std.proofs.lemmas.Nat.{pow_pos}
use Rattle.core_words.specs.Values.{choose}
use Rattle.hw_pool.specs.Nodes.{PoolValue}
use Rattle.hw_pool.specs.Trees.{Tree, tree_of, width_of}
use Rattle.hw_pool.specs.Trees.Tree.{Lit, Input, Wire, Reg, Not, And, Or, Xor, Add, Sub, Eq, Ltu, Mux, Cat, Slice, Read}
use Rattle.hw_pool.specs.Meaning.{value, Within}
use Rattle.hw_pool.proofs.Bounds.{value-fits}
use Rattle.hw_expr.specs.declared.net.Net.{Net}
use Rattle.hw_module.specs.declared.rows.ArrayWrite.{ArrayWrite}
use Rattle.hw_module.specs.Rows.{ModuleValue, IsModule, IsReset, wire_at, reg_at, array_at}
use Rattle.hw_module.specs.Fits.{TreeFits, FitsIn}
use Rattle.hw_module.specs.Checked.{DriversFit}
use Rattle.hw_module.specs.Cycle.{Held, IsHeld, AreInputs, env_of, net_at, driven_value, wire_to, wire_value, cycle_env, WiresWithin, next_reg, next_cells, next_held, held_at}

to_width : (n v w : ℕ) → v ≡ w → n < 2 ^ v → n < 2 ^ w
to_width n v w e h = subst (λ u. n < 2 ^ u) e h

-- a number past the end of a list is 0
below_any : (l : List ℕ) (n i : ℕ) → 0 < n → All (λ c. c < n) l → get_or l i 0 < n
below_any l n i p h = elim (cases_lt i (length l)) [
  | inl there ↦ All-get_or (λ c. c < n) l i 0 there h
  | inr past ↦ subst (λ (v : ℕ). v < n) (sym (get_or_past l i 0 past)) p
]

below_choose : (c a b n : ℕ) → a < n → b < n → choose c a b < n
below_choose c a b n h k = pick (eqb c 1)
  where
    pick : (t : Bool) → cond t a b < n
    pick true = h
    pick false = k

module _ (m : ModuleValue) (s : Held) (ins : ℕ → ℕ) (held : IsHeld m s) (inputs : AreInputs ins) where
  -- a tree that fits takes numbers within their widths
  pub within : (wires : ℕ → ℕ) → WiresWithin m wires → (level : ℕ) (t : Tree) → TreeFits m level t → Within (env_of s ins wires) t
  within wires bound level (Lit width value) h = tt
  within wires bound level (Input width port) h = to_width _ _ width h.width (inputs port h.readable.most h.readable.input)
  within wires bound level (Wire width wire) h = to_width _ _ width h.width (bound wire h.there)
  within wires bound level (Reg width reg) h = to_width _ _ width h.width (held.regs reg h.there)
  within wires bound level (Not width a) h = within wires bound level a h
  within wires bound level (And width a b) h = (within wires bound level a h.0, within wires bound level b h.1)
  within wires bound level (Or width a b) h = (within wires bound level a h.0, within wires bound level b h.1)
  within wires bound level (Xor width a b) h = (within wires bound level a h.0, within wires bound level b h.1)
  within wires bound level (Add width a b) h = (within wires bound level a h.0, within wires bound level b h.1)
  within wires bound level (Sub width a b) h = (within wires bound level a h.0, within wires bound level b h.1)
  within wires bound level (Eq width a b) h = (within wires bound level a h.0, within wires bound level b h.1)
  within wires bound level (Ltu width a b) h = (within wires bound level a h.0, within wires bound level b h.1)
  within wires bound level (Mux width c a b) h = (within wires bound level c h.0, within wires bound level a h.1, within wires bound level b h.2)
  within wires bound level (Cat width a b) h = (within wires bound level a h.0, within wires bound level b h.1)
  within wires bound level (Slice width a high low) h = within wires bound level a h
  within wires bound level (Read width array a) h = (
    to_width _ _ width h.0.width
        (below_any (s.cells array) (2 ^ (array_at m.arrays array).width) (value (env_of s ins wires) a) (pow_pos (array_at m.arrays array).width) (held.cells array h.0.there)),
    within wires bound level a h.1,
  )

  module _ (pool : PoolValue) (fits : DriversFit m pool) where
    -- a net that fits has a value within its width
    net_bound : (wires : ℕ → ℕ) → WiresWithin m wires → (net : Net) → FitsIn m pool net → net_at (env_of s ins wires) pool.nodes net < 2 ^ net.width
    net_bound wires bound net is =
        to_width _ (width_of (tree_of pool.nodes net.id.0)) net.width is.is.width
        (value-fits (env_of s ins wires) (tree_of pool.nodes net.id.0) is.is.fits (within wires bound net.level (tree_of pool.nodes net.id.0) is.tree))

    wires_next : (wires : ℕ → ℕ) → WiresWithin m wires → (w : ℕ) → w < length m.wires → (o : Option Net) → (wire_at m.wires w).driver ≡ o
        → driven_value (env_of s ins wires) pool.nodes o < 2 ^ (wire_at m.wires w).width
    wires_next wires bound w l None e = pow_pos (wire_at m.wires w).width
    wires_next wires bound w l (Some net) e =
        let drives = fits.wires w net l e in
        to_width _ net.width (wire_at m.wires w).width drives.width (net_bound wires bound net drives.fits)

    wires_to : (depth : ℕ) → WiresWithin m (wire_to m pool.nodes s ins depth)
    unfolding wire_to
    wires_to zero w l = pow_pos (wire_at m.wires w).width
    wires_to (suc depth) w l = wires_next (wire_to m pool.nodes s ins depth) (wires_to depth) w l (wire_at m.wires w).driver refl

    -- each forward wire is within its width
    pub wires_within : WiresWithin m (wire_value m pool.nodes s ins)
    unfolding wire_value
    wires_within = wires_to (length m.wires)

    cycle_bound : (net : Net) → FitsIn m pool net → net_at (cycle_env m pool.nodes s ins) pool.nodes net < 2 ^ net.width
    cycle_bound = net_bound (wire_value m pool.nodes s ins) wires_within

    reg_bound : (r : ℕ) → r < length m.regs → (o : Option Net) → (reg_at m.regs r).next ≡ o → driven_value (cycle_env m pool.nodes s ins) pool.nodes o < 2 ^ (reg_at m.regs r).width
    reg_bound r l None e = pow_pos (reg_at m.regs r).width
    reg_bound r l (Some net) e =
        let drives = fits.regs r net l e in
        to_width _ net.width (reg_at m.regs r).width drives.width (cycle_bound net drives.fits)

    reset_bound : (width next : ℕ) (reset : Option ℕ) → IsReset width reset → next < 2 ^ width → next_reg m pool.nodes s ins reset next < 2 ^ width
    reset_bound width next None is h = h
    reset_bound width next (Some start) is h = below_choose (ins 1) start next (2 ^ width) (is start refl) h

    set_many : (t : Bool) (cells : List ℕ) (at v : ℕ) → length (cond t (set cells at v) cells) ≡ length cells
    set_many true cells at v = length-set cells at v
    set_many false cells at v = refl

    cells_many : (o : Option ArrayWrite) (cells : List ℕ) → length (next_cells m pool.nodes s ins o cells) ≡ length cells
    cells_many None cells = refl
    cells_many (Some w) cells = set_many (eqb (net_at (cycle_env m pool.nodes s ins) pool.nodes w.enable) 1) cells _ _

    set_bound : (t : Bool) (cells : List ℕ) (at v n : ℕ) → v < n → All (λ c. c < n) cells → All (λ c. c < n) (cond t (set cells at v) cells)
    set_bound true cells at v n h each = All-set (λ c. c < n) cells at v h each
    set_bound false cells at v n h each = each

    cells_bound : (a : ℕ) → a < length m.arrays → (o : Option ArrayWrite) → (array_at m.arrays a).write ≡ o
        → All (λ c. c < 2 ^ (array_at m.arrays a).width) (next_cells m pool.nodes s ins o (s.cells a))
    cells_bound a l None e = held.cells a l
    cells_bound a l (Some w) e =
        let drives = fits.arrays a w l e in
        set_bound (eqb (net_at (cycle_env m pool.nodes s ins) pool.nodes w.enable) 1) (s.cells a) (net_at (cycle_env m pool.nodes s ins) pool.nodes w.addr)
        (net_at (cycle_env m pool.nodes s ins) pool.nodes w.value) (2 ^ (array_at m.arrays a).width)
        (to_width _ w.value.width (array_at m.arrays a).width drives.width (cycle_bound w.value drives.value)) (held.cells a l)

    -- what is held after the cycle is within the widths
    pub next_fits : IsModule m → IsHeld m (next_held m pool.nodes s ins)
    unfolding next_held
    next_fits is = record {
      regs = λ r l. reset_bound (reg_at m.regs r).width _ (reg_at m.regs r).reset (is.resets r l) (reg_bound r l (reg_at m.regs r).next refl);
      counts = λ a l. cells_many (array_at m.arrays a).write (s.cells a) ∙ held.counts a l;
      cells = λ a l. cells_bound a l (array_at m.arrays a).write refl;
    }

-- what is held stays within the widths in each cycle
pub held_fits : (m : ModuleValue) (pool : PoolValue) → IsModule m → DriversFit m pool → (s : Held) → IsHeld m s → (ins : ℕ → ℕ → ℕ) → ((k : ℕ) → AreInputs (ins k))
    → (k : ℕ) → IsHeld m (held_at m pool.nodes s ins k)
unfolding held_at
held_fits m pool is fits s start ins inputs zero = start
held_fits m pool is fits s start ins inputs (suc k) =
    next_fits m (held_at m pool.nodes s ins k) (ins k) (held_fits m pool is fits s start ins inputs k) (inputs k) pool fits is
