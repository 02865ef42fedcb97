-- A cycle of a module depends on what its own registers and arrays hold, and on the input ports, alone.
use Rattle.std.proofs.Common.{◌≡◌, ℕ, zero, suc, ◌<◌, true, cond, eqb, ltb, length, get_or, set, Option, None, Some, refl, ap, bit_and, bit_or, bit_xor, arith}
use Rattle.core_words.specs.Values.{one_if, add_of, sub_of, not_of, bits_of, choose, join_of}
use Rattle.core_ports.specs.Ports.{is_input}
use Rattle.hw_pool.specs.Nodes.{PoolValue}
use Rattle.hw_pool.specs.Trees.{Tree, tree_of, width_of}
use Rattle.hw_pool.specs.Trees.Tree.{Lit, Input, Wire, Reg, Not, And, Or, Xor, Add, Sub, Eq, Ltu, Mux, Cat, Slice, Read}
use Rattle.hw_pool.specs.Meaning.{value}
use Rattle.hw_expr.specs.declared.net.Net.{Net}
use Rattle.hw_module.specs.declared.rows.ArrayWrite.{ArrayWrite}
use Rattle.hw_module.specs.Ports.{port_at}
use Rattle.hw_module.specs.Rows.{ModuleValue, wire_at, reg_at, array_at, out_at}
use Rattle.hw_module.specs.Fits.{TreeFits, FitsIn}
use Rattle.hw_module.specs.Checked.{DriversFit}
use Rattle.hw_module.specs.Cycle.{Held, env_of, net_at, driven_value, wire_to, wire_value, cycle_env, out_value, next_reg, next_cells, next_held}

-- the registers and arrays of a module hold the same
pub record HoldsSame (m : ModuleValue) (s s' : Held) : Type 0 where
  pub regs : (r : ℕ) → r < length m.regs → s.regs r ≡ s'.regs r
  pub cells : (a : ℕ) → a < length m.arrays → s.cells a ≡ s'.cells a

-- the input ports have the same values
abbrev pub SameInputs : (ins ins' : ℕ → ℕ) → Type 0
SameInputs ins ins' = (p : ℕ) → p < 30 → is_input (port_at p) ≡ true → ins p ≡ ins' p

module _ (m : ModuleValue) (s s' : Held) (ins ins' : ℕ → ℕ) (held : HoldsSame m s s') (inputs : SameInputs ins ins') where
  abbrev SameWires : (f g : ℕ → ℕ) → Type 0
  SameWires f g = (w : ℕ) → w < length m.wires → f w ≡ g w

  -- a tree that fits reads nothing else
  value_same : (f g : ℕ → ℕ) → SameWires f g → (level : ℕ) (t : Tree) → TreeFits m level t → value (env_of s ins f) t ≡ value (env_of s' ins' g) t
  value_same f g e level (Lit width v) h = refl
  value_same f g e level (Input width port) h = inputs port h.readable.most h.readable.input
  value_same f g e level (Wire width wire) h = e wire h.there
  value_same f g e level (Reg width reg) h = held.regs reg h.there
  value_same f g e level (Not width a) h = ap (not_of (width_of a)) (value_same f g e level a h)
  value_same f g e level (And width a b) h = λ i. bit_and (value_same f g e level a h.0 i) (value_same f g e level b h.1 i)
  value_same f g e level (Or width a b) h = λ i. bit_or (value_same f g e level a h.0 i) (value_same f g e level b h.1 i)
  value_same f g e level (Xor width a b) h = λ i. bit_xor (value_same f g e level a h.0 i) (value_same f g e level b h.1 i)
  value_same f g e level (Add width a b) h = λ i. add_of (width_of a) (value_same f g e level a h.0 i) (value_same f g e level b h.1 i)
  value_same f g e level (Sub width a b) h = λ i. sub_of (width_of a) (value_same f g e level a h.0 i) (value_same f g e level b h.1 i)
  value_same f g e level (Eq width a b) h = λ i. one_if (eqb (value_same f g e level a h.0 i) (value_same f g e level b h.1 i))
  value_same f g e level (Ltu width a b) h = λ i. one_if (ltb (value_same f g e level a h.0 i) (value_same f g e level b h.1 i))
  value_same f g e level (Mux width c a b) h =
      λ i. choose (value_same f g e level c h.0 i) (value_same f g e level a h.1 i) (value_same f g e level b h.2 i)
  value_same f g e level (Cat width a b) h = λ i. join_of (width_of b) (value_same f g e level a h.0 i) (value_same f g e level b h.1 i)
  value_same f g e level (Slice width a high low) h = ap (λ v. bits_of v high low) (value_same f g e level a h)
  value_same f g e level (Read width array a) h = λ i. get_or (held.cells array h.0.there i) (value_same f g e level a h.1 i) 0

  module _ (pool : PoolValue) (fits : DriversFit m pool) where
    net_same : (f g : ℕ → ℕ) → SameWires f g → (net : Net) → FitsIn m pool net → net_at (env_of s ins f) pool.nodes net ≡ net_at (env_of s' ins' g) pool.nodes net
    net_same f g e net is = value_same f g e net.level (tree_of pool.nodes net.id.0) is.tree

    wires_next : (f g : ℕ → ℕ) → SameWires f g → (w : ℕ) → w < length m.wires → (o : Option Net) → (wire_at m.wires w).driver ≡ o
        → driven_value (env_of s ins f) pool.nodes o ≡ driven_value (env_of s' ins' g) pool.nodes o
    wires_next f g e w l None is = refl
    wires_next f g e w l (Some net) is = net_same f g e net (fits.wires w net l is).fits

    wires_to : (depth : ℕ) → SameWires (wire_to m pool.nodes s ins depth) (wire_to m pool.nodes s' ins' depth)
    unfolding wire_to
    wires_to zero w l = refl
    wires_to (suc depth) w l =
        wires_next (wire_to m pool.nodes s ins depth) (wire_to m pool.nodes s' ins' depth) (wires_to depth) w l (wire_at m.wires w).driver refl

    -- the forward wires have the same values
    wires_same : SameWires (wire_value m pool.nodes s ins) (wire_value m pool.nodes s' ins')
    unfolding wire_value
    wires_same = wires_to (length m.wires)

    cycle_same : (net : Net) → FitsIn m pool net → net_at (cycle_env m pool.nodes s ins) pool.nodes net ≡ net_at (cycle_env m pool.nodes s' ins') pool.nodes net
    cycle_same = net_same (wire_value m pool.nodes s ins) (wire_value m pool.nodes s' ins') wires_same

    out_driven : (p : ℕ) → p < 30 → (o : Option Net) → out_at m.outs p ≡ o
        → driven_value (cycle_env m pool.nodes s ins) pool.nodes o ≡ driven_value (cycle_env m pool.nodes s' ins') pool.nodes o
    out_driven p l None is = refl
    out_driven p l (Some net) is = cycle_same net (fits.outs p net l is).fits

    -- each output has the same value
    pub out_same : (p : ℕ) → p < 30 → out_value m pool.nodes s ins p ≡ out_value m pool.nodes s' ins' p
    out_same p l = out_driven p l (out_at m.outs p) refl

    reg_driven : (r : ℕ) → r < length m.regs → (o : Option Net) → (reg_at m.regs r).next ≡ o
        → driven_value (cycle_env m pool.nodes s ins) pool.nodes o ≡ driven_value (cycle_env m pool.nodes s' ins') pool.nodes o
    reg_driven r l None is = refl
    reg_driven r l (Some net) is = cycle_same net (fits.regs r net l is).fits

    reset_same : (reset : Option ℕ) (a b : ℕ) → a ≡ b → next_reg m pool.nodes s ins reset a ≡ next_reg m pool.nodes s' ins' reset b
    unfolding port_at
    reset_same None a b e = e
    reset_same (Some start) a b e =
        let first : ins 1 ≡ ins' 1 = inputs 1 (omega arith) refl in
        λ i. choose (first i) start (e i)

    cells_written : (a : ℕ) → a < length m.arrays → (o : Option ArrayWrite) → (array_at m.arrays a).write ≡ o
        → next_cells m pool.nodes s ins o (s.cells a) ≡ next_cells m pool.nodes s' ins' o (s'.cells a)
    cells_written a l None is = held.cells a l
    cells_written a l (Some w) is =
        let drives = fits.arrays a w l is in
        λ i. cond (eqb (cycle_same w.enable drives.enable i) 1) (set (held.cells a l i) (cycle_same w.addr drives.addr i) (cycle_same w.value drives.value i)) (held.cells a l i)

    -- each register and array holds the same after the cycle
    pub next_same : HoldsSame m (next_held m pool.nodes s ins) (next_held m pool.nodes s' ins')
    unfolding next_held
    next_same = record {
      regs = λ r l. reset_same (reg_at m.regs r).reset _ _ (reg_driven r l (reg_at m.regs r).next refl);
      cells = λ a l. cells_written a l (array_at m.arrays a).write refl;
    }
