-- When two modules are one: they hold the same kinds of contents, and their cycles agree.
use Rattle.std.specs.Prelude.{◌≡◌, ℕ, ◌<◌, false, List, length, Option, None, Some}
use Rattle.core_ports.specs.Ports.{is_input}
use Rattle.hw_pool.specs.declared.node.Node.{Node}
use Rattle.hw_pool.specs.Trees.{tree_of}
use Rattle.hw_expr.specs.declared.net.Net.{Net}
use Rattle.hw_module.specs.declared.rows.WireRow.{WireRow}
use Rattle.hw_module.specs.declared.rows.RegRow.{RegRow}
use Rattle.hw_module.specs.declared.rows.ArrayRow.{ArrayRow}
use Rattle.hw_module.specs.declared.rows.ArrayWrite.{ArrayWrite}
use Rattle.hw_module.specs.Ports.{port_at}
use Rattle.hw_module.specs.Rows.{ModuleValue, wire_at, reg_at, array_at, out_at}
use Rattle.hw_module.specs.Cycle.{Held, IsHeld, AreInputs, out_value, next_held}

-- The modules have as many registers and arrays. Each register has the same owner and width in both, each array the
-- same owner and width and as many bits of address. Forward wires, drivers and resets may differ.
pub record SameContents (m m' : ModuleValue) : Type 0 where
  pub regs : length m.regs ≡ length m'.regs
  pub arrays : length m.arrays ≡ length m'.arrays
  pub reg_owners : (r : ℕ) → r < length m.regs → (reg_at m.regs r).owner ≡ (reg_at m'.regs r).owner
  pub reg_widths : (r : ℕ) → r < length m.regs → (reg_at m.regs r).width ≡ (reg_at m'.regs r).width
  pub array_owners : (a : ℕ) → a < length m.arrays → (array_at m.arrays a).owner ≡ (array_at m'.arrays a).owner
  pub array_widths : (a : ℕ) → a < length m.arrays → (array_at m.arrays a).width ≡ (array_at m'.arrays a).width
  pub array_bits : (a : ℕ) → a < length m.arrays → (array_at m.arrays a).bits ≡ (array_at m'.arrays a).bits

-- From all contents within the widths of the first module, on all inputs within theirs, each output has the same value
-- in both modules, and each register and array of the first holds the same after the cycle.
pub record CyclesAgree (m : ModuleValue) (nodes : List Node) (m' : ModuleValue) (nodes' : List Node) : Type 0 where
  pub outs : (s : Held) → IsHeld m s → (ins : ℕ → ℕ) → AreInputs ins → (p : ℕ) → p < 30 → is_input (port_at p) ≡ false
      → out_value m nodes s ins p ≡ out_value m' nodes' s ins p
  pub regs : (s : Held) → IsHeld m s → (ins : ℕ → ℕ) → AreInputs ins → (r : ℕ) → r < length m.regs
      → (next_held m nodes s ins).regs r ≡ (next_held m' nodes' s ins).regs r
  pub cells : (s : Held) → IsHeld m s → (ins : ℕ → ℕ) → AreInputs ins → (a : ℕ) → a < length m.arrays
      → (next_held m nodes s ins).cells a ≡ (next_held m' nodes' s ins).cells a

-- ---- the same rows and trees, whatever the numbers of the nodes

module _ (nodes nodes' : List Node) where
  -- two drivers have the same tree, each in its own list of nodes, or neither is there
  abbrev pub SameDriver : Option Net → Option Net → Type 0
  SameDriver None None = Unit {0}
  SameDriver (Some net) (Some net') = tree_of nodes net.id.0 ≡ tree_of nodes' net'.id.0
  SameDriver _ _ = ⊥

  -- two writes of an array have the same three trees, or neither is there
  abbrev pub SameWrite : Option ArrayWrite → Option ArrayWrite → Type 0
  SameWrite None None = Unit {0}
  SameWrite (Some w) (Some w') = SameDriver (Some w.enable) (Some w'.enable) × SameDriver (Some w.addr) (Some w'.addr) × SameDriver (Some w.value) (Some w'.value)
  SameWrite _ _ = ⊥

  pub record SameWire (row row' : WireRow) : Type 0 where
    pub width : row.width ≡ row'.width
    pub level : row.level ≡ row'.level
    pub driver : SameDriver row.driver row'.driver

  pub record SameReg (row row' : RegRow) : Type 0 where
    pub owner : row.owner ≡ row'.owner
    pub width : row.width ≡ row'.width
    pub reset : row.reset ≡ row'.reset
    pub next : SameDriver row.next row'.next

  pub record SameArray (row row' : ArrayRow) : Type 0 where
    pub owner : row.owner ≡ row'.owner
    pub width : row.width ≡ row'.width
    pub bits : row.bits ≡ row'.bits
    pub write : SameWrite row.write row'.write

-- The modules have the same rows, with the same trees as drivers.
pub record SameTrees (m : ModuleValue) (nodes : List Node) (m' : ModuleValue) (nodes' : List Node) : Type 0 where
  pub wire_count : length m.wires ≡ length m'.wires
  pub reg_count : length m.regs ≡ length m'.regs
  pub array_count : length m.arrays ≡ length m'.arrays
  pub wires : (w : ℕ) → w < length m.wires → SameWire nodes nodes' (wire_at m.wires w) (wire_at m'.wires w)
  pub regs : (r : ℕ) → r < length m.regs → SameReg nodes nodes' (reg_at m.regs r) (reg_at m'.regs r)
  pub arrays : (a : ℕ) → a < length m.arrays → SameArray nodes nodes' (array_at m.arrays a) (array_at m'.arrays a)
  pub outs : (p : ℕ) → p < 30 → is_input (port_at p) ≡ false → SameDriver nodes nodes' (out_at m.outs p) (out_at m'.outs p)
