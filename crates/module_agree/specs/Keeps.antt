-- What a module keeps while others make and drive things: its rows, and the trees of the drivers that are there.
use Rattle.std.specs.Prelude.{◌≡◌, ℕ, ◌<◌, length, Option, None, Some, List}
use Rattle.hw_pool.specs.declared.node.Node.{Node}
use Rattle.hw_expr.specs.declared.net.Net.{Net}
use Rattle.hw_module.specs.declared.rows.WireRow.{WireRow}
use Rattle.hw_module.specs.declared.rows.RegRow.{RegRow}
use Rattle.hw_module.specs.declared.rows.ArrayRow.{ArrayRow}
use Rattle.hw_module.specs.declared.rows.ArrayWrite.{ArrayWrite}
use Rattle.hw_module.specs.Rows.{ModuleValue, wire_at, reg_at, array_at, out_at}
use Rattle.module_agree.specs.Agree.{SameDriver, SameWrite}

module _ (nodes nodes' : List Node) where
  -- a driver that is there keeps its tree; where there is none, one may come
  abbrev pub KeepsDriver : Option Net → Option Net → Type 0
  KeepsDriver None new = Unit {0}
  KeepsDriver (Some net) new = SameDriver nodes nodes' (Some net) new

  abbrev pub KeepsWrite : Option ArrayWrite → Option ArrayWrite → Type 0
  KeepsWrite None new = Unit {0}
  KeepsWrite (Some write) new = SameWrite nodes nodes' (Some write) new

  pub record KeepsWire (row row' : WireRow) : Type 0 where
    pub owner : row.owner ≡ row'.owner
    pub width : row.width ≡ row'.width
    pub level : row.level ≡ row'.level
    pub driver : KeepsDriver row.driver row'.driver

  pub record KeepsReg (row row' : RegRow) : Type 0 where
    pub owner : row.owner ≡ row'.owner
    pub width : row.width ≡ row'.width
    pub reset : row.reset ≡ row'.reset
    pub next : KeepsDriver row.next row'.next

  pub record KeepsArray (row row' : ArrayRow) : Type 0 where
    pub owner : row.owner ≡ row'.owner
    pub width : row.width ≡ row'.width
    pub bits : row.bits ≡ row'.bits
    pub write : KeepsWrite row.write row'.write

-- The rows of the first module stand in the second by the same numbers, with the same trees where they are driven.
pub record KeepsTrees (m : ModuleValue) (nodes : List Node) (m' : ModuleValue) (nodes' : List Node) : Type 0 where
  pub wires : (w : ℕ) → w < length m.wires → KeepsWire nodes nodes' (wire_at m.wires w) (wire_at m'.wires w)
  pub regs : (r : ℕ) → r < length m.regs → KeepsReg nodes nodes' (reg_at m.regs r) (reg_at m'.regs r)
  pub arrays : (a : ℕ) → a < length m.arrays → KeepsArray nodes nodes' (array_at m.arrays a) (array_at m'.arrays a)
  pub outs : (p : ℕ) → p < 30 → KeepsDriver nodes nodes' (out_at m.outs p) (out_at m'.outs p)
