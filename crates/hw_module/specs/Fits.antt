-- Nets that fit a module.
use Rattle.std.specs.Prelude.{◌≡◌, ℕ, ◌<◌, ◌≤◌, true, length}
use Rattle.core_ports.specs.Ports.{is_input}
use Rattle.core_ports.specs.Ports as ports
use Rattle.hw_pool.specs.Nodes.{PoolValue}
use Rattle.hw_pool.specs.Trees.{Tree, tree_of, width_of}
use Rattle.hw_pool.specs.Trees.Tree.{Lit, Input, Wire, Reg, Not, And, Or, Xor, Add, Sub, Eq, Ltu, Mux, Cat, Slice, Read}
use Rattle.hw_expr.specs.declared.net.Net.{Net}
use Rattle.hw_expr.specs.Nets.{IsNet}
use Rattle.hw_module.specs.Ports.{port_at}
use Rattle.hw_module.specs.Rows.{ModuleValue, wire_at, reg_at, array_at}

-- a port that an expression may read: an input port other than the clock
pub record IsReadable (port : ℕ) : Type 0 where
  pub least : 1 ≤ port
  pub most : port < 30
  pub input : is_input (port_at port) ≡ true

-- what a leaf of a tree takes from outside is the module's, with the width that it has there
pub record InputFits (wide port : ℕ) : Type 0 where
  pub readable : IsReadable port
  pub width : ports.width_of (port_at port) ≡ wide

-- a forward wire's level is at most a level
pub record WireFits (m : ModuleValue) (most wide wire : ℕ) : Type 0 where
  pub there : wire < length m.wires
  pub width : (wire_at m.wires wire).width ≡ wide
  pub level : (wire_at m.wires wire).level ≤ most

pub record RegFits (m : ModuleValue) (wide reg : ℕ) : Type 0 where
  pub there : reg < length m.regs
  pub width : (reg_at m.regs reg).width ≡ wide

-- an array's address is as wide as its number of bits
pub record ReadFits (m : ModuleValue) (wide array index : ℕ) : Type 0 where
  pub there : array < length m.arrays
  pub width : (array_at m.arrays array).width ≡ wide
  pub bits : (array_at m.arrays array).bits ≡ index

-- each input, forward wire, register and array in a tree fits, and no forward wire has a level above this one
abbrev pub TreeFits : ModuleValue → (level : ℕ) → Tree → Type 0
TreeFits m level (Lit width value) = Unit {0}
TreeFits m level (Input width port) = InputFits width port
TreeFits m level (Wire width wire) = WireFits m level width wire
TreeFits m level (Reg width reg) = RegFits m width reg
TreeFits m level (Not width a) = TreeFits m level a
TreeFits m level (And width a b) = TreeFits m level a × TreeFits m level b
TreeFits m level (Or width a b) = TreeFits m level a × TreeFits m level b
TreeFits m level (Xor width a b) = TreeFits m level a × TreeFits m level b
TreeFits m level (Add width a b) = TreeFits m level a × TreeFits m level b
TreeFits m level (Sub width a b) = TreeFits m level a × TreeFits m level b
TreeFits m level (Eq width a b) = TreeFits m level a × TreeFits m level b
TreeFits m level (Ltu width a b) = TreeFits m level a × TreeFits m level b
TreeFits m level (Mux width c a b) = TreeFits m level c × TreeFits m level a × TreeFits m level b
TreeFits m level (Cat width a b) = TreeFits m level a × TreeFits m level b
TreeFits m level (Slice width a high low) = TreeFits m level a
TreeFits m level (Read width array a) = ReadFits m width array (width_of a) × TreeFits m level a

-- A net fits a module: it is a net, and its tree fits, with no forward wire above the net's level.
pub record FitsIn (m : ModuleValue) (pool : PoolValue) (net : Net) : Type 0 where
  pub is : IsNet pool net
  pub tree : TreeFits m net.level (tree_of pool.nodes net.id.0)
