-- What a kind may say of the things of its part: that they are there, and the values of their drivers, whatever stands at inputs,
-- forward wires, registers and arrays.
use Rattle.std.specs.Prelude.{◌≡◌, ℕ, get_or, Option, Some}
use Rattle.hw_pool.specs.Trees.{Tree}
use Rattle.hw_pool.specs.Meaning.{Env, value}
use Rattle.plug_part.specs.Part.{PartWire, PartReg, PartArray, TreeWrite, PortTrees, Part}

-- the number at an input of ports, by its place
abbrev pub input_in : PortTrees → (place : ℕ) → Env → ℕ
input_in o k env = env.wires (get_or o.inputs k 0)

-- a forward wire of this width
pub record HasWire (p : Part) (wire width : ℕ) : Type 0 where
  pub row : PartWire
  pub is : p.wires wire ≡ Some row
  pub wide : row.width ≡ width

-- a register of this width, with this reset, and its next value
pub record HasReg (p : Part) (reg width : ℕ) (reset : Option ℕ) (next : Env → ℕ) : Type 0 where
  pub row : PartReg
  pub is : p.regs reg ≡ Some row
  pub wide : row.width ≡ width
  pub reset_is : row.reset ≡ reset
  pub tree : Tree
  pub next_is : row.next ≡ Some tree
  pub value_is : (env : Env) → value env tree ≡ next env

-- an array of 2 ^ bits cells of this width, and its write: where `enable` is 1, the cell `addr` takes `item`
pub record HasArray (p : Part) (array width bits : ℕ) (enable addr item : Env → ℕ) : Type 0 where
  pub row : PartArray
  pub is : p.arrays array ≡ Some row
  pub wide : row.width ≡ width
  pub many : row.bits ≡ bits
  pub write : TreeWrite
  pub write_is : row.write ≡ Some write
  pub enable_is : (env : Env) → value env write.enable ≡ enable env
  pub addr_is : (env : Env) → value env write.addr ≡ addr env
  pub item_is : (env : Env) → value env write.value ≡ item env

-- a driver that is there, and its value
pub record IsDriven (driver : Option Tree) (f : Env → ℕ) : Type 0 where
  pub tree : Tree
  pub is : driver ≡ Some tree
  pub value_is : (env : Env) → value env tree ≡ f env

-- a forward wire that the part drives with this value
pub record HasDriver (p : Part) (wire : ℕ) (f : Env → ℕ) : Type 0 where
  pub row : PartWire
  pub is : p.wires wire ≡ Some row
  pub driven : IsDriven row.driver f
