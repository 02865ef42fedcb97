-- What one plug-in built, with the net of each driver unfolded to its tree.
use Rattle.std.specs.Prelude.{ℕ, List, get_or, Option, None, Some}
use Rattle.hw_pool.specs.Trees.{Tree}
use Rattle.hw_pool.specs.Trees.Tree.{Lit}
use Rattle.service_reg.specs.declared.service.Service.{Service}

-- a forward wire, with its driver where the part drives it
pub record PartWire : Type 0 where
  pub width : ℕ
  pub level : ℕ
  pub driver : Option Tree

-- a register, with the value that it takes in a reset, if it has one, and its next value
pub record PartReg : Type 0 where
  pub width : ℕ
  pub reset : Option ℕ
  pub next : Option Tree

-- the write of an array: where `enable` is 1, the cell that `addr` names takes `value`
pub record TreeWrite : Type 0 where
  pub enable : Tree
  pub addr : Tree
  pub value : Tree

-- an array of 2 ^ `bits` cells
pub record PartArray : Type 0 where
  pub width : ℕ
  pub bits : ℕ
  pub write : Option TreeWrite

-- The ports of a service: its inputs by the numbers of their forward wires and its outputs by their trees, in the order
-- of the table of services.
pub record PortTrees : Type 0 where
  pub inputs : List ℕ
  pub outputs : List Tree

-- A part: the forward wires, registers and arrays of an entry by their numbers in the module, its drivers of forward
-- wires of others and of outputs of the core by theirs, the services that it offers, and those of others that it took.
-- What drives the inputs of its own services is not of the part.
pub record Part : Type 0 where
  pub wires : ℕ → Option PartWire
  pub regs : ℕ → Option PartReg
  pub arrays : ℕ → Option PartArray
  pub drives : ℕ → Option Tree
  pub outs : ℕ → Option Tree
  pub offers : Service → Option PortTrees
  pub took : Service → Option PortTrees

-- the tree at a place among outputs, the number 0 beyond them
abbrev pub tree_at : List Tree → ℕ → Tree
tree_at trees k = get_or trees k (Lit 1 0)

-- the first of two that is there
abbrev pub own_or : Option PortTrees → Option PortTrees → Option PortTrees
own_or (Some own) took = Some own
own_or None took = took

-- a service that the part offers, or one of others that it took
abbrev pub sees : Part → Service → Option PortTrees
sees p s = own_or (p.offers s) (p.took s)
