-- The writes of arrays, by the nodes of a circuit and by the module.
use Rattle.std.specs.Prelude.{◌≡◌, ℕ, ◌+◌, ◌<◌, ltb, cond, eqb, set, List, [], ◌∷◌, length, get_or, Option, Some, None}
use Rattle.verilog_tree.specs.declared.tree.Stmt.{Stmt}
use Rattle.verilog_tree.specs.declared.tree.Stmt.TheVariants as stmt
use Rattle.verilog_mean.specs.Plain.{Item}
use Rattle.verilog_mean.specs.Plain.Item.{Wire, Reg, Array, Assign, Next, Reset, Write}
use Rattle.verilog_mean.specs.Erase.{plain}
use Rattle.verilog_mean.specs.Cycle.{Writing, eval}
use Rattle.verilog_mean.specs.Cycle.Writing.{Keeps, Puts}
use Rattle.verilog_flat.specs.declared.node.Node.{Node}
use Rattle.verilog_flat.specs.declared.sweep.ArrayWrite.{ArrayWrite}
use Rattle.verilog_flat.specs.Flat.{values}
use Rattle.verilog_flat.specs.Writes.{write_all}
use Rattle.verilog_resolve.specs.declared.names.Place.{Place}
use Rattle.verilog_resolve.specs.Fine.{IsFine}
use Rattle.verilog_resolve.specs.Means.{Matches}
use Rattle.verilog_sim.specs.Stmts.{writing}

-- a statement writes an array
abbrev pub IsPut : (p : List ℕ → Place) → Option Stmt → Type 0
IsPut p None = ⊥
IsPut p (Some (stmt.Next target d)) = ⊥
IsPut p (Some (stmt.Reset at first first_sign_at start target d)) = ⊥
IsPut p (Some (stmt.Write at paren_at enable target bracket_at index d)) = IsFine p (plain enable) × (IsFine p (plain index) × IsFine p (plain d.value))

-- each array has one
abbrev pub HavePut : (p : List ℕ → Place) → (table : List ℕ → Option Stmt) → List Item → Type 0
HavePut p table [] = Unit {0}
HavePut p table (Array width name cells ∷ rest) = IsPut p (table name) × HavePut p table rest
HavePut p table (Reg width name ∷ rest) = HavePut p table rest
HavePut p table (Wire width name driver ∷ rest) = HavePut p table rest
HavePut p table (Assign target driver ∷ rest) = HavePut p table rest
HavePut p table (Next target driver ∷ rest) = HavePut p table rest
HavePut p table (Reset target start driver ∷ rest) = HavePut p table rest
HavePut p table (Write enable target index driver ∷ rest) = HavePut p table rest

module _ (w : List ℕ → ℕ) (arrays : List ℕ → List ℕ) (val : List ℕ → ℕ) where
  -- the cells of all arrays after the write of one, which begins at a base
  abbrev pub put_one : Writing → (base size : ℕ) → (cells : List ℕ) → List ℕ
  put_one Keeps base size cells = cells
  put_one (Puts enable index driver) base size cells =
      cond (eqb (eval w arrays val enable) 1) (cond (ltb (eval w arrays val index) size) (set cells (base + eval w arrays val index) (eval w arrays val driver)) cells) cells

  -- after the writes of all, the first of which begins at a base
  abbrev pub put_all : (table : List ℕ → Option Stmt) → (base : ℕ) → List Item → (cells : List ℕ) → List ℕ
  put_all table base [] held = held
  put_all table base (Array width name cells ∷ rest) held = put_all table (base + cells) rest (put_one (writing (table name)) base cells held)
  put_all table base (Reg width name ∷ rest) held = put_all table base rest held
  put_all table base (Wire width name driver ∷ rest) held = put_all table base rest held
  put_all table base (Assign target driver ∷ rest) held = put_all table base rest held
  put_all table base (Next target driver ∷ rest) held = put_all table base rest held
  put_all table base (Reset target start driver ∷ rest) held = put_all table base rest held
  put_all table base (Write enable target index driver ∷ rest) held = put_all table base rest held

-- With the arrays of the rest to do, the nodes are ms and not ns: those that are done are written as the module says,
-- and the nodes before have the values that they had.
abbrev pub PutsDone : (table : List ℕ → Option Stmt) (p : List ℕ → Place) (items rest : List Item) (base : ℕ) (ns ms : List Node) (done : List ArrayWrite) → Type 0
PutsDone table p items rest base ns ms done = (regs cells ins : List ℕ) (w : List ℕ → ℕ) (arrays : List ℕ → List ℕ) (val : List ℕ → ℕ)
    → ((x : List ℕ) → Matches regs cells ins w arrays val ns x (p x))
    → ((x : List ℕ) → Matches regs cells ins w arrays val ms x (p x))
    × ((held : List ℕ) → put_all w arrays val table base rest (write_all (values regs cells ins ms) done held) ≡ put_all w arrays val table 0 items held)
    × ((j : ℕ) → j < length ns → (j < length ms) × (get_or (values regs cells ins ms) j 0 ≡ get_or (values regs cells ins ns) j 0))
