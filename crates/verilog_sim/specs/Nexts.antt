-- The nodes of the next values of registers.
use Rattle.std.specs.Prelude.{◌≡◌, ℕ, List, [], ◌∷◌, ◌++◌, map, Option, Some, None}
use Rattle.verilog_tree.specs.declared.tree.Stmt.{Stmt}
use Rattle.verilog_tree.specs.declared.tree.Stmt.TheVariants as stmt
use Rattle.verilog_mean.specs.Plain.{Item}
use Rattle.verilog_mean.specs.Plain.Item.{Wire, Reg, Array, Assign, Next, Reset, Write}
use Rattle.verilog_mean.specs.Erase.{plain}
use Rattle.verilog_mean.specs.Cycle.{next_reg, reset_name}
use Rattle.verilog_flat.specs.declared.node.Node.{Node}
use Rattle.verilog_flat.specs.Flat.{values, picked}
use Rattle.verilog_resolve.specs.declared.names.Place.{Place}
use Rattle.verilog_resolve.specs.Names.{IsNet}
use Rattle.verilog_resolve.specs.Fine.{IsFine}
use Rattle.verilog_resolve.specs.Means.{Matches}
use Rattle.verilog_sim.specs.Layouts.{register_names}
use Rattle.verilog_sim.specs.Stmts.{clocked}

-- a statement gives a register its next value
abbrev pub IsNext : (p : List ℕ → Place) → Option Stmt → Type 0
IsNext p None = ⊥
IsNext p (Some (stmt.Next target d)) = IsFine p (plain d.value)
IsNext p (Some (stmt.Reset at first first_sign_at start target d)) = IsFine p (plain d.value) × IsNet (p reset_name)
IsNext p (Some (stmt.Write at paren_at enable target bracket_at index d)) = ⊥

-- each register has one
abbrev pub HaveNext : (p : List ℕ → Place) → (table : List ℕ → Option Stmt) → List Item → Type 0
HaveNext p table [] = Unit {0}
HaveNext p table (Reg width name ∷ rest) = IsNext p (table name) × HaveNext p table rest
HaveNext p table (Wire width name driver ∷ rest) = HaveNext p table rest
HaveNext p table (Array width name cells ∷ rest) = HaveNext p table rest
HaveNext p table (Assign target driver ∷ rest) = HaveNext p table rest
HaveNext p table (Next target driver ∷ rest) = HaveNext p table rest
HaveNext p table (Reset target start driver ∷ rest) = HaveNext p table rest
HaveNext p table (Write enable target index driver ∷ rest) = HaveNext p table rest

-- the next value of a register that holds old
abbrev pub next_by : (w : List ℕ → ℕ) (arrays : List ℕ → List ℕ) (val old : List ℕ → ℕ) (table : List ℕ → Option Stmt) → List ℕ → ℕ
next_by w arrays val old table x = next_reg w arrays val (val reset_name) (old x) (clocked (table x))

-- With the registers of the rest to do, the nodes are ms and not ns: those that are done have their next values.
abbrev pub NextsDone : (table : List ℕ → Option Stmt) (p : List ℕ → Place) (items rest : List Item) (ns ms : List Node) (done : List ℕ) → Type 0
NextsDone table p items rest ns ms done = (regs cells ins : List ℕ) (w : List ℕ → ℕ) (arrays : List ℕ → List ℕ) (val old : List ℕ → ℕ)
    → ((x : List ℕ) → Matches regs cells ins w arrays val ns x (p x))
    → ((x : List ℕ) → Matches regs cells ins w arrays val ms x (p x))
    × (picked (values regs cells ins ms) done ++ map (next_by w arrays val old table) (register_names rest) ≡ map (next_by w arrays val old table) (register_names items))
