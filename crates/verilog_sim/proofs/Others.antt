-- Items that are no register and no array have no part in what is held.
use Rattle.std.proofs.Common.{◌≡◌, ℕ, List, [], ◌∷◌, Option, Some, None, refl}
use Rattle.verilog_mean.specs.Plain.{Item}
use Rattle.verilog_mean.specs.Plain.Item.{Wire, Reg, Array, Assign, Next, Reset, Write}
use Rattle.verilog_tree.specs.declared.tree.Stmt.{Stmt}
use Rattle.verilog_flat.specs.declared.node.Node.{Node}
use Rattle.verilog_flat.specs.declared.sweep.ArrayWrite.{ArrayWrite}
use Rattle.verilog_resolve.specs.declared.names.Place.{Place}
use Rattle.verilog_sim.specs.Layouts.{register_names}
use Rattle.verilog_sim.specs.Rooms.{cell_count}
use Rattle.verilog_sim.specs.Bindings.{BindsItems, with_item}
use Rattle.verilog_sim.specs.HeldItems.{held_in}
use Rattle.verilog_sim.specs.Nexts.{HaveNext, NextsDone}
use Rattle.verilog_sim.specs.Puts.{HavePut, PutsDone}

-- an item that is held is the one that was found
pub found_is : (i j : Item) → Some j ≡ held_in i → j ≡ i
found_is (Reg width name) j h = cc
found_is (Array width name cells) j h = cc
found_is (Wire width name driver) j h = cc
found_is (Assign target driver) j h = cc
found_is (Next target driver) j h = cc
found_is (Reset target start driver) j h = cc
found_is (Write enable target index driver) j h = cc

module _ (rest : List Item) where
  pub other_registers : (i : Item) → None ≡ held_in i → register_names (i ∷ rest) ≡ register_names rest
  other_registers (Reg width name) h = cc
  other_registers (Array width name cells) h = cc
  other_registers (Wire width name driver) h = refl
  other_registers (Assign target driver) h = refl
  other_registers (Next target driver) h = refl
  other_registers (Reset target start driver) h = refl
  other_registers (Write enable target index driver) h = refl

  pub other_cells : (i : Item) → None ≡ held_in i → cell_count (i ∷ rest) ≡ cell_count rest
  other_cells (Reg width name) h = cc
  other_cells (Array width name cells) h = cc
  other_cells (Wire width name driver) h = refl
  other_cells (Assign target driver) h = refl
  other_cells (Next target driver) h = refl
  other_cells (Reset target start driver) h = refl
  other_cells (Write enable target index driver) h = refl

  module _ (items : List Item) (ns ms : List Node) (p q : List ℕ → Place) where
    pub other_binds : (reg base : ℕ) (i : Item) → None ≡ held_in i → BindsItems items (i ∷ rest) reg base ns ms p q → BindsItems items rest reg base ns ms p q
    other_binds reg base (Reg width name) h b = absurd cc
    other_binds reg base (Array width name cells) h b = absurd cc
    other_binds reg base (Wire width name driver) h b = λ m s inputs regs cells ins a g l. let z = b m s inputs regs cells ins a g l in (z.0.1, z.1)
    other_binds reg base (Assign target driver) h b = λ m s inputs regs cells ins a g l. let z = b m s inputs regs cells ins a g l in (z.0.1, z.1)
    other_binds reg base (Next target driver) h b = λ m s inputs regs cells ins a g l. let z = b m s inputs regs cells ins a g l in (z.0.1, z.1)
    other_binds reg base (Reset target start driver) h b = λ m s inputs regs cells ins a g l. let z = b m s inputs regs cells ins a g l in (z.0.1, z.1)
    other_binds reg base (Write enable target index driver) h b = λ m s inputs regs cells ins a g l. let z = b m s inputs regs cells ins a g l in (z.0.1, z.1)

  module _ (table : List ℕ → Option Stmt) (p : List ℕ → Place) (items : List Item) (ns ms : List Node) where
    pub other_next : (done : List ℕ) (i : Item) → None ≡ held_in i → NextsDone table p items (i ∷ rest) ns ms done → NextsDone table p items rest ns ms done
    other_next done (Reg width name) h b = absurd cc
    other_next done (Array width name cells) h b = b
    other_next done (Wire width name driver) h b = b
    other_next done (Assign target driver) h b = b
    other_next done (Next target driver) h b = b
    other_next done (Reset target start driver) h b = b
    other_next done (Write enable target index driver) h b = b

    pub other_put : (base : ℕ) (done : List ArrayWrite) (i : Item) → None ≡ held_in i → PutsDone table p items (i ∷ rest) base ns ms done → PutsDone table p items rest base ns ms done
    other_put base done (Reg width name) h b = b
    other_put base done (Array width name cells) h b = absurd cc
    other_put base done (Wire width name driver) h b = b
    other_put base done (Assign target driver) h b = b
    other_put base done (Next target driver) h b = b
    other_put base done (Reset target start driver) h b = b
    other_put base done (Write enable target index driver) h b = b

pub other_known : (k : List ℕ → Place) (i : Item) → None ≡ held_in i → ◌≡◌ {A = List ℕ → Place} k (with_item k i)
other_known k (Reg width name) h = cc
other_known k (Array width name cells) h = cc
other_known k (Wire width name driver) h = refl
other_known k (Assign target driver) h = refl
other_known k (Next target driver) h = refl
other_known k (Reset target start driver) h = refl
other_known k (Write enable target index driver) h = refl

pub have_next_rest : (p : List ℕ → Place) (table : List ℕ → Option Stmt) (i : Item) (is : List Item) → HaveNext p table (i ∷ is) → HaveNext p table is
have_next_rest p table (Reg width name) is h = h.1
have_next_rest p table (Array width name cells) is h = h
have_next_rest p table (Wire width name driver) is h = h
have_next_rest p table (Assign target driver) is h = h
have_next_rest p table (Next target driver) is h = h
have_next_rest p table (Reset target start driver) is h = h
have_next_rest p table (Write enable target index driver) is h = h

pub have_next_one : (p : List ℕ → Place) (table : List ℕ → Option Stmt) (i : Item) (is : List Item) → HaveNext p table (i ∷ is) → HaveNext p table (i ∷ [])
have_next_one p table (Reg width name) is h = (h.0, tt)
have_next_one p table (Array width name cells) is h = tt
have_next_one p table (Wire width name driver) is h = tt
have_next_one p table (Assign target driver) is h = tt
have_next_one p table (Next target driver) is h = tt
have_next_one p table (Reset target start driver) is h = tt
have_next_one p table (Write enable target index driver) is h = tt

pub have_put_rest : (p : List ℕ → Place) (table : List ℕ → Option Stmt) (i : Item) (is : List Item) → HavePut p table (i ∷ is) → HavePut p table is
have_put_rest p table (Reg width name) is h = h
have_put_rest p table (Array width name cells) is h = h.1
have_put_rest p table (Wire width name driver) is h = h
have_put_rest p table (Assign target driver) is h = h
have_put_rest p table (Next target driver) is h = h
have_put_rest p table (Reset target start driver) is h = h
have_put_rest p table (Write enable target index driver) is h = h

pub have_put_one : (p : List ℕ → Place) (table : List ℕ → Option Stmt) (i : Item) (is : List Item) → HavePut p table (i ∷ is) → HavePut p table (i ∷ [])
have_put_one p table (Reg width name) is h = tt
have_put_one p table (Array width name cells) is h = (h.0, tt)
have_put_one p table (Wire width name driver) is h = tt
have_put_one p table (Assign target driver) is h = tt
have_put_one p table (Next target driver) is h = tt
have_put_one p table (Reset target start driver) is h = tt
have_put_one p table (Write enable target index driver) is h = tt
