-- The meaning of one cycle of a module. A wire's value is its driver's, and drivers are followed by name.
-- The standard's events order nothing here: a module without loops has one value for each name in each cycle.
use Rattle.std.specs.Prelude.{ℕ, zero, suc, ◌+◌, ◌-◌, cond, eqb, ltb, List, get_or, set, length, Option, Some, None, codes, bit_and, bit_or, bit_xor}
use Rattle.core_words.specs.Values.{one_if, add_of, sub_of, not_of, bits_of, choose, join_of}
use Rattle.verilog_tree.specs.declared.expr.BinSign.{BinSign}
use Rattle.verilog_tree.specs.declared.expr.BinSign.TheVariants as sign
use Rattle.verilog_mean.specs.Look.{look, or_else}
use Rattle.verilog_mean.specs.Plain.{Expr, Exprs, Item, Port, Plain}
use Rattle.verilog_mean.specs.Plain.Expr.{Literal, Named, Select, Cell, Not, Join, Binary, Choice}
use Rattle.verilog_mean.specs.Plain.Exprs.{NoPart, Part}
use Rattle.verilog_mean.specs.Plain.Item.{Wire, Reg, Array, Assign, Next, Reset, Write}
use Rattle.verilog_mean.specs.Plain.Port.{In, Out}

-- ---- widths

abbrev pub item_width : Item → Option (List ℕ × ℕ)
item_width (Wire width name driver) = Some (name, width)
item_width (Reg width name) = Some (name, width)
item_width (Array width name cells) = Some (name, width)
item_width (Assign target driver) = None
item_width (Next target driver) = None
item_width (Reset target start driver) = None
item_width (Write enable target index driver) = None

abbrev pub port_width : Port → Option (List ℕ × ℕ)
port_width (In width name) = Some (name, width)
port_width (Out width name) = Some (name, width)

-- the declared width of a name, 0 where there is none
abbrev pub width_in : Plain → List ℕ → ℕ
width_in m x = or_else (look port_width m.ports x) (or_else (look item_width m.items x) 0)

-- the width of an operator's value, from that of its left operand
abbrev pub sign_width : BinSign → ℕ → ℕ
sign_width sign.Or width = width
sign_width sign.Xor width = width
sign_width sign.And width = width
sign_width sign.Equal width = 1
sign_width sign.Less width = 1
sign_width sign.Plus width = width
sign_width sign.Minus width = width

-- the width of an expression, where w gives that of each name
abbrev mutual
  pub width_of : (w : List ℕ → ℕ) → Expr → ℕ
  width_of w (Literal width value) = width
  width_of w (Named name) = w name
  width_of w (Select name high low) = high + 1 - low
  width_of w (Cell name index) = w name
  width_of w (Not inner) = width_of w inner
  width_of w (Join parts) = width_of_parts w parts
  width_of w (Binary s left right) = sign_width s (width_of w left)
  width_of w (Choice test first second) = width_of w first

  pub width_of_parts : (w : List ℕ → ℕ) → Exprs → ℕ
  width_of_parts w NoPart = 0
  width_of_parts w (Part part parts) = width_of w part + width_of_parts w parts

-- ---- values

-- the value of an operator between operands of a width
abbrev pub sign_value : BinSign → (width a b : ℕ) → ℕ
sign_value sign.Or width a b = bit_or a b
sign_value sign.Xor width a b = bit_xor a b
sign_value sign.And width a b = bit_and a b
sign_value sign.Equal width a b = one_if (eqb a b)
sign_value sign.Less width a b = one_if (ltb a b)
sign_value sign.Plus width a b = add_of width a b
sign_value sign.Minus width a b = sub_of width a b

-- the value of an expression, where w gives each name's width, cells each array's cells and val each name's value
abbrev mutual
  pub eval : (w : List ℕ → ℕ) (cells : List ℕ → List ℕ) (val : List ℕ → ℕ) → Expr → ℕ
  eval w cells val (Literal width value) = value
  eval w cells val (Named name) = val name
  eval w cells val (Select name high low) = bits_of (val name) high low
  eval w cells val (Cell name index) = get_or (cells name) (eval w cells val index) 0
  eval w cells val (Not inner) = not_of (width_of w inner) (eval w cells val inner)
  eval w cells val (Join parts) = eval_parts w cells val parts
  eval w cells val (Binary s left right) = sign_value s (width_of w left) (eval w cells val left) (eval w cells val right)
  eval w cells val (Choice test first second) = choose (eval w cells val test) (eval w cells val first) (eval w cells val second)

  pub eval_parts : (w : List ℕ → ℕ) (cells : List ℕ → List ℕ) (val : List ℕ → ℕ) → Exprs → ℕ
  eval_parts w cells val NoPart = 0
  eval_parts w cells val (Part part NoPart) = eval w cells val part
  eval_parts w cells val (Part part (Part next parts)) = join_of (width_of_parts w (Part next parts)) (eval w cells val part) (eval_parts w cells val (Part next parts))

-- ---- the values of names

-- where a name's value comes from
pub data Source : Type 0 where
  Nowhere : Source
  Outside : Source
  Held : Source
  Driven : (driver : Expr) → Source

abbrev pub item_source : Item → Option (List ℕ × Source)
item_source (Wire width name None) = None
item_source (Wire width name (Some e)) = Some (name, Driven e)
item_source (Reg width name) = Some (name, Held)
item_source (Array width name cells) = None
item_source (Assign target e) = Some (target, Driven e)
item_source (Next target e) = None
item_source (Reset target start e) = None
item_source (Write enable target index e) = None

abbrev pub port_source : Port → Option (List ℕ × Source)
port_source (In width name) = Some (name, Outside)
port_source (Out width name) = None

abbrev pub source_of : Plain → List ℕ → Source
source_of m x = or_else (look port_source m.ports x) (or_else (look item_source m.items x) Nowhere)

-- what the registers and the arrays hold
pub record State : Type 0 where
  pub regs : List ℕ → ℕ
  pub cells : List ℕ → List ℕ

abbrev pub from_source : (m : Plain) (s : State) (ins : List ℕ → ℕ) (x : List ℕ) (below : List ℕ → ℕ) → Source → ℕ
from_source m s ins x below Nowhere = 0
from_source m s ins x below Outside = ins x
from_source m s ins x below Held = s.regs x
from_source m s ins x below (Driven e) = eval (width_in m) s.cells below e

-- the value of a name, with drivers followed to a depth
unfoldable pub value_to : (m : Plain) (s : State) (ins : List ℕ → ℕ) → (depth : ℕ) → List ℕ → ℕ
value_to m s ins zero x = 0
value_to m s ins (suc depth) x = from_source m s ins x (value_to m s ins depth) (source_of m x)

-- The value of a name in a cycle. No chain of drivers without a loop is longer than the items are many.
unfoldable pub value : (m : Plain) (s : State) (ins : List ℕ → ℕ) → List ℕ → ℕ
value m s ins x = value_to m s ins (suc (length m.items)) x

-- ---- the edge of the clock: all registers and arrays change at once, from the values before it

-- the next value of a register
pub data Clocked : Type 0 where
  Stays : Clocked
  Takes : (driver : Expr) → Clocked
  Restarts : (start : ℕ) (driver : Expr) → Clocked

abbrev pub item_clocked : Item → Option (List ℕ × Clocked)
item_clocked (Wire width name driver) = None
item_clocked (Reg width name) = None
item_clocked (Array width name cells) = None
item_clocked (Assign target e) = None
item_clocked (Next target e) = Some (target, Takes e)
item_clocked (Reset target start e) = Some (target, Restarts start e)
item_clocked (Write enable target index e) = None

abbrev pub clocked_of : Plain → List ℕ → Clocked
clocked_of m x = or_else (look item_clocked m.items x) Stays

abbrev pub next_reg : (w : List ℕ → ℕ) (cells : List ℕ → List ℕ) (val : List ℕ → ℕ) (reset old : ℕ) → Clocked → ℕ
next_reg w cells val reset old Stays = old
next_reg w cells val reset old (Takes e) = eval w cells val e
next_reg w cells val reset old (Restarts start e) = choose reset start (eval w cells val e)

-- the write of an array
pub data Writing : Type 0 where
  Keeps : Writing
  Puts : (enable index driver : Expr) → Writing

abbrev pub item_writing : Item → Option (List ℕ × Writing)
item_writing (Wire width name driver) = None
item_writing (Reg width name) = None
item_writing (Array width name cells) = None
item_writing (Assign target e) = None
item_writing (Next target e) = None
item_writing (Reset target start e) = None
item_writing (Write enable target index e) = Some (target, Puts enable index e)

abbrev pub writing_of : Plain → List ℕ → Writing
writing_of m x = or_else (look item_writing m.items x) Keeps

abbrev pub next_cells : (w : List ℕ → ℕ) (cells : List ℕ → List ℕ) (val : List ℕ → ℕ) (old : List ℕ) → Writing → List ℕ
next_cells w cells val old Keeps = old
next_cells w cells val old (Puts enable index e) = cond (eqb (eval w cells val enable) 1) (set old (eval w cells val index) (eval w cells val e)) old

-- the bytes of "reset"
abbrev pub reset_name : List ℕ
reset_name = codes "reset"

-- what the registers and the arrays hold after a cycle
unfoldable pub next : (m : Plain) (s : State) (ins : List ℕ → ℕ) → State
next m s ins = record {
  regs = λ x. next_reg (width_in m) s.cells (value m s ins) (ins reset_name) (s.regs x) (clocked_of m x);
  cells = λ x. next_cells (width_in m) s.cells (value m s ins) (s.cells x) (writing_of m x);
}
