-- A netlist as the meaning of its cycles sees it.
use Rattle.std.specs.Prelude.{ℕ, ◌^◌, Bool, true, false, List, [], ◌∷◌, Some, None}
use Rattle.verilog_mean.specs.Plain.{Expr, Plain, Item as PlainItem, Port as PlainPort}
use Rattle.verilog_mean.specs.Plain.Expr.{Literal, Named, Select, Cell as CellOf, Not as NotOf, Join as JoinOf, Binary, Choice as ChoiceOf}
use Rattle.verilog_mean.specs.Plain.Exprs.{NoPart, Part}
use Rattle.verilog_mean.specs.Plain.Item.{Wire as PlainWire, Reg as PlainReg, Array as PlainArray, Assign as PlainAssign, Next as PlainNext, Reset as PlainReset, Write as PlainWrite}
use Rattle.verilog_mean.specs.Plain.Port.{In, Out}
use Rattle.verilog_netlist.specs.Netlist.{Value, Line, Port, Netlist}
use Rattle.verilog_netlist.specs.Netlist.Value.{Constant, Copy, Bits, Cell, Not, Both, Choice, Join}
use Rattle.verilog_netlist.specs.Netlist.Line.{Wire, Net, Reg, Array, Assign, Next, Reset, Write}

abbrev pub value_expr : Value → Expr
value_expr (Constant width value) = Literal width value
value_expr (Copy a) = Named a
value_expr (Bits a high low) = Select a high low
value_expr (Cell a i) = CellOf a (Named i)
value_expr (Not a) = NotOf (Named a)
value_expr (Both s a b) = Binary s (Named a) (Named b)
value_expr (Choice t a b) = ChoiceOf (Named t) (Named a) (Named b)
value_expr (Join a b) = JoinOf (Part (Named a) (Part (Named b) NoPart))

abbrev pub line_item : Line → PlainItem
line_item (Wire width x) = PlainWire width x None
line_item (Net width x v) = PlainWire width x (Some (value_expr v))
line_item (Reg width x) = PlainReg width x
line_item (Array width x bits) = PlainArray width x (2 ^ bits)
line_item (Assign x s) = PlainAssign x (Named s)
line_item (Next x s) = PlainNext x (Named s)
line_item (Reset x width start s) = PlainReset x start (Named s)
line_item (Write e x i s) = PlainWrite (Named e) x (Named i) (Named s)

abbrev pub lines_items : List Line → List PlainItem
lines_items [] = []
lines_items (l ∷ ls) = line_item l ∷ lines_items ls

abbrev pub port_of : (input : Bool) → (width : ℕ) → (name : List ℕ) → PlainPort
port_of true width x = In width x
port_of false width x = Out width x

abbrev pub ports_of : List Port → List PlainPort
ports_of [] = []
ports_of (p ∷ ps) = port_of p.input p.width p.name ∷ ports_of ps

abbrev pub plain_of : Netlist → Plain
plain_of n = record { ports = ports_of n.ports; items = lines_items n.lines }
