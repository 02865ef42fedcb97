-- The tree of a netlist without its places is the netlist.
use Rattle.std.proofs.Common.{◌≡◌, ℕ, suc, ◌+◌, ◌-◌, ◌^◌, ◌≤◌, Bool, true, false, eqb, List, [], ◌∷◌, Some, None, refl, ap, ◌∙◌, arith}
use Rattle.std.proofs.lemmas.Bool.Decides.{nat_tests}
use Rattle.std.proofs.Math.Pow.{pow_mono}
use Rattle.verilog_tree.specs.declared.expr.Expr.TheBlock.{shape-the_row-Expr-0, hidden-the_row-Expr-0, shape-the_row-Expr-1, hidden-the_row-Expr-1}
use denote.Hole.Carrier.{hidden}
use Rattle.verilog_mean.specs.Plain.Item.{Wire as PlainWire, Reg as PlainReg, Array as PlainArray}
use Rattle.verilog_mean.specs.Erase.{range_width, plain, plain_item, plain_items, plain_port, plain_ports, plain_tree}
use Rattle.verilog_netlist.specs.Netlist.{Value, Line, Port, Netlist}
use Rattle.verilog_netlist.specs.Netlist.Value.{Constant, Copy, Bits, Cell, Not, Both, Choice, Join}
use Rattle.verilog_netlist.specs.Netlist.Line.{Wire, Net, Reg, Array, Assign, Next, Reset, Write}
use Rattle.verilog_netlist.specs.Places.{placed_value, placed_line, behind_line, placed_lines, placed_port_range, placed_ports, behind_port, behind_ports, tree_of}
use Rattle.verilog_netlist.specs.Meaning.{value_expr, line_item, lines_items, port_of, ports_of, plain_of}
use Rattle.verilog_netlist.specs.Writable.{LinesAreWritable, LineIsWritable, PortsAreWritable, IsWritable}

value_plain : (p : ℕ → ℕ) (k : ℕ) (v : Value) → plain (placed_value p k v) ≡ value_expr v
unfolding shape-the_row-Expr-0 hidden-the_row-Expr-0 shape-the_row-Expr-1 hidden-the_row-Expr-1 hidden
value_plain p k (Constant width value) = refl
value_plain p k (Copy a) = refl
value_plain p k (Bits a high low) = refl
value_plain p k (Cell a i) = refl
value_plain p k (Not a) = refl
value_plain p k (Both s a b) = refl
value_plain p k (Choice t a b) = refl
value_plain p k (Join a b) = refl

back : (n : ℕ) → 1 ≤ n → n - 1 + 1 ≡ n
back n h = omega arith

line_plain : (p : ℕ → ℕ) (k : ℕ) (l : Line) → LineIsWritable l → plain_item (placed_line p k l) ≡ line_item l
unfolding shape-the_row-Expr-0 hidden-the_row-Expr-0 shape-the_row-Expr-1 hidden-the_row-Expr-1 hidden
line_plain p k (Wire width x) h = ap (λ (w : ℕ). PlainWire w x None) (back width h.0.0)
line_plain p k (Net width x v) h = λ i. PlainWire (back width h.0.0 i) x (Some (value_plain p (suc (suc (suc (suc (suc (suc (suc (suc k)))))))) v i))
line_plain p k (Reg width x) h = ap (λ (w : ℕ). PlainReg w x) (back width h.0.0)
line_plain p k (Array width x bits) h =
    let some : 1 ≤ 2 ^ bits = pow_mono {i = 0} {j = bits} (omega arith) in
    λ i. PlainArray (back width h.0.0 i) x (back (2 ^ bits) some i)
line_plain p k (Assign x s) h = refl
line_plain p k (Next x s) h = refl
line_plain p k (Reset x width start s) h = refl
line_plain p k (Write e x i s) h = refl

lines_plain : (p : ℕ → ℕ) (k : ℕ) (ls : List Line) → LinesAreWritable ls → plain_items (placed_lines p k ls) ≡ lines_items ls
lines_plain p k [] h = refl
lines_plain p k (l ∷ ls) h = λ i. line_plain p k l h.0 i ∷ lines_plain p (behind_line k l) ls h.1 i

-- ---- ports

port_same : (input : Bool) (width : ℕ) (x : List ℕ) → plain_port input width x ≡ port_of input width x
port_same true width x = refl
port_same false width x = refl

width_back : (p : ℕ → ℕ) (k : ℕ) (b : Bool) (width : ℕ) → eqb width 1 ≡ b → 1 ≤ width → range_width (placed_port_range p k b width) ≡ width
width_back p k true width e h = grind (arith, nat_tests)
width_back p k false width e h = back width h

ports_plain : (p : ℕ → ℕ) (k : ℕ) (qs : List Port) → PortsAreWritable qs → plain_ports (placed_ports p k qs) ≡ ports_of qs
ports_plain p k [] h = refl
ports_plain p k (q ∷ qs) h =
    let one : plain_port q.input (range_width (placed_port_range p (suc k) (eqb q.width 1) q.width)) q.name ≡ port_of q.input q.width q.name =
    ap (λ (w : ℕ). plain_port q.input w q.name) (width_back p (suc k) (eqb q.width 1) q.width refl h.0.0) ∙ port_same q.input q.width q.name in
    λ i. one i ∷ ports_plain p (suc (behind_port k q)) qs h.2 i

pub tree_plain : (p : ℕ → ℕ) (n : Netlist) → IsWritable n → plain_tree (tree_of p n) ≡ plain_of n
tree_plain p n h = λ i. record { ports = ports_plain p 3 n.ports h.ports i; items = lines_plain p (suc (behind_ports 3 n.ports)) n.lines h.lines i }
