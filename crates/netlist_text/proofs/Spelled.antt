-- The tokens of a netlist spell its tree.
use Rattle.std.proofs.Common.{ℕ, suc, ◌≤◌, Bool, true, false, eqb, List, [], ◌∷◌, length, refl, inl, arith}
use Rattle.verilog_tree.specs.declared.expr.BinSign.{BinSign}
use Rattle.verilog_tree.specs.declared.expr.BinSign.TheVariants as bin
use Rattle.verilog_tree.specs.declared.expr.Expr.TheBlock.{shape-the_row-Expr-0, hidden-the_row-Expr-0, shape-the_row-Expr-1, hidden-the_row-Expr-1}
use denote.Hole.Carrier.{hidden}
use Rattle.verilog_tree.specs.Signs.{Sign}
use Rattle.verilog_tree.specs.Signs as sign
use Rattle.verilog_tree.specs.Lexemes.{Word, Mark}
use Rattle.verilog_tree.specs.Grammar.{SpellsPair, level_of}
use Rattle.verilog_tree.specs.Module.{SpellsExpr, SpellsRange, SpellsPort, SpellsPorts, SpellsDriver, SpellsItem, SpellsItems, SpellsModule}
use Rattle.verilog_netlist.specs.Netlist.{Value, Line, Port, Netlist}
use Rattle.verilog_netlist.specs.Netlist.Value.{Constant, Copy, Bits, Cell, Not, Both, Choice, Join}
use Rattle.verilog_netlist.specs.Netlist.Line.{Wire, Net, Reg, Array, Assign, Next, Reset, Write}
use Rattle.verilog_netlist.specs.Text.{Piece, tight, space, head, range_pieces, value_pieces, line_pieces, lines_pieces, port_range_pieces, port_pieces, ports_pieces, end_pieces, netlist_pieces}
use Rattle.verilog_netlist.specs.Places.{placed_value, behind_value, placed_range, placed_driver, placed_line, behind_line, placed_lines, behind_lines, placed_port_range, behind_port_range, placed_port, behind_port, placed_ports, behind_ports, tree_of}
use Rattle.verilog_netlist.specs.Writable.{IsFree, ValueIsWritable, LineIsWritable, LinesAreWritable, PortsAreWritable, IsWritable}
use Rattle.netlist_text.proofs.Tokens.{laid}

low : (op : BinSign) → level_of op ≤ 6
low bin.Or = omega arith
low bin.Xor = omega arith
low bin.And = omega arith
low bin.Equal = omega arith
low bin.Less = omega arith
low bin.Plus = omega arith
low bin.Minus = omega arith

value_spelled : (p : ℕ → ℕ) (k : ℕ) (v : Value) (more : List Piece) → ValueIsWritable v → SpellsExpr (placed_value p k v) (laid p k (value_pieces v more)) (laid p (behind_value k v) more)
unfolding shape-the_row-Expr-0 hidden-the_row-Expr-0 shape-the_row-Expr-1 hidden-the_row-Expr-1 hidden
value_spelled p k (Constant width value) more h = (refl, omega arith)
value_spelled p k (Copy a) more h = ((h.free, refl), omega arith)
value_spelled p k (Bits a high low') more h = ((_, h.0.free, refl, (p (suc (suc (suc k))), p (suc (suc (suc (suc (suc k))))), refl)), omega arith)
value_spelled p k (Cell a i) more h = ((_, p (suc (suc (suc k))), h.0.free, refl, (h.1.free, refl)), omega arith)
value_spelled p k (Not a) more h = ((_, refl, omega arith, (h.free, refl)), omega arith)
value_spelled p k (Both s a b) more h = ((_, omega (arith, low s), omega (arith, low s), (h.0.free, refl), (h.1.free, refl)), omega arith)
value_spelled p k (Choice t a b) more h = ((_, _, omega arith, (h.0.free, refl), (h.1.free, refl), (h.2.free, refl)), omega arith)
value_spelled p k (Join a b) more h = ((_, refl, (_, p (suc (suc k)), (h.0.free, refl), (p (suc (suc (suc (suc k)))), (h.1.free, refl)))), omega arith)

-- a sign, a value and ";"
driven : (p : ℕ → ℕ) (k : ℕ) (s : Sign) (v : Value) (more : List Piece) → ValueIsWritable v → SpellsDriver s (placed_driver p k v) (laid p k (space (Mark s) ∷ value_pieces v (tight (Mark sign.Semicolon) ∷ more))) (laid p (suc (behind_value (suc k) v)) more)
driven p k s v more h = (_, p (behind_value (suc k) v), refl, value_spelled p (suc k) v (tight (Mark sign.Semicolon) ∷ more) h)

range_spelled : (p : ℕ → ℕ) (k width : ℕ) (more : List Piece) → SpellsPair (placed_range p k width) (laid p k (range_pieces width more)) (laid p (suc (suc (suc (suc (suc k))))) more)
range_spelled p k width more = (p (suc (suc k)), p (suc (suc (suc (suc k)))), refl)

line_spelled : (p : ℕ → ℕ) (k : ℕ) (l : Line) (more : List Piece) → LineIsWritable l → SpellsItem (placed_line p k l) (laid p k (line_pieces l more)) (laid p (behind_line k l) more)
unfolding shape-the_row-Expr-0 hidden-the_row-Expr-0 shape-the_row-Expr-1 hidden-the_row-Expr-1 hidden
line_spelled p k (Wire width x) more h = (_, _, h.1.free, refl, range_spelled p (suc k) width (space (Word x) ∷ tight (Mark sign.Semicolon) ∷ more), (p (suc (suc (suc (suc (suc (suc (suc k))))))), refl))
line_spelled p k (Net width x v) more h =
    (_, _, h.1.free, refl, range_spelled p (suc k) width (space (Word x) ∷ space (Mark sign.Assign) ∷ value_pieces v (tight (Mark sign.Semicolon) ∷ more)), driven p (suc (suc (suc (suc (suc (suc (suc k))))))) sign.Assign v more h.2)
line_spelled p k (Reg width x) more h = (_, _, p (suc (suc (suc (suc (suc (suc (suc k))))))), h.1.free, refl, range_spelled p (suc k) width (space (Word x) ∷ tight (Mark sign.Semicolon) ∷ more), refl)
line_spelled p k (Array width x bits) more h =
    (_, _, p (suc (suc (suc (suc (suc (suc (suc (suc (suc (suc (suc (suc k)))))))))))), h.1.free, refl, (p (suc (suc (suc k))), p (suc (suc (suc (suc (suc k))))), refl), (p (suc (suc (suc (suc (suc (suc (suc (suc (suc k))))))))), p (suc (suc (suc (suc (suc (suc (suc (suc (suc (suc (suc k))))))))))), refl))
line_spelled p k (Assign x s) more h = (_, h.0.free, refl, driven p (suc (suc k)) sign.Assign (Copy s) more h.1)
line_spelled p k (Next x s) more h = (_, p (suc k), p (suc (suc k)), p (suc (suc (suc k))), p (suc (suc (suc (suc k)))), p (suc (suc (suc (suc (suc k))))), refl, (_, h.0.free, refl, driven p (suc (suc (suc (suc (suc (suc (suc k))))))) sign.LessEqual (Copy s) more h.1))
line_spelled p k (Reset x width start s) more h = (
  _,
  p (suc k),
  p (suc (suc k)),
  p (suc (suc (suc k))),
  p (suc (suc (suc (suc k)))),
  p (suc (suc (suc (suc (suc k))))),
  refl,
  (_, p (suc (suc (suc (suc (suc (suc (suc k))))))), p (suc (suc (suc (suc (suc (suc (suc (suc k)))))))), p (suc (suc (suc (suc (suc (suc (suc (suc (suc k))))))))), p (suc (suc (suc (suc (suc (suc (suc (suc (suc (suc (suc (suc (suc k))))))))))))), p (suc (suc (suc (suc (suc (suc (suc (suc (suc (suc (suc (suc (suc (suc k)))))))))))))), h.0.free, h.0.free, refl, driven p (suc (suc (suc (suc (suc (suc (suc (suc (suc (suc (suc (suc (suc (suc (suc (suc k)))))))))))))))) sign.LessEqual (Copy s) more h.3),
)
line_spelled p k (Write e x i s) more h = (
  _,
  p (suc k),
  p (suc (suc k)),
  p (suc (suc (suc k))),
  p (suc (suc (suc (suc k)))),
  p (suc (suc (suc (suc (suc k))))),
  refl,
  (_, _, _, p (suc (suc (suc (suc (suc (suc (suc (suc (suc k))))))))), p (suc (suc (suc (suc (suc (suc (suc (suc (suc (suc (suc (suc (suc k))))))))))))), h.1.free, refl, ((h.0.free, refl), omega arith), ((h.2.free, refl), omega arith), driven p (suc (suc (suc (suc (suc (suc (suc (suc (suc (suc (suc (suc (suc (suc k)))))))))))))) sign.LessEqual (Copy s) more h.3),
)

lines_spelled : (p : ℕ → ℕ) (k : ℕ) (ls : List Line) (more : List Piece) → LinesAreWritable ls → SpellsItems (placed_lines p k ls) (laid p k (lines_pieces ls more)) (laid p (behind_lines k ls) more)
lines_spelled p k [] more h = refl
lines_spelled p k (l ∷ ls) more h = (_, line_spelled p k l (lines_pieces ls more) h.0, lines_spelled p (behind_line k l) ls more h.1)

-- ---- ports

port_range_spelled : (p : ℕ → ℕ) (k : ℕ) (b : Bool) (width : ℕ) (more : List Piece) → SpellsRange (placed_port_range p k b width) (laid p k (port_range_pieces b width more)) (laid p (behind_port_range k b) more)
port_range_spelled p k true width more = refl
port_range_spelled p k false width more = range_spelled p k width more

port_spelled : (p : ℕ → ℕ) (k : ℕ) (q : Port) (more : List Piece) → IsFree q.name → SpellsPort (placed_port p k q) (laid p k (port_pieces q more)) (laid p (behind_port k q) more)
port_spelled p k q more h = (_, _, refl, inl refl, port_range_spelled p (suc k) (eqb q.width 1) q.width (space (Word q.name) ∷ more), h.free)

ports_spelled : (p : ℕ → ℕ) (k : ℕ) (qs : List Port) (more : List Piece) → 1 ≤ length qs → PortsAreWritable qs → SpellsPorts (placed_ports p k qs) (laid p k (ports_pieces qs (head (Mark sign.Close) ∷ more))) (laid p (behind_ports k qs) more)
ports_spelled p k [] more n h = absurd (omega arith)
ports_spelled p k (q ∷ []) more n h = (p (behind_port k q), port_spelled p k q (head (Mark sign.Close) ∷ more) h.1)
ports_spelled p k (q ∷ r ∷ qs) more n h =
    (_, p (behind_port k q), port_spelled p k q (tight (Mark sign.Comma) ∷ ports_pieces (r ∷ qs) (head (Mark sign.Close) ∷ more)) h.1, ports_spelled p (suc (behind_port k q)) (r ∷ qs) more (omega arith) h.2)

-- ---- the module

pub netlist_spelled : (p : ℕ → ℕ) (n : Netlist) → IsWritable n → SpellsModule (tree_of p n) (laid p 0 (netlist_pieces n))
netlist_spelled p n h = (
  _,
  _,
  p 2,
  p (behind_ports 3 n.ports),
  p (behind_lines (suc (behind_ports 3 n.ports)) n.lines),
  h.name.free,
  refl,
  ports_spelled p 3 n.ports (tight (Mark sign.Semicolon) ∷ lines_pieces n.lines end_pieces) h.some h.ports,
  lines_spelled p (suc (behind_ports 3 n.ports)) n.lines end_pieces h.lines,
)
