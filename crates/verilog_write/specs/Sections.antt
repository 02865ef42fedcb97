-- The text of some lines of a netlist.
use Rattle.std.specs.Prelude.{ℕ, ◌-◌, ◌^◌, List, [], ◌∷◌, ◌++◌, length, Option, None, Some}
use Rattle.verilog_netlist.specs.Netlist.{Line}
use Rattle.verilog_tree.specs.Lexemes.{Mark, Number}
use Rattle.verilog_tree.specs.Signs as sign
use Rattle.verilog_netlist.specs.Text.{Piece, joined, line_pieces, lines_pieces, space, tight}
use Rattle.verilog_netlist.specs.Netlist.Line.{Net}
use Rattle.hw_pool.specs.declared.node.Node.{Node}
use Rattle.hw_pool.specs.Nodes.{node_at}
use Rattle.hw_module.specs.Rows.{ModuleValue}
use Rattle.module_netlist.specs.Names.{node_name}
use Rattle.module_netlist.specs.Lines.{spread, node_value, wire_line, reg_line, array_line, drive_line, next_line, write_line, out_line}

-- a line's text, and nothing where there is none
unfoldable pub line_text : Option Line → List ℕ
line_text None = []
line_text (Some l) = joined (line_pieces l []) []

abbrev pub lines_text : List Line → List ℕ
lines_text ls = joined (lines_pieces ls []) []

-- the lines f 0, f 1 and so on, n of them
unfoldable pub section : (ℕ → Option Line) → (n : ℕ) → List ℕ
section f n = lines_text (spread f 0 n [])

-- the range of an array's cells
abbrev pub cells_pieces : (bits : ℕ) → List Piece
cells_pieces bits = space (Mark sign.OpenBracket) ∷ tight (Number 0) ∷ tight (Mark sign.Colon) ∷ tight (Number (2 ^ bits - 1)) ∷ tight (Mark sign.CloseBracket) ∷ []

-- the line of a node
abbrev pub net_line : ModuleValue → List Node → ℕ → Line
net_line m nodes k = Net (node_at nodes k).width (node_name k) (node_value m (node_at nodes k).width (node_at nodes k).op)

-- the lines that make forward wires, registers and arrays
unfoldable pub made_text : ModuleValue → List ℕ
made_text m = section (wire_line m) (length m.wires) ++ (section (reg_line m) (length m.regs) ++ section (array_line m) (length m.arrays))

-- the lines that drive them, and the outputs
unfoldable pub driven_text : ModuleValue → List ℕ
driven_text m =
    section (drive_line m) (length m.wires) ++ (section (next_line m) (length m.regs) ++ (section (write_line m) (length m.arrays) ++ section (out_line m) 30))
