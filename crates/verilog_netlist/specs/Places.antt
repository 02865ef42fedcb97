-- The tree of a netlist, where each token has a place. `p` gives the place of a token by its number, and k is the number
-- of the first token of a form.
use Rattle.std.specs.Prelude.{ℕ, suc, zero, ◌+◌, ◌-◌, ◌^◌, Bool, true, false, eqb, List, [], ◌∷◌, length, Option, Some, None}
use Rattle.verilog_tree.specs.declared.expr.Ident.{Ident}
use Rattle.verilog_tree.specs.declared.expr.Pair.{Pair}
use Rattle.verilog_tree.specs.declared.expr.Expr as tree
use Rattle.verilog_tree.specs.declared.expr.Expr.TheVariants as e
use Rattle.verilog_tree.specs.declared.tree.Driver.{Driver}
use Rattle.verilog_tree.specs.declared.tree.PortDecl.{PortDecl}
use Rattle.verilog_tree.specs.declared.tree.Stmt.TheVariants as stmt
use Rattle.verilog_tree.specs.declared.tree.Item as tree_item
use Rattle.verilog_tree.specs.declared.tree.Item.TheVariants as item
use Rattle.verilog_tree.specs.declared.tree.Tree.{Tree}
use Rattle.verilog_netlist.specs.Netlist.{Value, Line, Port, Netlist}
use Rattle.verilog_netlist.specs.Netlist.Value.{Constant, Copy, Bits, Cell, Not, Both, Choice, Join}
use Rattle.verilog_netlist.specs.Netlist.Line.{Wire, Net, Reg, Array, Assign, Next, Reset, Write}
use Rattle.verilog_netlist.specs.Text.{Piece, spelled, netlist_pieces}

abbrev pub named : ℕ → List ℕ → Ident
named at x = record { at = at; text = x }

-- a name as an operand
abbrev pub word : ℕ → List ℕ → tree.Expr
word at x = e.Named (named at x)

-- ---- values

abbrev pub placed_value : (p : ℕ → ℕ) → ℕ → Value → tree.Expr
placed_value p k (Constant width value) = e.Literal (record { at = p k; width = width; value = value })
placed_value p k (Copy a) = word (p k) a
placed_value p k (Bits a high low) = e.Select (named (p k) a) (record { at = p (suc k); first = record { at = p (suc (suc k)); value = high }; second = record { at = p (suc (suc (suc (suc k)))); value = low } })
placed_value p k (Cell a i) = e.Cell (named (p k) a) (p (suc k)) (word (p (suc (suc k))) i)
placed_value p k (Not a) = e.Not (p k) (word (p (suc k)) a)
placed_value p k (Both s a b) = e.Binary s (p (suc k)) (word (p k) a) (word (p (suc (suc k))) b)
placed_value p k (Choice t a b) = e.Choice (p (suc k)) (p (suc (suc (suc k)))) (word (p k) t) (word (p (suc (suc k))) a) (word (p (suc (suc (suc (suc k))))) b)
placed_value p k (Join a b) = e.Join (p k) (word (p (suc k)) a ∷ word (p (suc (suc (suc k)))) b ∷ [])

-- the number of the token behind a form
abbrev pub behind_value : ℕ → Value → ℕ
behind_value k (Constant width value) = (suc k)
behind_value k (Copy a) = (suc k)
behind_value k (Bits a high low) = (suc (suc (suc (suc (suc (suc k))))))
behind_value k (Cell a i) = (suc (suc (suc (suc k))))
behind_value k (Not a) = (suc (suc k))
behind_value k (Both s a b) = (suc (suc (suc k)))
behind_value k (Choice t a b) = (suc (suc (suc (suc (suc k)))))
behind_value k (Join a b) = (suc (suc (suc (suc (suc k)))))

-- ---- lines

-- the range of a width, whose "[" is token k
abbrev pub placed_range : (p : ℕ → ℕ) → ℕ → (width : ℕ) → Pair
placed_range p k width = record { at = p k; first = record { at = p (suc k); value = width - 1 }; second = record { at = p (suc (suc (suc k))); value = 0 } }

-- the cells of an array
abbrev pub placed_cells : (p : ℕ → ℕ) → ℕ → (bits : ℕ) → Pair
placed_cells p k bits = record { at = p k; first = record { at = p (suc k); value = 0 }; second = record { at = p (suc (suc (suc k))); value = 2 ^ bits - 1 } }

-- a sign and a value behind it
abbrev pub placed_driver : (p : ℕ → ℕ) → ℕ → Value → Driver
placed_driver p k v = record { sign_at = p k; value = placed_value p (suc k) v }

abbrev pub placed_line : (p : ℕ → ℕ) → ℕ → Line → tree_item.Item
placed_line p k (Wire width x) = item.Wire (p k) (Some (placed_range p (suc k) width)) (named (p (suc (suc (suc (suc (suc (suc k))))))) x) None
placed_line p k (Net width x v) = item.Wire (p k) (Some (placed_range p (suc k) width)) (named (p (suc (suc (suc (suc (suc (suc k))))))) x) (Some (placed_driver p (suc (suc (suc (suc (suc (suc (suc k))))))) v))
placed_line p k (Reg width x) = item.Reg (p k) (Some (placed_range p (suc k) width)) (named (p (suc (suc (suc (suc (suc (suc k))))))) x) None
placed_line p k (Array width x bits) = item.Reg (p k) (Some (placed_range p (suc k) width)) (named (p (suc (suc (suc (suc (suc (suc k))))))) x) (Some (placed_cells p (suc (suc (suc (suc (suc (suc (suc k))))))) bits))
placed_line p k (Assign x s) = item.Assign (p k) (named (p (suc k)) x) (placed_driver p (suc (suc k)) (Copy s))
placed_line p k (Next x s) = item.Always (p k) (stmt.Next (named (p (suc (suc (suc (suc (suc (suc k))))))) x) (placed_driver p (suc (suc (suc (suc (suc (suc (suc k))))))) (Copy s)))
placed_line p k (Reset x width start s) = item.Always (p k) (stmt.Reset (p (suc (suc (suc (suc (suc (suc k))))))) (named (p (suc (suc (suc (suc (suc (suc (suc (suc (suc (suc k))))))))))) x) (p (suc (suc (suc (suc (suc (suc (suc (suc (suc (suc (suc k)))))))))))) (record { at = p (suc (suc (suc (suc (suc (suc (suc (suc (suc (suc (suc (suc k)))))))))))); width = width; value = start }) (named (p (suc (suc (suc (suc (suc (suc (suc (suc (suc (suc (suc (suc (suc (suc (suc k)))))))))))))))) x) (placed_driver p (suc (suc (suc (suc (suc (suc (suc (suc (suc (suc (suc (suc (suc (suc (suc (suc k)))))))))))))))) (Copy s)))
placed_line p k (Write en x i s) = item.Always (p k) (stmt.Write (p (suc (suc (suc (suc (suc (suc k))))))) (p (suc (suc (suc (suc (suc (suc (suc k)))))))) (word (p (suc (suc (suc (suc (suc (suc (suc (suc k))))))))) en) (named (p (suc (suc (suc (suc (suc (suc (suc (suc (suc (suc k))))))))))) x) (p (suc (suc (suc (suc (suc (suc (suc (suc (suc (suc (suc k)))))))))))) (word (p (suc (suc (suc (suc (suc (suc (suc (suc (suc (suc (suc (suc k))))))))))))) i) (placed_driver p (suc (suc (suc (suc (suc (suc (suc (suc (suc (suc (suc (suc (suc (suc k)))))))))))))) (Copy s)))

abbrev pub behind_line : ℕ → Line → ℕ
behind_line k (Wire width x) = (suc (suc (suc (suc (suc (suc (suc (suc k))))))))
behind_line k (Net width x v) = suc (behind_value (suc (suc (suc (suc (suc (suc (suc (suc k)))))))) v)
behind_line k (Reg width x) = (suc (suc (suc (suc (suc (suc (suc (suc k))))))))
behind_line k (Array width x bits) = (suc (suc (suc (suc (suc (suc (suc (suc (suc (suc (suc (suc (suc k)))))))))))))
behind_line k (Assign x s) = (suc (suc (suc (suc (suc k)))))
behind_line k (Next x s) = (suc (suc (suc (suc (suc (suc (suc (suc (suc (suc k))))))))))
behind_line k (Reset x width start s) = (suc (suc (suc (suc (suc (suc (suc (suc (suc (suc (suc (suc (suc (suc (suc (suc (suc (suc (suc k)))))))))))))))))))
behind_line k (Write en x i s) = (suc (suc (suc (suc (suc (suc (suc (suc (suc (suc (suc (suc (suc (suc (suc (suc (suc k)))))))))))))))))

abbrev pub placed_lines : (p : ℕ → ℕ) → ℕ → List Line → List tree_item.Item
placed_lines p k [] = []
placed_lines p k (l ∷ ls) = placed_line p k l ∷ placed_lines p (behind_line k l) ls

abbrev pub behind_lines : ℕ → List Line → ℕ
behind_lines k [] = k
behind_lines k (l ∷ ls) = behind_lines (behind_line k l) ls

-- ---- ports

abbrev pub placed_port_range : (p : ℕ → ℕ) → ℕ → (one_bit : Bool) → (width : ℕ) → Option Pair
placed_port_range p k true width = None
placed_port_range p k false width = Some (placed_range p k width)

abbrev pub behind_port_range : ℕ → (one_bit : Bool) → ℕ
behind_port_range k true = k
behind_port_range k false = (suc (suc (suc (suc (suc k)))))

abbrev pub placed_port : (p : ℕ → ℕ) → ℕ → Port → PortDecl
placed_port p k q = record {
  at = p k;
  input = q.input;
  range = placed_port_range p (suc k) (eqb q.width 1) q.width;
  name = named (p (behind_port_range (suc k) (eqb q.width 1))) q.name;
}

abbrev pub behind_port : ℕ → Port → ℕ
behind_port k q = suc (behind_port_range (suc k) (eqb q.width 1))

-- each port is followed by one token: a comma or the closing sign
abbrev pub placed_ports : (p : ℕ → ℕ) → ℕ → List Port → List PortDecl
placed_ports p k [] = []
placed_ports p k (q ∷ qs) = placed_port p k q ∷ placed_ports p (suc (behind_port k q)) qs

abbrev pub behind_ports : ℕ → List Port → ℕ
behind_ports k [] = k
behind_ports k (q ∷ qs) = behind_ports (suc (behind_port k q)) qs

-- ---- the module

-- the first port is token 3, and a ";" stands between the ports and the lines
abbrev pub tree_of : (p : ℕ → ℕ) → Netlist → Tree
tree_of p n = record {
  at = p 0;
  name = named (p 1) n.name;
  ports = placed_ports p 3 n.ports;
  items = placed_lines p (suc (behind_ports 3 n.ports)) n.lines;
}

-- the place of a token in the text of pieces: how many bytes stand before it
abbrev pub place_in : List Piece → ℕ → ℕ
place_in [] k = 0
place_in (q ∷ qs) zero = length q.gap
place_in (q ∷ qs) (suc k) = length q.gap + length (spelled q.lexeme) + place_in qs k

-- the tree of the netlist's text
abbrev pub text_tree : Netlist → Tree
text_tree n = tree_of (place_in (netlist_pieces n)) n
