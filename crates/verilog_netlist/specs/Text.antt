-- The text of a netlist: a row for each port and each line. A port of one bit has no range, a wire, register or array
-- always has one.
use Rattle.std.specs.Prelude.{ℕ, ◌-◌, ◌^◌, Bool, true, false, eqb, List, [], ◌∷◌, ◌++◌, codes}
use Rattle.std.specs.Fmt.{decimal, digits}
use Rattle.verilog_tree.specs.Grammar.{sign_of}
use Rattle.verilog_tree.specs.Lexemes.{Lexeme, Word, Number, Sized, Mark}
use Rattle.verilog_tree.specs.Module.{direction}
use Rattle.verilog_tree.specs.Signs.{Sign}
use Rattle.verilog_tree.specs.Signs as sign
use Rattle.verilog_netlist.specs.Netlist.{Value, Line, Port, Netlist}
use Rattle.verilog_netlist.specs.Netlist.Value.{Constant, Copy, Bits, Cell, Not, Both, Choice, Join}
use Rattle.verilog_netlist.specs.Netlist.Line.{Wire, Net, Reg, Array, Assign, Next, Reset, Write}

-- ---- tokens

abbrev pub sign_bytes : Sign → List ℕ
sign_bytes sign.Open = codes "("
sign_bytes sign.Close = codes ")"
sign_bytes sign.OpenBracket = codes "["
sign_bytes sign.CloseBracket = codes "]"
sign_bytes sign.OpenBrace = codes "{"
sign_bytes sign.CloseBrace = codes "}"
sign_bytes sign.Comma = codes ","
sign_bytes sign.Semicolon = codes ";"
sign_bytes sign.Colon = codes ":"
sign_bytes sign.Question = codes "?"
sign_bytes sign.Assign = codes "="
sign_bytes sign.LessEqual = codes "<="
sign_bytes sign.Less = codes "<"
sign_bytes sign.Equal = codes "=="
sign_bytes sign.Plus = codes "+"
sign_bytes sign.Minus = codes "-"
sign_bytes sign.And = codes "&"
sign_bytes sign.Or = codes "|"
sign_bytes sign.Xor = codes "^"
sign_bytes sign.Not = codes "~"
sign_bytes sign.At = codes "@"

-- a number in decimal, and a literal as its width, "'h" and its value in hexadecimal
abbrev pub spelled : Lexeme → List ℕ
spelled (Word w) = w
spelled (Number n) = decimal n
spelled (Sized width value) = decimal width ++ (codes "'h" ++ digits 16 false value)
spelled (Mark s) = sign_bytes s

-- a token with the spaces before it
pub record Piece : Type 0 where
  pub gap : List ℕ
  pub lexeme : Lexeme

-- right behind the token before, behind a space, at the head of a row, and at the head of an indented row
abbrev pub tight : Lexeme → Piece
tight x = record { gap = []; lexeme = x }

abbrev pub space : Lexeme → Piece
space x = record { gap = codes " "; lexeme = x }

abbrev pub head : Lexeme → Piece
head x = record { gap = codes "\n"; lexeme = x }

abbrev pub row : Lexeme → Piece
row x = record { gap = codes "\n  "; lexeme = x }

-- the bytes of pieces, and then more
abbrev pub joined : List Piece → List ℕ → List ℕ
joined [] more = more
joined (p ∷ ps) more = p.gap ++ (spelled p.lexeme ++ joined ps more)

-- ---- pieces of each form, and then more

abbrev pub range_pieces : (width : ℕ) → List Piece → List Piece
range_pieces width more = space (Mark sign.OpenBracket) ∷ tight (Number (width - 1)) ∷ tight (Mark sign.Colon) ∷ tight (Number 0) ∷ tight (Mark sign.CloseBracket) ∷ more

abbrev pub value_pieces : Value → List Piece → List Piece
value_pieces (Constant width value) more = space (Sized width value) ∷ more
value_pieces (Copy a) more = space (Word a) ∷ more
value_pieces (Bits a high low) more = space (Word a) ∷ tight (Mark sign.OpenBracket) ∷ tight (Number high) ∷ tight (Mark sign.Colon) ∷ tight (Number low) ∷ tight (Mark sign.CloseBracket) ∷ more
value_pieces (Cell a i) more = space (Word a) ∷ tight (Mark sign.OpenBracket) ∷ tight (Word i) ∷ tight (Mark sign.CloseBracket) ∷ more
value_pieces (Not a) more = space (Mark sign.Not) ∷ tight (Word a) ∷ more
value_pieces (Both s a b) more = space (Word a) ∷ space (Mark (sign_of s)) ∷ space (Word b) ∷ more
value_pieces (Choice t a b) more = space (Word t) ∷ space (Mark sign.Question) ∷ space (Word a) ∷ space (Mark sign.Colon) ∷ space (Word b) ∷ more
value_pieces (Join a b) more = space (Mark sign.OpenBrace) ∷ tight (Word a) ∷ tight (Mark sign.Comma) ∷ space (Word b) ∷ tight (Mark sign.CloseBrace) ∷ more

abbrev pub always_pieces : List Piece → List Piece
always_pieces more = row (Word (codes "always")) ∷ space (Mark sign.At) ∷ tight (Mark sign.Open) ∷ tight (Word (codes "posedge")) ∷ space (Word (codes "clk")) ∷ tight (Mark sign.Close) ∷ more

abbrev pub line_pieces : Line → List Piece → List Piece
line_pieces (Wire width x) more = row (Word (codes "wire")) ∷ range_pieces width (space (Word x) ∷ tight (Mark sign.Semicolon) ∷ more)
line_pieces (Net width x v) more = row (Word (codes "wire")) ∷ range_pieces width (space (Word x) ∷ space (Mark sign.Assign) ∷ value_pieces v (tight (Mark sign.Semicolon) ∷ more))
line_pieces (Reg width x) more = row (Word (codes "reg")) ∷ range_pieces width (space (Word x) ∷ tight (Mark sign.Semicolon) ∷ more)
line_pieces (Array width x bits) more = row (Word (codes "reg")) ∷ range_pieces width
    (space (Word x) ∷ space (Mark sign.OpenBracket) ∷ tight (Number 0) ∷ tight (Mark sign.Colon) ∷ tight (Number (2 ^ bits - 1)) ∷ tight (Mark sign.CloseBracket) ∷ tight (Mark sign.Semicolon) ∷ more)
line_pieces (Assign x s) more = row (Word (codes "assign")) ∷ space (Word x) ∷ space (Mark sign.Assign) ∷ space (Word s) ∷ tight (Mark sign.Semicolon) ∷ more
line_pieces (Next x s) more = always_pieces (space (Word x) ∷ space (Mark sign.LessEqual) ∷ space (Word s) ∷ tight (Mark sign.Semicolon) ∷ more)
line_pieces (Reset x width start s) more = always_pieces
    (space (Word (codes "if")) ∷ space (Mark sign.Open) ∷ tight (Word (codes "reset")) ∷ tight (Mark sign.Close) ∷ space (Word x) ∷ space (Mark sign.LessEqual) ∷ space (Sized width start) ∷ tight (Mark sign.Semicolon)
    ∷ space (Word (codes "else")) ∷ space (Word x) ∷ space (Mark sign.LessEqual) ∷ space (Word s) ∷ tight (Mark sign.Semicolon) ∷ more)
line_pieces (Write e x i s) more = always_pieces
    (space (Word (codes "if")) ∷ space (Mark sign.Open) ∷ tight (Word e) ∷ tight (Mark sign.Close) ∷ space (Word x) ∷ tight (Mark sign.OpenBracket) ∷ tight (Word i) ∷ tight (Mark sign.CloseBracket)
    ∷ space (Mark sign.LessEqual) ∷ space (Word s) ∷ tight (Mark sign.Semicolon) ∷ more)

abbrev pub lines_pieces : List Line → List Piece → List Piece
lines_pieces [] more = more
lines_pieces (l ∷ ls) more = line_pieces l (lines_pieces ls more)

abbrev pub port_range_pieces : (one_bit : Bool) → (width : ℕ) → List Piece → List Piece
port_range_pieces true width more = more
port_range_pieces false width more = range_pieces width more

abbrev pub port_pieces : Port → List Piece → List Piece
port_pieces p more = row (Word (direction p.input)) ∷ port_range_pieces (eqb p.width 1) p.width (space (Word p.name) ∷ more)

abbrev pub ports_pieces : List Port → List Piece → List Piece
ports_pieces [] more = more
ports_pieces (p ∷ []) more = port_pieces p more
ports_pieces (p ∷ q ∷ ps) more = port_pieces p (tight (Mark sign.Comma) ∷ ports_pieces (q ∷ ps) more)

abbrev pub end_pieces : List Piece
end_pieces = head (Word (codes "endmodule")) ∷ []

abbrev pub netlist_pieces : Netlist → List Piece
netlist_pieces n = tight (Word (codes "module")) ∷ space (Word n.name) ∷ tight (Mark sign.Open)
    ∷ ports_pieces n.ports (head (Mark sign.Close) ∷ tight (Mark sign.Semicolon) ∷ lines_pieces n.lines end_pieces)

-- ---- the text, with a line feed at its end

unfoldable pub text_of : Netlist → List ℕ
text_of n = joined (netlist_pieces n) (codes "\n")
