-- Each row of a netlist fits, and there is one for each port and each line, and three more.
use Rattle.std.proofs.Common.{◌≡◌, ℕ, ◌+◌, ◌-◌, ◌*◌, ◌^◌, ◌<◌, ◌≤◌, Bool, true, false, eqb, List, [], ◌∷◌, length, refl, arith, ◌++◌, length-append}
use Rattle.std.specs.Prelude.{codes}
use Rattle.std.specs.Fmt.{decimal, digits}
use Rattle.std.proofs.Math.Pow.{pow_mono}
use Rattle.verilog_tree.specs.declared.expr.BinSign.{BinSign}
use Rattle.verilog_tree.specs.declared.expr.BinSign.TheVariants as bin
use Rattle.verilog_tree.specs.Signs as sign
use Rattle.verilog_tree.specs.Lexemes.{Word, Sized, Mark}
use Rattle.verilog_tree.specs.Grammar.{sign_of}
use Rattle.verilog_tree.specs.Module.{direction}
use Rattle.verilog_netlist.specs.Netlist.{Value, Line, Port, Netlist}
use Rattle.verilog_netlist.specs.Netlist.Value.{Constant, Copy, Bits, Cell, Not, Both, Choice, Join}
use Rattle.verilog_netlist.specs.Netlist.Line.{Wire, Net, Reg, Array, Assign, Next, Reset, Write}
use Rattle.verilog_netlist.specs.Text.{Piece, tight, space, head, sign_bytes, spelled, value_pieces, line_pieces, lines_pieces, port_range_pieces, port_pieces, ports_pieces, end_pieces, netlist_pieces, text_of}
use Rattle.verilog_netlist.specs.Writable.{IsFree, IsWidth, ValueIsWritable, LineIsWritable, LinesAreWritable, PortsAreWritable, IsWritable, RowsBelow}
use Rattle.netlist_text.proofs.Rows.{hex_short, two_digits, five_digits, RowsFit, rows_below, feeds, rows_size}
use Rattle.netlist_text.proofs.Reading.{netlist_printable}

-- ---- parts

range_digits : (width : ℕ) → IsWidth width → length (decimal (width - 1)) ≤ 2
range_digits width h = two_digits (width - 1) (omega (arith, h.1))

zero_digit : length (decimal 0) ≤ 2
zero_digit = two_digits 0 (omega arith)

cell_digits : (bits : ℕ) → bits ≤ 16 → length (decimal (2 ^ bits - 1)) ≤ 5
cell_digits bits h = let most : 2 ^ bits ≤ 65536 = pow_mono {i = bits} {j = 16} h in five_digits (2 ^ bits - 1) (omega arith)

sign_short : (s : BinSign) → length (sign_bytes (sign_of s)) ≤ 2
sign_short bin.Or = omega arith
sign_short bin.Xor = omega arith
sign_short bin.And = omega arith
sign_short bin.Equal = omega arith
sign_short bin.Less = omega arith
sign_short bin.Plus = omega arith
sign_short bin.Minus = omega arith

direction_short : (input : Bool) → length (direction input) ≤ 6
direction_short true = omega arith
direction_short false = omega arith

literal_short : (width value : ℕ) → IsWidth width → value < 2 ^ width → length (spelled (Sized width value)) ≤ 20
literal_short width value h lt = omega (arith, length-append (decimal width) (codes "'h" ++ digits 16 false value), two_digits width h.1, hex_short width value h.1 lt)

-- what follows a row
abbrev RowFollows : List Piece → Type 0
RowFollows more = (b : ℕ) → b < 160 → RowsFit b more

-- ---- lines

value_fits : (v : Value) (b : ℕ) (more : List Piece) → ValueIsWritable v → b ≤ 50 → RowFollows more → RowsFit b (value_pieces v (tight (Mark sign.Semicolon) ∷ more))
value_fits (Constant width value) b more h l f = f _ (omega (arith, literal_short width value h.0 h.1))
value_fits (Copy a) b more h l f = f _ (omega (arith, h.short))
value_fits (Bits a high low) b more h l f = f _ (omega (arith, h.0.short, two_digits high (omega (arith, h.1)), two_digits low (omega (arith, h.2))))
value_fits (Cell a i) b more h l f = f _ (omega (arith, h.0.short, h.1.short))
value_fits (Not a) b more h l f = f _ (omega (arith, h.short))
value_fits (Both s a c) b more h l f = f _ (omega (arith, h.0.short, h.1.short, sign_short s))
value_fits (Choice t a c) b more h l f = f _ (omega (arith, h.0.short, h.1.short, h.2.short))
value_fits (Join a c) b more h l f = f _ (omega (arith, h.0.short, h.1.short))

line_fits : (l : Line) (b : ℕ) (more : List Piece) → LineIsWritable l → b < 160 → RowFollows more → RowsFit b (line_pieces l more)
line_fits (Wire width x) b more h l f = (l, f _ (omega (arith, range_digits width h.0, zero_digit, h.1.short)))
line_fits (Net width x v) b more h l f = (l, value_fits v _ more h.2 (omega (arith, range_digits width h.0, zero_digit, h.1.short)) f)
line_fits (Reg width x) b more h l f = (l, f _ (omega (arith, range_digits width h.0, zero_digit, h.1.short)))
line_fits (Array width x bits) b more h l f = (l, f _ (omega (arith, range_digits width h.0, zero_digit, h.1.short, cell_digits bits h.2)))
line_fits (Assign x s) b more h l f = (l, f _ (omega (arith, h.0.short, h.1.short)))
line_fits (Next x s) b more h l f = (l, f _ (omega (arith, h.0.short, h.1.short)))
line_fits (Reset x width start s) b more h l f = (l, f _ (omega (arith, h.0.short, literal_short width start h.1 h.2, h.3.short)))
line_fits (Write e x i s) b more h l f = (l, f _ (omega (arith, h.0.short, h.1.short, h.2.short, h.3.short)))

lines_fit : (ls : List Line) (more : List Piece) → LinesAreWritable ls → RowFollows more → RowFollows (lines_pieces ls more)
lines_fit [] more h f = f
lines_fit (l ∷ ls) more h f = λ b k. line_fits l b (lines_pieces ls more) h.0 k (lines_fit ls more h.1 f)

-- ---- ports

port_range_fits : (b : Bool) (width before : ℕ) (more : List Piece) → IsWidth width → before ≤ 10 → ((c : ℕ) → c ≤ 20 → RowsFit c more) → RowsFit before (port_range_pieces b width more)
port_range_fits true width before more h l f = f before (omega arith)
port_range_fits false width before more h l f = f _ (omega (arith, range_digits width h, zero_digit))

port_fits : (q : Port) (b : ℕ) (more : List Piece) → IsWidth q.width → IsFree q.name → b < 160 → ((c : ℕ) → c < 100 → RowsFit c more) → RowsFit b (port_pieces q more)
port_fits q b more h n l f =
    (l, port_range_fits (eqb q.width 1) q.width _ (space (Word q.name) ∷ more) h (omega (arith, direction_short q.input)) (λ c k. f _ (omega (arith, n.short))))

ports_fit : (qs : List Port) (more : List Piece) → PortsAreWritable qs → RowFollows more → RowFollows (ports_pieces qs more)
ports_fit [] more h f = f
ports_fit (q ∷ []) more h f = λ b k. port_fits q b more h.0 h.1 k (λ c l. f c (omega arith))
ports_fit (q ∷ r ∷ qs) more h f = λ b k. port_fits q b (tight (Mark sign.Comma) ∷ ports_pieces (r ∷ qs) more) h.0 h.1 k (λ c l. ports_fit (r ∷ qs) more h.2 f _ (omega arith))

-- ---- the module

netlist_fits : (n : Netlist) → IsWritable n → RowsFit 0 (netlist_pieces n)
netlist_fits n h =
    ports_fit n.ports (head (Mark sign.Close) ∷ tight (Mark sign.Semicolon) ∷ lines_pieces n.lines end_pieces) h.ports
    (λ b k. (k, lines_fit n.lines end_pieces h.lines (λ c l. (l, omega arith)) _ (omega arith))) _ (omega (arith, h.name.short))

pub netlist_rows : (n : Netlist) → IsWritable n → RowsBelow 160 0 (text_of n)
unfolding text_of
netlist_rows n h = rows_below 0 (netlist_pieces n) (netlist_printable n h) (netlist_fits n h)

-- ---- how many rows there are

value_feeds : (v : Value) (more : List Piece) → feeds (value_pieces v more) ≡ feeds more
value_feeds (Constant width value) more = omega arith
value_feeds (Copy a) more = omega arith
value_feeds (Bits a high low) more = omega arith
value_feeds (Cell a i) more = omega arith
value_feeds (Not a) more = omega arith
value_feeds (Both s a b) more = omega arith
value_feeds (Choice t a b) more = omega arith
value_feeds (Join a b) more = omega arith

line_feeds : (l : Line) (more : List Piece) → feeds (line_pieces l more) ≡ 1 + feeds more
line_feeds (Wire width x) more = omega arith
line_feeds (Net width x v) more = omega (arith, value_feeds v (tight (Mark sign.Semicolon) ∷ more))
line_feeds (Reg width x) more = omega arith
line_feeds (Array width x bits) more = omega arith
line_feeds (Assign x s) more = omega arith
line_feeds (Next x s) more = omega arith
line_feeds (Reset x width start s) more = omega arith
line_feeds (Write e x i s) more = omega arith

lines_feeds : (ls : List Line) (more : List Piece) → feeds (lines_pieces ls more) ≡ length ls + feeds more
lines_feeds [] more = omega arith
lines_feeds (l ∷ ls) more = omega (arith, line_feeds l (lines_pieces ls more), lines_feeds ls more)

port_range_feeds : (b : Bool) (width : ℕ) (more : List Piece) → feeds (port_range_pieces b width more) ≡ feeds more
port_range_feeds true width more = refl
port_range_feeds false width more = omega arith

port_feeds : (q : Port) (more : List Piece) → feeds (port_pieces q more) ≡ 1 + feeds more
port_feeds q more = omega (arith, port_range_feeds (eqb q.width 1) q.width (space (Word q.name) ∷ more))

ports_feeds : (qs : List Port) (more : List Piece) → feeds (ports_pieces qs more) ≡ length qs + feeds more
ports_feeds [] more = omega arith
ports_feeds (q ∷ []) more = omega (arith, port_feeds q more)
ports_feeds (q ∷ r ∷ qs) more = omega (arith, port_feeds q (tight (Mark sign.Comma) ∷ ports_pieces (r ∷ qs) more), ports_feeds (r ∷ qs) more)

netlist_feeds : (n : Netlist) → feeds (netlist_pieces n) ≡ length n.ports + length n.lines + 2
netlist_feeds n = omega (arith, ports_feeds n.ports (head (Mark sign.Close) ∷ tight (Mark sign.Semicolon) ∷ lines_pieces n.lines end_pieces), lines_feeds n.lines end_pieces)

pub netlist_size : (n : Netlist) → IsWritable n → length (text_of n) ≤ 160 * (length n.ports + length n.lines + 3)
unfolding text_of
netlist_size n h = omega (arith, rows_size 0 (netlist_pieces n) (netlist_fits n h), netlist_feeds n)
