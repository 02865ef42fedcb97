-- What is written of a netlist can be read back: its words are words, its numbers are in their ranges, and each piece
-- is told from the one before it.
use Rattle.std.proofs.Common.{◌≡◌, ℕ, ◌-◌, ◌^◌, ◌≤◌, Bool, true, false, eqb, List, [], ◌∷◌, length, refl, arith}
use Rattle.std.specs.Prelude.{codes}
use Rattle.std.proofs.Math.Pow.{pow_mono}
use Rattle.verilog_tree.specs.Signs as sign
use Rattle.verilog_tree.specs.Lexemes.{Word, Number, Mark}
use Rattle.verilog_tree.specs.Module.{direction, Reads, HasOneReading}
use Rattle.verilog_tree.proofs.ModuleIsRead.{one_tree}
use Rattle.verilog_netlist.specs.Netlist.{Value, Line, Port, Netlist}
use Rattle.verilog_netlist.specs.Netlist.Value.{Constant, Copy, Bits, Cell, Not, Both, Choice, Join}
use Rattle.verilog_netlist.specs.Netlist.Line.{Wire, Net, Reg, Array, Assign, Next, Reset, Write}
use Rattle.verilog_netlist.specs.Text.{Piece, tight, space, row, head, range_pieces, value_pieces, line_pieces, lines_pieces, port_range_pieces, port_pieces, ports_pieces, end_pieces, netlist_pieces, text_of}
use Rattle.verilog_netlist.specs.Places.{place_in, text_tree}
use Rattle.verilog_netlist.specs.Writable.{IsFree, IsWidth, ValueIsWritable, LineIsWritable, LinesAreWritable, PortsAreWritable, IsWritable}
use Rattle.netlist_text.proofs.Rereads.{IsPrintable}
use Rattle.netlist_text.proofs.Tokens.{laid, spaced, ArePrintable, text_tokens}
use Rattle.netlist_text.proofs.Spelled.{netlist_spelled}

-- ---- words and numbers

w_wire : IsPrintable (Word (codes "wire"))
w_wire = ((refl, (refl, (refl, (refl, tt)))), omega arith)

w_reg : IsPrintable (Word (codes "reg"))
w_reg = ((refl, (refl, (refl, tt))), omega arith)

w_assign : IsPrintable (Word (codes "assign"))
w_assign = ((refl, (refl, (refl, (refl, (refl, (refl, tt)))))), omega arith)

w_always : IsPrintable (Word (codes "always"))
w_always = ((refl, (refl, (refl, (refl, (refl, (refl, tt)))))), omega arith)

w_posedge : IsPrintable (Word (codes "posedge"))
w_posedge = ((refl, (refl, (refl, (refl, (refl, (refl, (refl, tt))))))), omega arith)

w_clk : IsPrintable (Word (codes "clk"))
w_clk = ((refl, (refl, (refl, tt))), omega arith)

w_if : IsPrintable (Word (codes "if"))
w_if = ((refl, (refl, tt)), omega arith)

w_else : IsPrintable (Word (codes "else"))
w_else = ((refl, (refl, (refl, (refl, tt)))), omega arith)

w_reset : IsPrintable (Word (codes "reset"))
w_reset = ((refl, (refl, (refl, (refl, (refl, tt))))), omega arith)

w_input : IsPrintable (Word (codes "input"))
w_input = ((refl, (refl, (refl, (refl, (refl, tt))))), omega arith)

w_output : IsPrintable (Word (codes "output"))
w_output = ((refl, (refl, (refl, (refl, (refl, (refl, tt)))))), omega arith)

w_module : IsPrintable (Word (codes "module"))
w_module = ((refl, (refl, (refl, (refl, (refl, (refl, tt)))))), omega arith)

w_endmodule : IsPrintable (Word (codes "endmodule"))
w_endmodule = ((refl, (refl, (refl, (refl, (refl, (refl, (refl, (refl, (refl, tt))))))))), omega arith)

free_word : (x : List ℕ) → IsFree x → IsPrintable (Word x)
free_word x h = (h.word, h.short)

range_printable : (width : ℕ) (more : List Piece) → IsWidth width → ArePrintable more → ArePrintable (range_pieces width more)
range_printable width more h m = (tt, (omega (arith, h.1), (tt, (omega arith, (tt, m)))))

value_printable : (v : Value) (more : List Piece) → ValueIsWritable v → ArePrintable more → ArePrintable (value_pieces v more)
value_printable (Constant width value) more h m = ((h.0.0, h.0.1, h.1), m)
value_printable (Copy a) more h m = (free_word a h, m)
value_printable (Bits a high low) more h m = (free_word a h.0, (tt, (omega (arith, h.1), (tt, (omega (arith, h.2), (tt, m))))))
value_printable (Cell a i) more h m = (free_word a h.0, (tt, (free_word i h.1, (tt, m))))
value_printable (Not a) more h m = (tt, (free_word a h, m))
value_printable (Both s a b) more h m = (free_word a h.0, (tt, (free_word b h.1, m)))
value_printable (Choice t a b) more h m = (free_word t h.0, (tt, (free_word a h.1, (tt, (free_word b h.2, m)))))
value_printable (Join a b) more h m = (tt, (free_word a h.0, (tt, (free_word b h.1, (tt, m)))))

cells_small : (bits : ℕ) → bits ≤ 16 → 2 ^ bits ≤ 65536
cells_small bits h = pow_mono {i = bits} {j = 16} h

line_printable : (l : Line) (more : List Piece) → LineIsWritable l → ArePrintable more → ArePrintable (line_pieces l more)
line_printable (Wire width x) more h m = (w_wire, range_printable width (space (Word x) ∷ tight (Mark sign.Semicolon) ∷ more) h.0 (free_word x h.1, (tt, m)))
line_printable (Net width x v) more h m = (w_wire, range_printable width (space (Word x) ∷ space (Mark sign.Assign) ∷ value_pieces v (tight (Mark sign.Semicolon) ∷ more)) h.0 (free_word x h.1, (tt, value_printable v (tight (Mark sign.Semicolon) ∷ more) h.2 (tt, m))))
line_printable (Reg width x) more h m = (w_reg, range_printable width (space (Word x) ∷ tight (Mark sign.Semicolon) ∷ more) h.0 (free_word x h.1, (tt, m)))
line_printable (Array width x bits) more h m = (w_reg, range_printable width (space (Word x) ∷ space (Mark sign.OpenBracket) ∷ tight (Number 0) ∷ tight (Mark sign.Colon) ∷ tight (Number (2 ^ bits - 1)) ∷ tight (Mark sign.CloseBracket) ∷ tight (Mark sign.Semicolon) ∷ more) h.0 (free_word x h.1, (tt, (omega arith, (tt, (omega (arith, cells_small bits h.2), (tt, (tt, m))))))))
line_printable (Assign x s) more h m = (w_assign, (free_word x h.0, (tt, (free_word s h.1, (tt, m)))))
line_printable (Next x s) more h m = (w_always, (tt, (tt, (w_posedge, (w_clk, (tt, (free_word x h.0, (tt, (free_word s h.1, (tt, m))))))))))
line_printable (Reset x width start s) more h m =
    (w_always, (tt, (tt, (w_posedge, (w_clk, (tt, (w_if, (tt, (w_reset, (tt, (free_word x h.0, (tt, ((h.1.0, h.1.1, h.2), (tt, (w_else, (free_word x h.0, (tt, (free_word s h.3, (tt, m)))))))))))))))))))
line_printable (Write e x i s) more h m =
    (w_always, (tt, (tt, (w_posedge, (w_clk, (tt, (w_if, (tt, (free_word e h.0, (tt, (free_word x h.1, (tt, (free_word i h.2, (tt, (tt, (free_word s h.3, (tt, m)))))))))))))))))

lines_printable : (ls : List Line) (more : List Piece) → LinesAreWritable ls → ArePrintable more → ArePrintable (lines_pieces ls more)
lines_printable [] more h m = m
lines_printable (l ∷ ls) more h m = line_printable l (lines_pieces ls more) h.0 (lines_printable ls more h.1 m)

direction_printable : (input : Bool) → IsPrintable (Word (direction input))
direction_printable true = w_input
direction_printable false = w_output

port_range_printable : (b : Bool) (width : ℕ) (more : List Piece) → IsWidth width → ArePrintable more → ArePrintable (port_range_pieces b width more)
port_range_printable true width more h m = m
port_range_printable false width more h m = range_printable width more h m

port_printable : (q : Port) (more : List Piece) → IsWidth q.width → IsFree q.name → ArePrintable more → ArePrintable (port_pieces q more)
port_printable q more h f m = (direction_printable q.input, port_range_printable (eqb q.width 1) q.width (space (Word q.name) ∷ more) h (free_word q.name f, m))

ports_printable : (qs : List Port) (more : List Piece) → PortsAreWritable qs → ArePrintable more → ArePrintable (ports_pieces qs more)
ports_printable [] more h m = m
ports_printable (q ∷ []) more h m = port_printable q more h.0 h.1 m
ports_printable (q ∷ r ∷ qs) more h m = port_printable q (tight (Mark sign.Comma) ∷ ports_pieces (r ∷ qs) more) h.0 h.1 (tt, ports_printable (r ∷ qs) more h.2 m)

pub netlist_printable : (n : Netlist) → IsWritable n → ArePrintable (netlist_pieces n)
netlist_printable n h = (
  w_module,
  (
    free_word n.name h.name,
    (
      tt,
      ports_printable n.ports (head (Mark sign.Close) ∷ tight (Mark sign.Semicolon) ∷ lines_pieces n.lines end_pieces) h.ports
          (tt, (tt, lines_printable n.lines end_pieces h.lines (w_endmodule, tt))),
    ),
  ),
)

-- ---- what stands between pieces

abbrev ended : List Piece → List Piece
ended more = tight (Mark sign.Semicolon) ∷ more

value_spaced : (v : Value) (more : List Piece) → spaced (ended more) ≡ true → spaced (space (Mark sign.Assign) ∷ value_pieces v (ended more)) ≡ true
value_spaced (Constant width value) more h = h
value_spaced (Copy a) more h = h
value_spaced (Bits a high low) more h = h
value_spaced (Cell a i) more h = h
value_spaced (Not a) more h = h
value_spaced (Both s a b) more h = h
value_spaced (Choice t a b) more h = h
value_spaced (Join a b) more h = h

-- a line behind a ";"
line_spaced : (l : Line) (more : List Piece) → spaced (ended more) ≡ true → spaced (ended (line_pieces l more)) ≡ true
line_spaced (Wire width x) more h = h
line_spaced (Net width x v) more h = value_spaced v more h
line_spaced (Reg width x) more h = h
line_spaced (Array width x bits) more h = h
line_spaced (Assign x s) more h = h
line_spaced (Next x s) more h = h
line_spaced (Reset x width start s) more h = h
line_spaced (Write e x i s) more h = h

lines_spaced : (ls : List Line) (more : List Piece) → spaced (ended more) ≡ true → spaced (ended (lines_pieces ls more)) ≡ true
lines_spaced [] more h = h
lines_spaced (l ∷ ls) more h = line_spaced l (lines_pieces ls more) (lines_spaced ls more h)

-- a port behind a "(" or a ","
port_range_spaced : (b : Bool) (width : ℕ) (x w : List ℕ) (more : List Piece) → spaced (space (Word x) ∷ more) ≡ true → spaced (row (Word w) ∷ port_range_pieces b width (space (Word x) ∷ more)) ≡ true
port_range_spaced true width x w more h = h
port_range_spaced false width x w more h = h

ports_spaced : (qs : List Port) (more : List Piece) → 1 ≤ length qs → ((x : List ℕ) → spaced (space (Word x) ∷ more) ≡ true) → spaced (ports_pieces qs more) ≡ true
ports_spaced [] more n h = absurd (omega arith)
ports_spaced (q ∷ []) more n h = port_range_spaced (eqb q.width 1) q.width q.name (direction q.input) more (h q.name)
ports_spaced (q ∷ r ∷ qs) more n h =
    port_range_spaced (eqb q.width 1) q.width q.name (direction q.input) (tight (Mark sign.Comma) ∷ ports_pieces (r ∷ qs) more)
    (comma_spaced r qs (ports_spaced (r ∷ qs) more (omega arith) h))
  where
    comma_spaced : (r : Port) (qs : List Port) → spaced (ports_pieces (r ∷ qs) more) ≡ true → spaced (space (Word q.name) ∷ tight (Mark sign.Comma) ∷ ports_pieces (r ∷ qs) more) ≡ true
    comma_spaced r [] k = k
    comma_spaced r (s ∷ qs) k = k

open_spaced : (name : List ℕ) (qs : List Port) (more : List Piece) → 1 ≤ length qs → spaced (ports_pieces qs more) ≡ true → spaced (tight (Word (codes "module")) ∷ space (Word name) ∷ tight (Mark sign.Open) ∷ ports_pieces qs more) ≡ true
open_spaced name [] more n h = absurd (omega arith)
open_spaced name (q ∷ []) more n h = h
open_spaced name (q ∷ r ∷ qs) more n h = h

pub netlist_spaced : (n : Netlist) → IsWritable n → spaced (netlist_pieces n) ≡ true
netlist_spaced n h =
    let behind : List Piece = head (Mark sign.Close) ∷ ended (lines_pieces n.lines end_pieces) in
    open_spaced n.name n.ports behind h.some (ports_spaced n.ports behind h.some (λ x. lines_spaced n.lines end_pieces refl))

-- ---- the reading

pub netlist_reads : (n : Netlist) → IsWritable n → HasOneReading (text_of n) (text_tree n)
unfolding text_of
netlist_reads n h =
    let qs = netlist_pieces n in
    let reads : Reads (text_of n) (text_tree n) = (laid (place_in qs) 0 qs, text_tokens qs (netlist_printable n h) (netlist_spaced n h), netlist_spelled (place_in qs) n h) in
    (reads, λ other r. one_tree (text_of n) other (text_tree n) r reads)
