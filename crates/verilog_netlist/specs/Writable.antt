-- The netlists that can be written: words that are names, of at most 24 bytes, and numbers in their ranges.
use Rattle.std.specs.Prelude.{◌≡◌, ℕ, suc, zero, ◌^◌, ◌<◌, ◌≤◌, true, false, eqb, List, [], ◌∷◌, length}
use Rattle.verilog_tree.specs.Bytes.{is_letter, is_word_byte}
use Rattle.verilog_tree.specs.Words.{is_reserved}
use Rattle.verilog_netlist.specs.Netlist.{Value, Line, Port, Netlist}
use Rattle.verilog_netlist.specs.Netlist.Value.{Constant, Copy, Bits, Cell, Not, Both, Choice, Join}
use Rattle.verilog_netlist.specs.Netlist.Line.{Wire, Net, Reg, Array, Assign, Next, Reset, Write}

abbrev pub AreWordBytes : List ℕ → Type 0
AreWordBytes [] = Unit {0}
AreWordBytes (b ∷ bs) = (is_word_byte b ≡ true) × AreWordBytes bs

abbrev pub IsWord : List ℕ → Type 0
IsWord [] = ⊥
IsWord (b ∷ bs) = (is_letter b ≡ true) × AreWordBytes bs

-- a word that is free for a name
pub record IsFree (x : List ℕ) : Type 0 where
  pub word : IsWord x
  pub short : length x ≤ 24
  pub free : is_reserved x ≡ false

abbrev pub IsWidth : ℕ → Type 0
IsWidth width = (1 ≤ width) × (width ≤ 64)

abbrev pub ValueIsWritable : Value → Type 0
ValueIsWritable (Constant width value) = IsWidth width × (value < 2 ^ width)
ValueIsWritable (Copy a) = IsFree a
ValueIsWritable (Bits a high low) = IsFree a × (high < 64) × (low < 64)
ValueIsWritable (Cell a i) = IsFree a × IsFree i
ValueIsWritable (Not a) = IsFree a
ValueIsWritable (Both s a b) = IsFree a × IsFree b
ValueIsWritable (Choice t a b) = IsFree t × IsFree a × IsFree b
ValueIsWritable (Join a b) = IsFree a × IsFree b

abbrev pub LineIsWritable : Line → Type 0
LineIsWritable (Wire width x) = IsWidth width × IsFree x
LineIsWritable (Net width x v) = IsWidth width × IsFree x × ValueIsWritable v
LineIsWritable (Reg width x) = IsWidth width × IsFree x
LineIsWritable (Array width x bits) = IsWidth width × IsFree x × (bits ≤ 16)
LineIsWritable (Assign x s) = IsFree x × IsFree s
LineIsWritable (Next x s) = IsFree x × IsFree s
LineIsWritable (Reset x width start s) = IsFree x × IsWidth width × (start < 2 ^ width) × IsFree s
LineIsWritable (Write e x i s) = IsFree e × IsFree x × IsFree i × IsFree s

abbrev pub LinesAreWritable : List Line → Type 0
LinesAreWritable [] = Unit {0}
LinesAreWritable (l ∷ ls) = LineIsWritable l × LinesAreWritable ls

abbrev pub PortsAreWritable : List Port → Type 0
PortsAreWritable [] = Unit {0}
PortsAreWritable (p ∷ ps) = IsWidth p.width × IsFree p.name × PortsAreWritable ps

pub record IsWritable (n : Netlist) : Type 0 where
  pub name : IsFree n.name
  pub some : 1 ≤ length n.ports
  pub ports : PortsAreWritable n.ports
  pub lines : LinesAreWritable n.lines

-- Each row of a text is shorter than `most` bytes, and `before` of them are behind: a row ends at a line feed.
abbrev pub RowsBelow : (most before : ℕ) → List ℕ → Type 0
RowsBelow most before [] = before < most
RowsBelow most before (b ∷ bs) = elim (eqb b 10) [ true ↦ (before < most) × RowsBelow most 0 bs | false ↦ RowsBelow most (suc before) bs ]
