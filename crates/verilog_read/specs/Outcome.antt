-- What the reader answers.
use Rattle.std.specs.Prelude.{◌≡◌, Result, Ok, Err}
use Rattle.verilog_tree.specs.declared.tree.Tree.{Tree}
use Rattle.verilog_read.specs.declared.refusal.ReadRefusal.{ReadRefusal}
use Rattle.verilog_read.specs.declared.refusal.ReadRefusal.TheVariants.{TooLong, Unsupported, Text, NoMemory}

-- a refusal at a place of the text
abbrev pub IsPlaced : ReadRefusal → Type 0
IsPlaced (TooLong len) = ⊥
IsPlaced (Unsupported at form) = Unit {0}
IsPlaced (Text at) = Unit {0}
IsPlaced NoMemory = ⊥

-- a refusal that is not for the length of the text
abbrev pub IsShort : ReadRefusal → Type 0
IsShort (TooLong len) = ⊥
IsShort other = Unit {0}

-- the answer is this tree, unless memory ran out
abbrev pub IsTree : Result Tree ReadRefusal → Tree → Type 0
IsTree (Ok t) u = t ≡ u
IsTree (Err NoMemory) u = Unit {0}
IsTree (Err other) u = ⊥
