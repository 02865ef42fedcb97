-- What a reading function of the code answers, against what reading the tokens gives.
use Rattle.std.specs.Prelude.{◌≡◌, List, Result, Ok, Err}
use Rattle.verilog_tree.specs.Lexemes.{Placed}
use Rattle.verilog_tree.specs.Readers.{Stop, Wrong, Deep}
use Rattle.verilog_read.specs.declared.cursor.Fault.{Fault}
use Rattle.verilog_read.specs.declared.cursor.Fault.TheVariants as fault

-- a fault stands where reading stops, unless memory ran out
abbrev pub Stops : {A : Type 0} → Result A Stop → Fault → List Placed → Type 0
Stops read fault.NoMemory new = Unit {0}
Stops read fault.Wrong new = read ≡ Err (Wrong new)
Stops read fault.Deep new = read ≡ Err (Deep new)

-- what was read, through a view, and the tokens behind it; or where reading stops
abbrev pub Answers : {A B : Type 0} → (B → A) → Result (A × List Placed) Stop → Result B Fault → List Placed → Type 0
Answers view read (Ok x) new = read ≡ Ok (view x, new)
Answers view read (Err e) new = Stops read e new
