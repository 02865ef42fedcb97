-- The tokens of a text, as far as they were found.
use Rattle.std.specs.Prelude.{◌≡◌, ℕ, List, ◌++◌, Option}
use Rattle.verilog_tree.specs.Lexemes.{Placed}
use Rattle.verilog_tree.specs.Lex.{HasTokens}
use Rattle.verilog_read.specs.declared.refusal.UnsupportedForm.{UnsupportedForm}
use Rattle.verilog_read.specs.Places.{HasFront}

-- the tokens of a text are those that were found and those of the rest
pub record Extends (size : ℕ) (bytes : List ℕ) (found : List Placed) (rest : List ℕ) : Type 0 where
  pub forth : (more : List Placed) → HasTokens size rest more → HasTokens size bytes (found ++ more)
  pub front : (more : List Placed) (end : ℕ) (form : Option UnsupportedForm) → HasFront size rest more end form → HasFront size bytes (found ++ more) end form
  pub back : (ts : List Placed) → HasTokens size bytes ts → (more : List Placed) × (ts ≡ found ++ more) × HasTokens size rest more
