-- What a token says.
use Rattle.std.specs.Prelude.{ℕ, List}
use Rattle.verilog_tree.specs.Signs.{Sign}

-- A name or a word of the grammar by its bytes, a number, a literal by its width and value, a sign.
-- How a literal was spelled, as 8'h1F or 8'b0001_1111, is not part of it.
pub data Lexeme : Type 0 where
  Word : List ℕ → Lexeme
  Number : ℕ → Lexeme
  Sized : (width value : ℕ) → Lexeme
  Mark : Sign → Lexeme

-- with the place of its first byte
pub record Placed : Type 0 where
  pub at : ℕ
  pub lexeme : Lexeme
