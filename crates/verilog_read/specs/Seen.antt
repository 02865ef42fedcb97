-- The tokens of the code as those of the grammar.
use Rattle.std.specs.Prelude.{List, [], ◌∷◌}
use Rattle.verilog_tree.specs.Signs as sign
use Rattle.verilog_tree.specs.Lexemes as lexeme
use Rattle.verilog_read.specs.declared.token.Sign.{Sign}
use Rattle.verilog_read.specs.declared.token.Sign.TheVariants as code
use Rattle.verilog_read.specs.declared.token.Token.{Token}
use Rattle.verilog_read.specs.declared.token.Token.TheVariants.{Word, Number, Literal, Mark}
use Rattle.verilog_read.specs.declared.token.Placed.{Placed}

-- a sign
abbrev pub sign_seen : Sign → sign.Sign
sign_seen code.Open = sign.Open
sign_seen code.Close = sign.Close
sign_seen code.OpenBracket = sign.OpenBracket
sign_seen code.CloseBracket = sign.CloseBracket
sign_seen code.OpenBrace = sign.OpenBrace
sign_seen code.CloseBrace = sign.CloseBrace
sign_seen code.Comma = sign.Comma
sign_seen code.Semicolon = sign.Semicolon
sign_seen code.Colon = sign.Colon
sign_seen code.Question = sign.Question
sign_seen code.Assign = sign.Assign
sign_seen code.LessEqual = sign.LessEqual
sign_seen code.Less = sign.Less
sign_seen code.Equal = sign.Equal
sign_seen code.Plus = sign.Plus
sign_seen code.Minus = sign.Minus
sign_seen code.And = sign.And
sign_seen code.Or = sign.Or
sign_seen code.Xor = sign.Xor
sign_seen code.Not = sign.Not
sign_seen code.At = sign.At

-- what a token says
abbrev pub token_seen : Token → lexeme.Lexeme
token_seen (Word w) = lexeme.Word w
token_seen (Number n) = lexeme.Number n
token_seen (Literal width value) = lexeme.Sized width value
token_seen (Mark s) = lexeme.Mark (sign_seen s)

-- a token with its place
abbrev pub placed_seen : Placed → lexeme.Placed
placed_seen p = record { at = p.at; lexeme = token_seen p.token }

-- some tokens
abbrev pub seen : List Placed → List lexeme.Placed
seen [] = []
seen (p ∷ ps) = placed_seen p ∷ seen ps
