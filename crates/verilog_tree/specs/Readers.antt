-- Reading from left to right with one token of look-ahead: the steps that expressions and modules share.
use Rattle.std.specs.Prelude.{ℕ, Bool, true, false, List, [], ◌∷◌, Result, Ok, Err}
use Rattle.verilog_tree.specs.Signs.{Sign}
use Rattle.verilog_tree.specs.Signs as sign
use Rattle.verilog_tree.specs.Lexemes.{Lexeme, Number, Mark, Placed}
use Rattle.verilog_tree.specs.declared.expr.Num.{Num}

-- Where reading stops, with what is left: at the first token that does not fit, or at a token behind which the expression is too deep.
pub data Stop : Type 0 where
  Wrong : List Placed → Stop
  Deep : List Placed → Stop

-- a value, and the tokens behind what was read
abbrev pub Reader : Type 0 → Type 0
Reader A = List Placed → Result (A × List Placed) Stop

infixl 10 ◌>>=◌
-- one step after another, for as long as they go on
abbrev pub ◌>>=◌ : {A B : Type 0} → Result A Stop → (A → Result B Stop) → Result B Stop
(Ok x) >>= f = f x
(Err e) >>= f = Err e

-- whether two signs are the same
abbrev pub same_sign : Sign → Sign → Bool
same_sign sign.Open sign.Open = true
same_sign sign.Close sign.Close = true
same_sign sign.OpenBracket sign.OpenBracket = true
same_sign sign.CloseBracket sign.CloseBracket = true
same_sign sign.OpenBrace sign.OpenBrace = true
same_sign sign.CloseBrace sign.CloseBrace = true
same_sign sign.Comma sign.Comma = true
same_sign sign.Semicolon sign.Semicolon = true
same_sign sign.Colon sign.Colon = true
same_sign sign.Question sign.Question = true
same_sign sign.Assign sign.Assign = true
same_sign sign.LessEqual sign.LessEqual = true
same_sign sign.Less sign.Less = true
same_sign sign.Equal sign.Equal = true
same_sign sign.Plus sign.Plus = true
same_sign sign.Minus sign.Minus = true
same_sign sign.And sign.And = true
same_sign sign.Or sign.Or = true
same_sign sign.Xor sign.Xor = true
same_sign sign.Not sign.Not = true
same_sign sign.At sign.At = true
same_sign _ _ = false

-- whether a token is a sign
abbrev pub is_mark : Sign → Lexeme → Bool
is_mark s (Mark t) = same_sign s t
is_mark s _ = false

-- the next token, if it passed as the sign
abbrev pub expect_at : Bool → ℕ → List Placed → List Placed → Result (ℕ × List Placed) Stop
expect_at true at ts all = Ok (at, ts)
expect_at false at ts all = Err (Wrong all)

-- a sign that must come: its place, and what follows it
abbrev pub expect : Sign → List Placed → Result (ℕ × List Placed) Stop
expect s [] = Err (Wrong [])
expect s (t ∷ ts) = expect_at (is_mark s t.lexeme) t.at ts (t ∷ ts)

-- the next token, if it is a number
abbrev pub number_at : Lexeme → ℕ → List Placed → List Placed → Result (Num × List Placed) Stop
number_at (Number n) at ts all = Ok (record { at = at; value = n }, ts)
number_at _ at ts all = Err (Wrong all)

-- a number that must come
abbrev pub number : List Placed → Result (Num × List Placed) Stop
number [] = Err (Wrong [])
number (t ∷ ts) = number_at t.lexeme t.at ts (t ∷ ts)
