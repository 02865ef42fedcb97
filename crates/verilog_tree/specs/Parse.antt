-- The expression at the head of a list of tokens, as a function: it reads an operand, and then operators of its level and above for as long as they come.
use Rattle.std.specs.Prelude.{ℕ, zero, suc, Bool, true, false, List, [], ◌∷◌, length, Option, Some, None, Result, Ok, Err, nat_le}
use Rattle.verilog_tree.specs.declared.expr.BinSign.{BinSign}
use Rattle.verilog_tree.specs.declared.expr.BinSign.TheVariants as bin
use Rattle.verilog_tree.specs.Signs.{Sign}
use Rattle.verilog_tree.specs.Signs as sign
use Rattle.verilog_tree.specs.Lexemes.{Lexeme, Word, Number, Sized, Mark, Placed}
use Rattle.verilog_tree.specs.Words.{is_reserved}
use Rattle.verilog_tree.specs.declared.expr.Ident.{Ident}
use Rattle.verilog_tree.specs.declared.expr.Num.{Num}
use Rattle.verilog_tree.specs.declared.expr.Expr.{Expr, Literal, Named, Select}
use Rattle.verilog_tree.specs.declared.expr.Expr.TheVariants.{Cell, Paren, Not, Join, Binary, Choice}
use Rattle.verilog_tree.specs.Depth.{depth_of}
use Rattle.verilog_tree.specs.Grammar.{level_of}
use Rattle.verilog_tree.specs.Readers.{Stop, Wrong, Deep, ◌>>=◌, expect, is_mark, number}

-- an expression and what follows it
abbrev pub Read : Type 0
Read = Result (Expr × List Placed) Stop

-- what reads an expression
abbrev pub Parser : Type 0
Parser = List Placed → Read

-- one of two, the other of which is not computed
abbrev pub either_way : Bool → (Unit {0} → Read) → (Unit {0} → Read) → Read
either_way true first second = first tt
either_way false first second = second tt

-- ---- what stands behind an operand

-- the operator that a sign is, if any
abbrev pub operator : Sign → Option BinSign
operator sign.Or = Some bin.Or
operator sign.Xor = Some bin.Xor
operator sign.And = Some bin.And
operator sign.Equal = Some bin.Equal
operator sign.Less = Some bin.Less
operator sign.Plus = Some bin.Plus
operator sign.Minus = Some bin.Minus
operator _ = None

-- what an expression goes on with
pub data Next : Type 0 where
  Operator : BinSign → ℕ → List Placed → Next
  Question : ℕ → List Placed → Next
  Nothing : Next

-- an operator at a place
abbrev pub operates : Option BinSign → ℕ → List Placed → Next
operates None at ts = Nothing
operates (Some op) at ts = Operator op at ts

-- what a token goes on with
abbrev pub next_at : Lexeme → ℕ → List Placed → Next
next_at (Mark sign.Question) at ts = Question at ts
next_at (Mark s) at ts = operates (operator s) at ts
next_at _ at ts = Nothing

-- what the next token goes on with
abbrev pub next : List Placed → Next
next [] = Nothing
next (t ∷ ts) = next_at t.lexeme t.at ts

-- ---- behind a name

-- the second number of a selection, behind the first
unfoldable pub selection : Ident → ℕ → Num → List Placed → Read
selection i at first ts = expect sign.Colon ts >>= λ colon.
    number colon.1 >>= λ second.
    expect sign.CloseBracket second.1 >>= λ close.
    Ok (Select i (record { at = at; first = first; second = second.0 }), close.1)

-- an array's index and "]"
unfoldable pub cell : (ℕ → Parser) → Ident → ℕ → List Placed → Read
cell part i at ts = part 0 ts >>= λ index. expect sign.CloseBracket index.1 >>= λ close. Ok (Cell i at index.0, close.1)

-- behind "["
abbrev pub indexed_at : (ℕ → Parser) → Ident → ℕ → Lexeme → ℕ → List Placed → List Placed → Read
indexed_at part i at (Number n) at' ts all = selection i at (record { at = at'; value = n }) ts
indexed_at part i at _ at' ts all = cell part i at all

-- numbers behind "[" are a selection, anything else is an index
abbrev pub indexed : (ℕ → Parser) → Ident → ℕ → List Placed → Read
indexed part i at [] = cell part i at []
indexed part i at (t ∷ ts) = indexed_at part i at t.lexeme t.at ts (t ∷ ts)

-- behind a name
abbrev pub named_at : (ℕ → Parser) → Ident → Bool → ℕ → List Placed → List Placed → Read
named_at part i true at ts all = indexed part i at ts
named_at part i false at ts all = Ok (Named i, all)

-- a name, and brackets if they follow
abbrev pub named : (ℕ → Parser) → Ident → List Placed → Read
named part i [] = Ok (Named i, [])
named part i (t ∷ ts) = named_at part i (is_mark sign.OpenBracket t.lexeme) t.at ts (t ∷ ts)

-- ---- behind "{"

-- expressions and what follows them
abbrev pub Parts : Type 0
Parts = Result (List Expr × List Placed) Stop

-- behind a part: "," and more parts, or "}"
abbrev pub parts_after : (List Placed → Parts) → Expr → Lexeme → List Placed → List Placed → Parts
parts_after more e (Mark sign.Comma) ts all = more ts >>= λ rest. Ok (e ∷ rest.0, rest.1)
parts_after more e (Mark sign.CloseBrace) ts all = Ok (e ∷ [], ts)
parts_after more e _ ts all = Err (Wrong all)

-- behind a part, at the next token
abbrev pub parts_behind : (List Placed → Parts) → Expr → List Placed → Parts
parts_behind more e [] = Err (Wrong [])
parts_behind more e (t ∷ ts) = parts_after more e t.lexeme ts (t ∷ ts)

-- the parts of a join, of which there are at most this many
unfoldable pub parts : (ℕ → Parser) → ℕ → List Placed → Parts
parts part zero ts = Err (Wrong ts)
parts part (suc n) ts = part 0 ts >>= λ first. parts_behind (parts part n) first.0 first.1

-- ---- an operand

-- behind "("
unfoldable pub paren : (ℕ → Parser) → ℕ → List Placed → Read
paren part at ts = part 0 ts >>= λ inner. expect sign.Close inner.1 >>= λ close. Ok (Paren at inner.0, close.1)

-- behind "~"
unfoldable pub negated : (ℕ → Parser) → ℕ → List Placed → Read
negated part at ts = part 8 ts >>= λ inner. Ok (Not at inner.0, inner.1)

-- behind "{"
unfoldable pub joined : (ℕ → Parser) → ℕ → List Placed → Read
joined part at ts = parts part (length ts) ts >>= λ all. Ok (Join at all.0, all.1)

-- a word, which must be a name
abbrev pub word_at : (ℕ → Parser) → Bool → Ident → List Placed → List Placed → Read
word_at part true i ts all = Err (Wrong all)
word_at part false i ts all = named part i ts

-- behind "~" the level is 8, where no second "~" may stand
abbrev pub start_at : (ℕ → Parser) → ℕ → Lexeme → ℕ → List Placed → List Placed → Read
start_at part n (Sized w v) at ts all = Ok (Literal (record { at = at; width = w; value = v }), ts)
start_at part n (Word w) at ts all = word_at part (is_reserved w) (record { at = at; text = w }) ts all
start_at part n (Mark sign.Open) at ts all = paren part at ts
start_at part n (Mark sign.OpenBrace) at ts all = joined part at ts
start_at part n (Mark sign.Not) at ts all = either_way (nat_le n 7) (λ _. negated part at ts) (λ _. Err (Wrong all))
start_at part n _ at ts all = Err (Wrong all)

-- an operand
abbrev pub start : (ℕ → Parser) → ℕ → List Placed → Read
start part n [] = Err (Wrong [])
start part n (t ∷ ts) = start_at part n t.lexeme t.at ts (t ∷ ts)

-- ---- operators

-- behind "?"
unfoldable pub choice : (ℕ → Parser) → Expr → ℕ → List Placed → Read
choice part test at ts = part 0 ts >>= λ first. expect sign.Colon first.1 >>= λ colon. part 0 colon.1 >>= λ second.
    Ok (Choice at colon.0 test first.0 second.0, second.1)

-- behind an operator: its right operand, and what the expression goes on with
unfoldable pub operation : (ℕ → Parser) → (Expr → Parser) → BinSign → ℕ → Expr → List Placed → Read
operation part more op at left ts = part (suc (level_of op)) ts >>= λ right. more (Binary op at left right.0) right.1

-- goes on with operators of this level and above, each of which makes the expression deeper than its left operand
abbrev pub goes_at : (ℕ → Parser) → (Expr → Parser) → ℕ → ℕ → Expr → Next → Parser
goes_at part more d n left (Operator op at ts) all =
    either_way (nat_le n (level_of op)) (λ _. either_way (nat_le (depth_of left) d) (λ _. operation part more op at left ts) (λ _. Err (Deep all))) (λ _. Ok (left, all))
goes_at part more d n left (Question at ts) all =
    either_way (nat_le n 0) (λ _. either_way (nat_le (depth_of left) d) (λ _. choice part left at ts) (λ _. Err (Deep all))) (λ _. Ok (left, all))
goes_at part more d n left Nothing all = Ok (left, all)

-- at most this many times
unfoldable pub goes_on : (ℕ → Parser) → ℕ → ℕ → ℕ → Expr → Parser
goes_on part d n zero left ts = Err (Deep ts)
goes_on part d n (suc turns) left ts = goes_at part (goes_on part d n turns) d n left (next ts) ts

-- ---- an expression

-- of level n or above, no deeper than d
unfoldable pub parse : ℕ → ℕ → Parser
parse zero n ts = Err (Deep ts)
parse (suc d) n ts = start (parse d) n ts >>= λ first. goes_on (parse d) d n (suc d) first.0 first.1
