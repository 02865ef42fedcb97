-- The grammar of expressions, by the forms of the tree.
--
-- expr    = or [ "?" expr ":" expr ]
-- or      = xor { "|" xor }      xor   = and { "^" and }        and = equal { "&" equal }
-- equal   = less { "==" less }   less  = sum { "<" sum }        sum = unary { ( "+" | "-" ) unary }
-- unary   = "~" primary | primary
-- primary = literal | name | name "[" number ":" number "]" | name "[" expr "]"
--         | "(" expr ")" | "{" expr { "," expr } "}"
--
-- An operator with more than one use groups to the left: a - b - c is (a - b) - c.
--
-- A form is a relation of a tree and two lists of tokens: the first begins with a spelling of the tree, and the second is what is behind it.
use Rattle.std.specs.Prelude.{◌≡◌, ℕ, ◌<◌, ◌≤◌, false, List, ◌∷◌}
use Rattle.verilog_tree.specs.declared.expr.BinSign.{BinSign}
use Rattle.verilog_tree.specs.declared.expr.BinSign.TheVariants as bin
use Rattle.verilog_tree.specs.Signs.{Sign}
use Rattle.verilog_tree.specs.Signs as sign
use Rattle.verilog_tree.specs.Lexemes.{Word, Number, Sized, Mark, Placed}
use Rattle.verilog_tree.specs.Words.{is_reserved}
use Rattle.verilog_tree.specs.declared.expr.Ident.{Ident}
use Rattle.verilog_tree.specs.declared.expr.Lit.{Lit}
use Rattle.verilog_tree.specs.declared.expr.Num.{Num}
use Rattle.verilog_tree.specs.declared.expr.Pair.{Pair}
use Rattle.verilog_tree.specs.declared.expr.Expr.{Expr, Literal, Named, Select, Cell', Paren', Not', Join', Binary', Choice', Row_of-Expr, end_of-Expr, more_of-Expr}

-- the sign of an operator
abbrev pub sign_of : BinSign → Sign
sign_of bin.Or = sign.Or
sign_of bin.Xor = sign.Xor
sign_of bin.And = sign.And
sign_of bin.Equal = sign.Equal
sign_of bin.Less = sign.Less
sign_of bin.Plus = sign.Plus
sign_of bin.Minus = sign.Minus

-- how tightly it binds: the number of its rule
abbrev pub level_of : BinSign → ℕ
level_of bin.Or = 1
level_of bin.Xor = 2
level_of bin.And = 3
level_of bin.Equal = 4
level_of bin.Less = 5
level_of bin.Plus = 6
level_of bin.Minus = 6

-- The rule that an expression comes from, as a number: 0 for a choice, 1 to 6 for an operator, 7 for "~", 8 for a primary.
-- An expression stands where a rule wants one of at least its own number.
abbrev pub level : Expr → ℕ
level (Choice' at at' s test s' first s'' second) = 0
level (Binary' op at s left s' right) = level_of op
level (Not' at s inner) = 7
level e = 8

-- ---- tokens

-- a sign at a place
abbrev pub mark : ℕ → Sign → Placed
mark at s = record { at = at; lexeme = Mark s }

-- the token of a name
abbrev pub name_token : Ident → Placed
name_token i = record { at = i.at; lexeme = Word i.text }

-- of a number
abbrev pub number_token : Num → Placed
number_token n = record { at = n.at; lexeme = Number n.value }

-- and of a literal
abbrev pub literal_token : Lit → Placed
literal_token l = record { at = l.at; lexeme = Sized l.width l.value }

-- a word that is no word of the grammar and none that is unsupported
abbrev pub IsName : Ident → Type 0
IsName i = is_reserved i.text ≡ false

-- ---- expressions

-- "[" number ":" number "]"
abbrev pub SpellsPair : Pair → List Placed → List Placed → Type 0
SpellsPair p ts rest = (colon close : ℕ) ×
    (ts ≡ mark p.at sign.OpenBracket ∷ number_token p.first ∷ mark colon sign.Colon ∷ number_token p.second ∷ mark close sign.CloseBracket ∷ rest)

-- an expression of any level
abbrev mutual
  pub Spells : Expr → List Placed → List Placed → Type 0
  -- literal
  Spells (Literal l) ts rest = ts ≡ literal_token l ∷ rest
  -- name
  Spells (Named i) ts rest = IsName i × (ts ≡ name_token i ∷ rest)
  -- name "[" number ":" number "]"
  Spells (Select i bits) ts rest = (mid : List Placed) × IsName i × (ts ≡ name_token i ∷ mid) × SpellsPair bits mid rest
  -- name "[" expr "]"
  Spells (Cell' i at s (more_of-Expr index end_of-Expr)) ts rest = (mid : List Placed) × (close : ℕ) ×
      IsName i × (ts ≡ name_token i ∷ mark at sign.OpenBracket ∷ mid) × Spells index mid (mark close sign.CloseBracket ∷ rest)
  -- "(" expr ")"
  Spells (Paren' at s (more_of-Expr inner end_of-Expr)) ts rest = (mid : List Placed) × (close : ℕ) ×
      (ts ≡ mark at sign.Open ∷ mid) × Spells inner mid (mark close sign.Close ∷ rest)
  -- "~" primary
  Spells (Not' at s (more_of-Expr inner end_of-Expr)) ts rest = (mid : List Placed) ×
      (ts ≡ mark at sign.Not ∷ mid) × (8 ≤ level inner) × Spells inner mid rest
  -- "{" expr { "," expr } "}"
  Spells (Join' at s parts) ts rest = (mid : List Placed) × (ts ≡ mark at sign.OpenBrace ∷ mid) × SpellsParts parts mid rest
  -- Two operands of an operator. The left one may come from the operator's own rule, since it groups to the left; the right one comes from a rule that binds tighter.
  Spells (Binary' op at s (more_of-Expr left end_of-Expr) s' (more_of-Expr right end_of-Expr)) ts rest = (mid : List Placed) ×
      (level_of op ≤ level left) × (level_of op < level right) × Spells left ts (mark at (sign_of op) ∷ mid) × Spells right mid rest
  -- or "?" expr ":" expr
  Spells (Choice' at at' s (more_of-Expr test end_of-Expr) s' (more_of-Expr first end_of-Expr) s'' (more_of-Expr second end_of-Expr)) ts rest =
      (mid mid' : List Placed) × (1 ≤ level test) ×
      Spells test ts (mark at sign.Question ∷ mid) × Spells first mid (mark at' sign.Colon ∷ mid') × Spells second mid' rest

  -- expr { "," expr } "}", of which there is one expression at least
  pub SpellsParts : {n : _} → Row_of-Expr n → List Placed → List Placed → Type 0
  SpellsParts end_of-Expr ts rest = ⊥
  SpellsParts (more_of-Expr e end_of-Expr) ts rest = (close : ℕ) × Spells e ts (mark close sign.CloseBrace ∷ rest)
  SpellsParts (more_of-Expr e (more_of-Expr f more)) ts rest = (mid : List Placed) × (comma : ℕ) ×
      Spells e ts (mark comma sign.Comma ∷ mid) × SpellsParts (more_of-Expr f more) mid rest
