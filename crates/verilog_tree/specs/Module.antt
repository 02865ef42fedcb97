-- The grammar of a module, by the forms of the tree, and which text has which tree.
--
-- module = "module" name "(" port { "," port } ")" ";" { item } "endmodule"
-- port   = ( "input" | "output" ) [ "wire" ] [ range ] name
-- range  = "[" number ":" number "]"
-- item   = "wire" [ range ] name [ "=" expr ] ";"
--        | "reg" [ range ] name [ "[" number ":" number "]" ] ";"
--        | "assign" name "=" expr ";"
--        | "always" "@" "(" "posedge" "clk" ")" stmt
-- stmt   = name "<=" expr ";"
--        | "if" "(" "reset" ")" name "<=" literal ";" "else" name "<=" expr ";"
--        | "if" "(" expr ")" name "[" expr "]" "<=" expr ";"
--
-- Which numbers a range may have, and that the two names of a reset are the same, is no matter of grammar.
-- As for expressions, a form is a relation of a tree, a list of tokens and what is left of it.
use Rattle.std.specs.Prelude.{◌≡◌, ℕ, ◌≤◌, Bool, true, false, ◌⊎◌, List, [], ◌∷◌, length, Option, Some, None, codes}
use Rattle.verilog_tree.specs.Signs.{Sign}
use Rattle.verilog_tree.specs.Signs as sign
use Rattle.verilog_tree.specs.Lexemes.{Word, Placed}
use Rattle.verilog_tree.specs.declared.tree.Driver.{Driver}
use Rattle.verilog_tree.specs.declared.expr.Pair.{Pair}
use Rattle.verilog_tree.specs.declared.tree.PortDecl.{PortDecl}
use Rattle.verilog_tree.specs.declared.tree.Stmt.{Stmt}
use Rattle.verilog_tree.specs.declared.tree.Stmt.TheVariants.{Next, Reset, Write}
use Rattle.verilog_tree.specs.declared.tree.Item.{Item}
use Rattle.verilog_tree.specs.declared.tree.Item.TheVariants.{Wire, Reg, Assign, Always}
use Rattle.verilog_tree.specs.declared.tree.Tree.{Tree}
use Rattle.verilog_tree.specs.declared.expr.Expr.{Expr}
use Rattle.verilog_tree.specs.Grammar.{Spells, SpellsPair, mark, name_token, literal_token, IsName}
use Rattle.verilog_tree.specs.Depth.{depth_of}
use Rattle.verilog_tree.specs.Lex.{HasTokens}

-- a word of the grammar at a place
abbrev pub keyword : ℕ → List ℕ → Placed
keyword at w = record { at = at; lexeme = Word w }

-- an expression, no deeper than 64
abbrev pub SpellsExpr : Expr → List Placed → List Placed → Type 0
SpellsExpr e ts rest = Spells e ts rest × (depth_of e ≤ 64)

-- [ "[" number ":" number "]" ]
abbrev pub SpellsRange : Option Pair → List Placed → List Placed → Type 0
SpellsRange None ts rest = ts ≡ rest
SpellsRange (Some p) ts rest = SpellsPair p ts rest

-- ---- ports

-- [ "wire" ], which leaves nothing in the tree
abbrev pub SpellsWire : List Placed → List Placed → Type 0
SpellsWire ts rest = (ts ≡ rest) ⊎ ((at : ℕ) × (ts ≡ keyword at (codes "wire") ∷ rest))

-- the word before a port
abbrev pub direction : Bool → List ℕ
direction true = codes "input"
direction false = codes "output"

-- ( "input" | "output" ) [ "wire" ] [ range ] name
abbrev pub SpellsPort : PortDecl → List Placed → List Placed → Type 0
SpellsPort p ts rest = (a b : List Placed) ×
    (ts ≡ keyword p.at (direction p.input) ∷ a) × SpellsWire a b × SpellsRange p.range b (name_token p.name ∷ rest) × IsName p.name

-- port { "," port } ")", of which there is one port at least
abbrev pub SpellsPorts : List PortDecl → List Placed → List Placed → Type 0
SpellsPorts [] ts rest = ⊥
SpellsPorts (p ∷ []) ts rest = (close : ℕ) × SpellsPort p ts (mark close sign.Close ∷ rest)
SpellsPorts (p ∷ q ∷ ps) ts rest = (mid : List Placed) × (comma : ℕ) × SpellsPort p ts (mark comma sign.Comma ∷ mid) × SpellsPorts (q ∷ ps) mid rest

-- ---- statements

-- a sign, "=" or "<=", an expression and ";"
abbrev pub SpellsDriver : Sign → Driver → List Placed → List Placed → Type 0
SpellsDriver s d ts rest = (mid : List Placed) × (end : ℕ) × (ts ≡ mark d.sign_at s ∷ mid) × SpellsExpr d.value mid (mark end sign.Semicolon ∷ rest)

-- [ "=" expr ] ";"
abbrev pub SpellsDriven : Option Driver → List Placed → List Placed → Type 0
SpellsDriven None ts rest = (end : ℕ) × (ts ≡ mark end sign.Semicolon ∷ rest)
SpellsDriven (Some d) ts rest = SpellsDriver sign.Assign d ts rest

-- stmt
abbrev pub SpellsStmt : Stmt → List Placed → List Placed → Type 0
-- name "<=" expr ";"
SpellsStmt (Next target driver) ts rest = (mid : List Placed) × IsName target × (ts ≡ name_token target ∷ mid) × SpellsDriver sign.LessEqual driver mid rest
-- "if" "(" "reset" ")" name "<=" literal ";" "else" name "<=" expr ";"
SpellsStmt (Reset at first first_sign_at start target driver) ts rest = (mid : List Placed) × (paren reset close end other : ℕ) × IsName first × IsName target ×
    (ts ≡ keyword at (codes "if") ∷ mark paren sign.Open ∷ keyword reset (codes "reset") ∷ mark close sign.Close ∷ name_token first ∷ mark first_sign_at sign.LessEqual ∷
    literal_token start ∷ mark end sign.Semicolon ∷ keyword other (codes "else") ∷ name_token target ∷ mid) ×
    SpellsDriver sign.LessEqual driver mid rest
-- "if" "(" expr ")" name "[" expr "]" "<=" expr ";"
SpellsStmt (Write at paren_at enable target bracket_at index driver) ts rest = (a b c : List Placed) × (close close' : ℕ) × IsName target ×
    (ts ≡ keyword at (codes "if") ∷ mark paren_at sign.Open ∷ a) × SpellsExpr enable a (mark close sign.Close ∷ name_token target ∷ mark bracket_at sign.OpenBracket ∷ b) ×
    SpellsExpr index b (mark close' sign.CloseBracket ∷ c) × SpellsDriver sign.LessEqual driver c rest

-- ---- items

-- item
abbrev pub SpellsItem : Item → List Placed → List Placed → Type 0
-- "wire" [ range ] name [ "=" expr ] ";"
SpellsItem (Wire at range name driver) ts rest = (a b : List Placed) × IsName name ×
    (ts ≡ keyword at (codes "wire") ∷ a) × SpellsRange range a (name_token name ∷ b) × SpellsDriven driver b rest
-- "reg" [ range ] name [ "[" number ":" number "]" ] ";"
SpellsItem (Reg at range name cells) ts rest = (a b : List Placed) × (end : ℕ) × IsName name ×
    (ts ≡ keyword at (codes "reg") ∷ a) × SpellsRange range a (name_token name ∷ b) × SpellsRange cells b (mark end sign.Semicolon ∷ rest)
-- "assign" name "=" expr ";"
SpellsItem (Assign at target driver) ts rest = (mid : List Placed) × IsName target ×
    (ts ≡ keyword at (codes "assign") ∷ name_token target ∷ mid) × SpellsDriver sign.Assign driver mid rest
-- "always" "@" "(" "posedge" "clk" ")" stmt
SpellsItem (Always at stmt) ts rest = (mid : List Placed) × (sign_at paren edge clock close : ℕ) ×
    (ts ≡ keyword at (codes "always") ∷ mark sign_at sign.At ∷ mark paren sign.Open ∷ keyword edge (codes "posedge") ∷ keyword clock (codes "clk") ∷ mark close sign.Close ∷ mid) ×
    SpellsStmt stmt mid rest

-- { item }
abbrev pub SpellsItems : List Item → List Placed → List Placed → Type 0
SpellsItems [] ts rest = ts ≡ rest
SpellsItems (i ∷ is) ts rest = (mid : List Placed) × SpellsItem i ts mid × SpellsItems is mid rest

-- ---- the module

-- "module" name "(" port { "," port } ")" ";" { item } "endmodule", and no token more
abbrev pub SpellsModule : Tree → List Placed → Type 0
SpellsModule t ts = (a b : List Placed) × (paren semicolon end : ℕ) × IsName t.name ×
    (ts ≡ keyword t.at (codes "module") ∷ name_token t.name ∷ mark paren sign.Open ∷ a) ×
    SpellsPorts t.ports a (mark semicolon sign.Semicolon ∷ b) × SpellsItems t.items b (keyword end (codes "endmodule") ∷ [])

-- the text, as its bytes, has the tree
abbrev pub Reads : List ℕ → Tree → Type 0
Reads bytes tree = (ts : List Placed) × HasTokens (length bytes) bytes ts × SpellsModule tree ts

-- the text has this tree and no other
abbrev pub HasOneReading : List ℕ → Tree → Type 0
HasOneReading bytes tree = Reads bytes tree × ((other : Tree) → Reads bytes other → other ≡ tree)
