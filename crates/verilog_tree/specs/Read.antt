-- The module that a list of tokens spells, as a function.
use Rattle.std.specs.Prelude.{ℕ, zero, suc, Bool, true, false, List, [], ◌∷◌, length, Option, Some, None, Result, Ok, Err, codes}
use Rattle.verilog_tree.specs.Signs.{Sign}
use Rattle.verilog_tree.specs.Signs as sign
use Rattle.verilog_tree.specs.Lexemes.{Lexeme, Word, Sized, Placed}
use Rattle.verilog_tree.specs.declared.expr.Ident.{Ident}
use Rattle.verilog_tree.specs.declared.expr.Lit.{Lit}
use Rattle.verilog_tree.specs.declared.expr.Pair.{Pair}
use Rattle.verilog_tree.specs.declared.expr.Expr.{Expr}
use Rattle.verilog_tree.specs.declared.expr.Expr.TheVariants.{Named}
use Rattle.verilog_tree.specs.declared.tree.Driver.{Driver}
use Rattle.verilog_tree.specs.declared.tree.PortDecl.{PortDecl}
use Rattle.verilog_tree.specs.declared.tree.Stmt.{Stmt}
use Rattle.verilog_tree.specs.declared.tree.Stmt.TheVariants.{Next, Reset, Write}
use Rattle.verilog_tree.specs.declared.tree.Item.{Item}
use Rattle.verilog_tree.specs.declared.tree.Item.TheVariants.{Wire, Reg, Assign, Always}
use Rattle.verilog_tree.specs.declared.tree.Tree.{Tree}
use Rattle.verilog_tree.specs.Bytes.{choose}
use Rattle.verilog_tree.specs.Words.{same_bytes, is_reserved}
use Rattle.verilog_tree.specs.Readers.{Stop, Wrong, ◌>>=◌, Reader, expect, is_mark, number}
use Rattle.verilog_tree.specs.Parse.{parse}
use Rattle.verilog_tree.specs.TokensOf.{tokens_of}

-- ---- words

-- whether a token is a word
abbrev pub is_word : List ℕ → Lexeme → Bool
is_word w (Word v) = same_bytes v w
is_word w _ = false

-- the next token, if it passed as the word
abbrev pub keyword_at : Bool → ℕ → List Placed → List Placed → Result (ℕ × List Placed) Stop
keyword_at true at ts all = Ok (at, ts)
keyword_at false at ts all = Err (Wrong all)

-- a word of the grammar that must come: its place, and what follows it
abbrev pub keyword : List ℕ → Reader ℕ
keyword w [] = Err (Wrong [])
keyword w (t ∷ ts) = keyword_at (is_word w t.lexeme) t.at ts (t ∷ ts)

-- a word, if it is not reserved
abbrev pub name_by : Bool → Ident → List Placed → List Placed → Result (Ident × List Placed) Stop
name_by true i ts all = Err (Wrong all)
name_by false i ts all = Ok (i, ts)

-- the next token, if it is a name
abbrev pub name_at : Lexeme → ℕ → List Placed → List Placed → Result (Ident × List Placed) Stop
name_at (Word w) at ts all = name_by (is_reserved w) (record { at = at; text = w }) ts all
name_at _ at ts all = Err (Wrong all)

-- a name that must come
abbrev pub name : Reader Ident
name [] = Err (Wrong [])
name (t ∷ ts) = name_at t.lexeme t.at ts (t ∷ ts)

-- whether the next token passes
abbrev pub next_is : (Lexeme → Bool) → List Placed → Bool
next_is p [] = false
next_is p (t ∷ ts) = p t.lexeme

-- the first of two readers where the next token passes the test, and else the second
abbrev pub by_next : {A : Type 0} → (Lexeme → Bool) → Reader A → Reader A → Reader A
by_next p f g ts = choose (next_is p ts) (λ _. f ts) (λ _. g ts)

-- ---- parts of items

-- "[" number ":" number "]"
unfoldable pub pair : Reader Pair
pair ts = expect sign.OpenBracket ts >>= λ at. number at.1 >>= λ first. expect sign.Colon first.1 >>= λ colon. number colon.1 >>= λ second. expect sign.CloseBracket second.1 >>= λ close.
    Ok (record { at = at.0; first = first.0; second = second.0 }, close.1)

-- [ "[" number ":" number "]" ]
unfoldable pub range : Reader (Option Pair)
range ts = by_next (is_mark sign.OpenBracket) (λ us. pair us >>= λ p. Ok (Some p.0, p.1)) (λ us. Ok (None, us)) ts

-- an expression, no deeper than 64
unfoldable pub expr : Reader Expr
expr ts = parse 64 0 ts

-- a sign, an expression and ";"
unfoldable pub driver : Sign → Reader Driver
driver s ts = expect s ts >>= λ at. expr at.1 >>= λ value. expect sign.Semicolon value.1 >>= λ end. Ok (record { sign_at = at.0; value = value.0 }, end.1)

-- [ "=" expr ] ";"
unfoldable pub driven : Reader (Option Driver)
driven ts = by_next (is_mark sign.Semicolon) (λ us. expect sign.Semicolon us >>= λ end. Ok (None, end.1)) (λ us. driver sign.Assign us >>= λ d. Ok (Some d.0, d.1)) ts

-- ---- ports

-- [ "wire" ]
unfoldable pub optional_wire : Reader (Unit {0})
optional_wire ts = by_next (is_word (codes "wire")) (λ us. keyword (codes "wire") us >>= λ at. Ok (tt, at.1)) (λ us. Ok (tt, us)) ts

-- the port behind "input" or "output"
unfoldable pub port_of : Bool → List ℕ → Reader PortDecl
port_of input w ts = keyword w ts >>= λ at. optional_wire at.1 >>= λ wire. range wire.1 >>= λ r. name r.1 >>= λ i.
    Ok (record { at = at.0; input = input; range = r.0; name = i.0 }, i.1)

-- ( "input" | "output" ) [ "wire" ] [ range ] name
unfoldable pub port : Reader PortDecl
port ts = by_next (is_word (codes "input")) (port_of true (codes "input")) (port_of false (codes "output")) ts

-- { "," port } ")" behind a port
abbrev pub ports_behind : (List Placed → Result (List PortDecl × List Placed) Stop) → PortDecl → Reader (List PortDecl)
ports_behind more p ts = by_next (is_mark sign.Comma) (λ us. expect sign.Comma us >>= λ comma. more comma.1 >>= λ ps. Ok (p ∷ ps.0, ps.1)) (λ us. expect sign.Close us >>= λ close. Ok (p ∷ [], close.1)) ts

-- the ports and ")", of which there are at most this many
unfoldable pub ports : ℕ → Reader (List PortDecl)
ports zero ts = Err (Wrong ts)
ports (suc n) ts = port ts >>= λ p. ports_behind (ports n) p.0 p.1

-- ---- statements and items

-- "wire" [ range ] name [ "=" expr ] ";"
unfoldable pub wire : Reader Item
wire ts = keyword (codes "wire") ts >>= λ at. range at.1 >>= λ r. name r.1 >>= λ i. driven i.1 >>= λ d. Ok (Wire at.0 r.0 i.0 d.0, d.1)

-- "reg" [ range ] name [ "[" number ":" number "]" ] ";"
unfoldable pub reg : Reader Item
reg ts = keyword (codes "reg") ts >>= λ at. range at.1 >>= λ r. name r.1 >>= λ i. range i.1 >>= λ cells. expect sign.Semicolon cells.1 >>= λ end. Ok (Reg at.0 r.0 i.0 cells.0, end.1)

-- "assign" name "=" expr ";"
unfoldable pub assign : Reader Item
assign ts = keyword (codes "assign") ts >>= λ at. name at.1 >>= λ i. driver sign.Assign i.1 >>= λ d. Ok (Assign at.0 i.0 d.0, d.1)

-- name "<=" expr ";"
unfoldable pub next_value : Reader Stmt
next_value ts = name ts >>= λ i. driver sign.LessEqual i.1 >>= λ d. Ok (Next i.0 d.0, d.1)

-- the next token, if it is a literal
abbrev pub literal_at : Lexeme → ℕ → List Placed → List Placed → Result (Lit × List Placed) Stop
literal_at (Sized w v) at ts all = Ok (record { at = at; width = w; value = v }, ts)
literal_at _ at ts all = Err (Wrong all)

-- a literal that must come
abbrev pub literal : Reader Lit
literal [] = Err (Wrong [])
literal (t ∷ ts) = literal_at t.lexeme t.at ts (t ∷ ts)

-- whether an expression is the name "reset"
abbrev pub is_reset : Expr → Bool
is_reset (Named i) = same_bytes i.text (codes "reset")
is_reset e = false

-- behind "if" "(" "reset" ")" name
unfoldable pub reset_behind : ℕ → Ident → Reader Stmt
reset_behind at first ts = expect sign.LessEqual ts >>= λ s. literal s.1 >>= λ start. expect sign.Semicolon start.1 >>= λ end. keyword (codes "else") end.1 >>= λ other. name other.1 >>= λ i. driver sign.LessEqual i.1 >>= λ d.
    Ok (Reset at first s.0 start.0 i.0 d.0, d.1)

-- behind "if" "(" expr ")" name
unfoldable pub write_behind : ℕ → ℕ → Expr → Ident → Reader Stmt
write_behind at paren enable target ts = expect sign.OpenBracket ts >>= λ open'. expr open'.1 >>= λ index. expect sign.CloseBracket index.1 >>= λ close. driver sign.LessEqual close.1 >>= λ d.
    Ok (Write at paren enable target open'.0 index.0 d.0, d.1)

-- A reset is told from a write to an array by its test and by what stands behind the name.
unfoldable pub conditional : Reader Stmt
conditional ts = keyword (codes "if") ts >>= λ at. expect sign.Open at.1 >>= λ paren. expr paren.1 >>= λ e. expect sign.Close e.1 >>= λ close. name close.1 >>= λ i.
    choose (is_reset e.0) (λ _. by_next (is_mark sign.LessEqual) (reset_behind at.0 i.0) (write_behind at.0 paren.0 e.0 i.0) i.1) (λ _. write_behind at.0 paren.0 e.0 i.0 i.1)

-- a statement, told by its first word
unfoldable pub stmt : Reader Stmt
stmt ts = by_next (is_word (codes "if")) conditional next_value ts

-- "always" "@" "(" "posedge" "clk" ")" stmt
unfoldable pub always : Reader Item
always ts = keyword (codes "always") ts >>= λ at. expect sign.At at.1 >>= λ s. expect sign.Open s.1 >>= λ paren. keyword (codes "posedge") paren.1 >>= λ edge. keyword (codes "clk") edge.1 >>= λ clock. expect sign.Close clock.1 >>= λ close. stmt close.1 >>= λ x.
    Ok (Always at.0 x.0, x.1)

-- an item, told by its first word
unfoldable pub item : Reader Item
item ts = by_next (is_word (codes "wire")) wire (by_next (is_word (codes "reg")) reg (by_next (is_word (codes "assign")) assign always)) ts

-- the items up to "endmodule", of which there are fewer than this many
unfoldable pub items : ℕ → Reader (List Item)
items zero ts = Err (Wrong ts)
items (suc n) ts = by_next (is_word (codes "endmodule")) (λ us. Ok ([], us)) (λ us. item us >>= λ i. items n i.1 >>= λ is. Ok (i.0 ∷ is.0, is.1)) ts

-- ---- the module

-- a tree behind which no token is left
abbrev pub at_end : Tree → List Placed → Result Tree Stop
at_end t [] = Ok t
at_end t (u ∷ us) = Err (Wrong (u ∷ us))

-- the tree, if all was read
abbrev pub finished : Result (Tree × List Placed) Stop → Result Tree Stop
finished (Ok x) = at_end x.0 x.1
finished (Err s) = Err s

-- the module at the head of a list of tokens; its ports and items are at most as many as n
unfoldable pub module_of : ℕ → Reader Tree
module_of n ts = keyword (codes "module") ts >>= λ at. name at.1 >>= λ i. expect sign.Open i.1 >>= λ paren. ports n paren.1 >>= λ ps. expect sign.Semicolon ps.1 >>= λ end. items n end.1 >>= λ is. keyword (codes "endmodule") is.1 >>= λ last.
    Ok (record { at = at.0; name = i.0; ports = ps.0; items = is.0 }, last.1)

-- the module that all of the tokens spell
abbrev pub read : List Placed → Result Tree Stop
read ts = finished (module_of (length ts) ts)

-- ---- the text

-- the tree that was read, if any
abbrev pub made : Result Tree Stop → Option Tree
made (Ok t) = Some t
made (Err s) = None

-- the tree of a text with these tokens, if it has any
abbrev pub read_tokens : Option (List Placed) → Option Tree
read_tokens None = None
read_tokens (Some ts) = made (read ts)

-- the tree of a text, given its bytes
unfoldable pub read_text : List ℕ → Option Tree
read_text bytes = read_tokens (tokens_of (suc (length bytes)) (length bytes) bytes)
