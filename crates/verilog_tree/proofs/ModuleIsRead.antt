-- A module that the tokens spell is read from them. So a text has at most one tree.
use Rattle.std.proofs.Common.{◌≡◌, ℕ, zero, suc, ◌+◌, ◌<◌, ◌≤◌, Bool, true, false, ◌&&◌, List, [], ◌∷◌, length, Option, Some, None, Ok, refl, sym, ap, subst, ◌∙◌, arith, eqb, inl, inr}
use Rattle.std.specs.Prelude.{codes}
use Rattle.std.proofs.lemmas.Bool.{eqb-true}
use Rattle.verilog_tree.specs.Signs.{Sign}
use Rattle.verilog_tree.specs.Signs as sign
use Rattle.verilog_tree.specs.Lexemes.{Word, Placed}
use Rattle.verilog_tree.specs.declared.expr.Ident.{Ident}
use Rattle.verilog_tree.specs.declared.expr.Lit.{Lit}
use Rattle.verilog_tree.specs.declared.expr.Pair.{Pair}
use Rattle.verilog_tree.specs.declared.expr.Expr.{Expr}
use Rattle.verilog_tree.specs.declared.expr.Expr.TheVariants.{Named}
use Rattle.verilog_tree.specs.declared.tree.Driver.{Driver}
use Rattle.verilog_tree.specs.declared.tree.PortDecl.{PortDecl}
use Rattle.verilog_tree.specs.declared.tree.Stmt.{Stmt}
use Rattle.verilog_tree.specs.declared.tree.Stmt.TheVariants.{Next, Reset, Write}
use Rattle.verilog_tree.specs.declared.tree.Item.{Item}
use Rattle.verilog_tree.specs.declared.tree.Item.TheVariants.{Wire, Reg, Assign, Always}
use Rattle.verilog_tree.specs.declared.tree.Tree.{Tree}
use Rattle.verilog_tree.specs.Bytes.{choose}
use Rattle.verilog_tree.specs.Words.{same_bytes, grammar_words, unsupported_words, is_reserved}
use Rattle.verilog_tree.specs.Grammar.{SpellsPair, mark, name_token, literal_token, IsName}
use Rattle.verilog_tree.specs.Module as spec
use Rattle.verilog_tree.specs.Module.{SpellsExpr, SpellsRange, SpellsWire, SpellsPort, SpellsPorts, SpellsDriver, SpellsDriven, SpellsStmt, SpellsItem, SpellsItems, SpellsModule, direction}
use Rattle.verilog_tree.specs.Readers.{◌>>=◌, is_mark, Reader}
use Rattle.verilog_tree.specs.Read.{is_word, name, by_next, pair, range, expr, driver, driven, optional_wire, port_of, port, ports, wire, reg, assign, next_value, is_reset, reset_behind, write_behind, conditional, stmt, always, item, items, module_of, read}
use Rattle.verilog_tree.proofs.ExprIsRead.{Ends, parse-is, shorter, pair_shorter}
use Rattle.verilog_tree.proofs.OneList.{one_list}

-- ---- names are no words of the grammar

and_true : (a b : Bool) → (a && b) ≡ true → (a ≡ true) × (b ≡ true)
and_true true b h = (refl, h)
and_true false b h = absurd cc

pub same_bytes-is : (v w : List ℕ) → same_bytes v w ≡ true → v ≡ w
same_bytes-is [] [] h = refl
same_bytes-is [] (c ∷ cs) h = absurd cc
same_bytes-is (b ∷ bs) [] h = absurd cc
same_bytes-is (b ∷ bs) (c ∷ cs) h =
    let both = and_true (eqb b c) (same_bytes bs cs) h in
    let first : b ≡ c = eqb-true b c both.0 in
    let others : bs ≡ cs = same_bytes-is bs cs both.1 in
    λ i. first i ∷ others i

by_bool : (b : Bool) → (b ≡ true → ⊥) → b ≡ false
by_bool true h = absurd (h refl)
by_bool false h = refl

not_word : (v w : List ℕ) → is_reserved v ≡ false → is_reserved w ≡ true → same_bytes v w ≡ false
not_word v w h k = by_bool (same_bytes v w) (λ e. let same : v ≡ w = same_bytes-is v w e in let both : is_reserved v ≡ is_reserved w = ap is_reserved same in cc)

wire_reserved : is_reserved (codes "wire") ≡ true
unfolding is_reserved grammar_words
wire_reserved = refl

if_reserved : is_reserved (codes "if") ≡ true
unfolding is_reserved grammar_words
if_reserved = refl

reset_free : is_reserved (codes "reset") ≡ false
unfolding is_reserved grammar_words unsupported_words
reset_free = refl

-- ---- small readers

name-is : (i : Ident) (ts : List Placed) → IsName i → name (name_token i ∷ ts) ≡ Ok (i, ts)
name-is i ts h = rw h refl

pair-is : (p : Pair) (ts rest : List Placed) → SpellsPair p ts rest → pair ts ≡ Ok (p, rest)
unfolding pair
pair-is p ts rest (colon, close, h) = rw h refl

-- the next token is no "["
abbrev Plain : List Placed → Type 0
Plain [] = Unit {0}
Plain (t ∷ ts) = is_mark sign.OpenBracket t.lexeme ≡ false

no_range : (ts : List Placed) → Plain ts → range ts ≡ Ok (None, ts)
unfolding range
no_range [] h = refl
no_range (t ∷ ts) h = rw h refl

range-is : (o : Option Pair) (ts rest : List Placed) → SpellsRange o ts rest → Plain rest → range ts ≡ Ok (o, rest)
unfolding range
range-is None ts rest h k = rw h (no_range rest k)
range-is (Some p) ts rest (colon, close, h) k = rw (h, pair-is p _ rest (colon, close, refl)) refl

expr-is : (e : Expr) (ts rest : List Placed) → SpellsExpr e ts rest → Ends 0 rest → expr ts ≡ Ok (e, rest)
unfolding expr
expr-is e ts rest h f = parse-is e 64 ts rest h.0 h.1 f

assign-is : (d : Driver) (ts rest : List Placed) → SpellsDriver sign.Assign d ts rest → driver sign.Assign ts ≡ Ok (d, rest)
unfolding driver
assign-is d ts rest (mid, end, h, e) = rw (h, expr-is d.value mid (mark end sign.Semicolon ∷ rest) e (record { stops = tt; unbracketed = refl })) refl

next-is : (d : Driver) (ts rest : List Placed) → SpellsDriver sign.LessEqual d ts rest → driver sign.LessEqual ts ≡ Ok (d, rest)
unfolding driver
next-is d ts rest (mid, end, h, e) = rw (h, expr-is d.value mid (mark end sign.Semicolon ∷ rest) e (record { stops = tt; unbracketed = refl })) refl

driven-is : (o : Option Driver) (ts rest : List Placed) → SpellsDriven o ts rest → driven ts ≡ Ok (o, rest)
unfolding driven
driven-is None ts rest (end, h) = rw h refl
driven-is (Some d) ts rest (mid, end, h, e) = rw (h, assign-is d _ rest (mid, end, refl, e)) refl

driven_plain : (o : Option Driver) (ts rest : List Placed) → SpellsDriven o ts rest → Plain ts
driven_plain None ts rest (end, h) = rw h refl
driven_plain (Some d) ts rest (mid, end, h, e) = rw h refl

-- ---- ports

name_not : (i : Ident) (w : List ℕ) → IsName i → is_reserved w ≡ true → is_word w (Word i.text) ≡ false
name_not i w h k = not_word i.text w h k

no_wire : (r : Option Pair) (ts rest : List Placed) (i : Ident) → IsName i → SpellsRange r ts (name_token i ∷ rest) → optional_wire ts ≡ Ok (tt, ts)
unfolding optional_wire
no_wire None ts rest i f h = rw (h, name_not i (codes "wire") f wire_reserved) refl
no_wire (Some p) ts rest i f (colon, close, h) = rw h refl

wire-is : (ts mid rest : List Placed) (r : Option Pair) (i : Ident) → IsName i → SpellsRange r mid (name_token i ∷ rest) → SpellsWire ts mid → optional_wire ts ≡ Ok (tt, mid)
unfolding optional_wire
wire-is ts mid rest r i f h (inl e) = rw e (no_wire r mid rest i f h)
wire-is ts mid rest r i f h (inr (at, e)) = rw e refl

port-is : (p : PortDecl) (ts rest : List Placed) → SpellsPort p ts rest → port ts ≡ Ok (p, rest)
unfolding port port_of
port-is p ts rest (a, b, h, w, r, f) = of_direction p.input refl
  where
    of_direction : (input : Bool) → p.input ≡ input → port ts ≡ Ok (p, rest)
    of_direction true e = let begin : ts ≡ spec.keyword p.at (codes "input") ∷ a = h ∙ ap (λ (d : Bool). spec.keyword p.at (direction d) ∷ a) e in
        rw (begin, wire-is a b rest p.range p.name f r w, range-is p.range b (name_token p.name ∷ rest) r refl, f) (λ i. Ok (record { at = p.at; input = sym e i; range = p.range; name = p.name }, rest))
    of_direction false e = let begin : ts ≡ spec.keyword p.at (codes "output") ∷ a = h ∙ ap (λ (d : Bool). spec.keyword p.at (direction d) ∷ a) e in
        rw (begin, wire-is a b rest p.range p.name f r w, range-is p.range b (name_token p.name ∷ rest) r refl, f) (λ i. Ok (record { at = p.at; input = sym e i; range = p.range; name = p.name }, rest))

ports-is : (ps : List PortDecl) (n : ℕ) (ts rest : List Placed) → SpellsPorts ps ts rest → length ps ≤ n → ports n ts ≡ Ok (ps, rest)
unfolding ports
ports-is [] n ts rest h l = elim h [ ]
ports-is (p ∷ ps) zero ts rest h l = absurd (omega arith)
ports-is (p ∷ []) (suc n) ts rest (close, h) l = rw (port-is p ts (mark close sign.Close ∷ rest) h) refl
ports-is (p ∷ q ∷ ps) (suc n) ts rest (mid, comma, h, more) l = rw (port-is p ts (mark comma sign.Comma ∷ mid) h, ports-is (q ∷ ps) n mid rest more (omega arith)) refl

-- ---- statements

next_stmt-is : (target : Ident) (d : Driver) (ts rest : List Placed) → SpellsStmt (Next target d) ts rest → stmt ts ≡ Ok (Next target d, rest)
unfolding stmt next_value
next_stmt-is target d ts rest (mid, f, h, k) = rw (h, name_not target (codes "if") f if_reserved, f, next-is d mid rest k) refl

-- where ")" follows
closed-is : (e : Expr) (ts rest : List Placed) (at : ℕ) → SpellsExpr e ts (mark at sign.Close ∷ rest) → expr ts ≡ Ok (e, mark at sign.Close ∷ rest)
closed-is e ts rest at h = expr-is e ts (mark at sign.Close ∷ rest) h (record { stops = tt; unbracketed = refl })

bracketed-is : (e : Expr) (ts rest : List Placed) (at : ℕ) → SpellsExpr e ts (mark at sign.CloseBracket ∷ rest) → expr ts ≡ Ok (e, mark at sign.CloseBracket ∷ rest)
bracketed-is e ts rest at h = expr-is e ts (mark at sign.CloseBracket ∷ rest) h (record { stops = tt; unbracketed = refl })

reset_stmt-is : (at : ℕ) (first : Ident) (s : ℕ) (start : Lit) (target : Ident) (d : Driver) (ts rest : List Placed) → SpellsStmt (Reset at first s start target d) ts rest → stmt ts ≡ Ok (Reset at first s start target d, rest)
unfolding stmt conditional reset_behind
reset_stmt-is at first s start target d ts rest (mid, paren, reset, close, end, other, f, g, h, k) =
    let named : Ident = record { at = reset; text = codes "reset" } in
    let tail : List Placed = name_token first ∷ mark s sign.LessEqual ∷ literal_token start ∷ mark end sign.Semicolon ∷ spec.keyword other (codes "else") ∷ name_token target ∷ mid in
    let e : expr (name_token named ∷ mark close sign.Close ∷ tail) ≡ Ok (Named named, mark close sign.Close ∷ tail) = closed-is (Named named) (name_token named ∷ mark close sign.Close ∷ tail) tail close ((reset_free, refl), omega arith) in
    rw (h, e, f, g, next-is d mid rest k) refl

write-is : (at paren : ℕ) (enable : Expr) (target : Ident) (bracket : ℕ) (index : Expr) (d : Driver) (b c rest : List Placed) (close : ℕ) →
    SpellsExpr index b (mark close sign.CloseBracket ∷ c) → SpellsDriver sign.LessEqual d c rest → write_behind at paren enable target (mark bracket sign.OpenBracket ∷ b) ≡ Ok (Write at paren enable target bracket index d, rest)
unfolding write_behind
write-is at paren enable target bracket index d b c rest close h k = rw (bracketed-is index b c close h, next-is d c rest k) refl

write_stmt-is : (at paren : ℕ) (enable : Expr) (target : Ident) (bracket : ℕ) (index : Expr) (d : Driver) (ts rest : List Placed) → SpellsStmt (Write at paren enable target bracket index d) ts rest → stmt ts ≡ Ok (Write at paren enable target bracket index d, rest)
unfolding stmt conditional
write_stmt-is at paren enable target bracket index d ts rest (a, b, c, close, close', f, h, e, i, k) =
    rw (h, closed-is enable a (name_token target ∷ mark bracket sign.OpenBracket ∷ b) close e, f) (either (is_reset enable))
  where
    either : (t : Bool) → choose t (λ _. by_next (is_mark sign.LessEqual) (reset_behind at target) (write_behind at paren enable target) (mark bracket sign.OpenBracket ∷ b)) (λ _. write_behind at paren enable target (mark bracket sign.OpenBracket ∷ b)) ≡ Ok (Write at paren enable target bracket index d, rest)
    either true = write-is at paren enable target bracket index d b c rest close' i k
    either false = write-is at paren enable target bracket index d b c rest close' i k

stmt-is : (s : Stmt) (ts rest : List Placed) → SpellsStmt s ts rest → stmt ts ≡ Ok (s, rest)
stmt-is (Next target d) ts rest h = next_stmt-is target d ts rest h
stmt-is (Reset at first s start target d) ts rest h = reset_stmt-is at first s start target d ts rest h
stmt-is (Write at paren enable target bracket index d) ts rest h = write_stmt-is at paren enable target bracket index d ts rest h

-- ---- items

item-is : (i : Item) (ts rest : List Placed) → SpellsItem i ts rest → item ts ≡ Ok (i, rest)
unfolding item wire reg assign always
item-is (Wire at r i d) ts rest (a, b, f, h, w, k) = rw (h, range-is r a (name_token i ∷ b) w refl, f, driven-is d b rest k) refl
item-is (Reg at r i cells) ts rest (a, b, end, f, h, w, k) = rw (h, range-is r a (name_token i ∷ b) w refl, f, range-is cells b (mark end sign.Semicolon ∷ rest) k refl) refl
item-is (Assign at target d) ts rest (mid, f, h, k) = rw (h, f, assign-is d mid rest k) refl
item-is (Always at s) ts rest (mid, sign_at, paren, edge, clock, close, h, k) = rw (h, stmt-is s mid rest k) refl

-- an item begins with no "endmodule"
item_begins : (i : Item) (ts rest : List Placed) (A : Type 0) (f g : Reader A) → SpellsItem i ts rest → by_next (is_word (codes "endmodule")) f g ts ≡ g ts
item_begins (Wire at r i d) ts rest A f g (a, b, _, h, w, k) = rw h refl
item_begins (Reg at r i cells) ts rest A f g (a, b, end, _, h, w, k) = rw h refl
item_begins (Assign at target d) ts rest A f g (mid, _, h, k) = rw h refl
item_begins (Always at s) ts rest A f g (mid, sign_at, paren, edge, clock, close, h, k) = rw h refl

items-is : (is : List Item) (n : ℕ) (ts rest : List Placed) (at : ℕ) → SpellsItems is ts (spec.keyword at (codes "endmodule") ∷ rest) → length is < n → items n ts ≡ Ok (is, spec.keyword at (codes "endmodule") ∷ rest)
unfolding items
items-is is zero ts rest at h l = absurd (omega arith)
items-is [] (suc n) ts rest at h l = rw h refl
items-is (i ∷ is) (suc n) ts rest at (mid, h, k) l =
    item_begins i ts mid (List Item) (λ us. Ok ([], us)) (λ us. item us >>= λ x. items n x.1 >>= λ y. Ok (x.0 ∷ y.0, y.1)) h
    ∙ rw (item-is i ts mid h, items-is is n mid rest at k (omega arith)) refl

-- ---- no more parts than tokens

range_short : (o : Option Pair) (ts rest : List Placed) → SpellsRange o ts rest → length rest ≤ length ts
range_short None ts rest h = rw h (omega arith)
range_short (Some p) ts rest h = omega (arith, pair_shorter p ts rest h)

wire_short : (ts rest : List Placed) → SpellsWire ts rest → length rest ≤ length ts
wire_short ts rest (inl h) = rw h (omega arith)
wire_short ts rest (inr (at, h)) = rw h (omega arith)

port_short : (p : PortDecl) (ts rest : List Placed) → SpellsPort p ts rest → length rest < length ts
port_short p ts rest (a, b, h, w, r, f) = rw h (omega (arith, wire_short a b w, range_short p.range b (name_token p.name ∷ rest) r))

ports_short : (ps : List PortDecl) (ts rest : List Placed) → SpellsPorts ps ts rest → length ps + length rest < length ts
ports_short [] ts rest h = elim h [ ]
ports_short (p ∷ []) ts rest (close, h) = omega (arith, port_short p ts (mark close sign.Close ∷ rest) h)
ports_short (p ∷ q ∷ ps) ts rest (mid, comma, h, k) = omega (arith, port_short p ts (mark comma sign.Comma ∷ mid) h, ports_short (q ∷ ps) mid rest k)

expr_short : (e : Expr) (ts rest : List Placed) → SpellsExpr e ts rest → length rest < length ts
expr_short e ts rest h = shorter e ts rest h.0

driver_short : (s : Sign) (d : Driver) (ts rest : List Placed) → SpellsDriver s d ts rest → length rest < length ts
driver_short s d ts rest (mid, end, h, e) = rw h (omega (arith, expr_short d.value mid (mark end sign.Semicolon ∷ rest) e))

driven_short : (o : Option Driver) (ts rest : List Placed) → SpellsDriven o ts rest → length rest < length ts
driven_short None ts rest (end, h) = rw h (omega arith)
driven_short (Some d) ts rest h = driver_short sign.Assign d ts rest h

stmt_short : (s : Stmt) (ts rest : List Placed) → SpellsStmt s ts rest → length rest < length ts
stmt_short (Next target d) ts rest (mid, f, h, k) = rw h (omega (arith, driver_short sign.LessEqual d mid rest k))
stmt_short (Reset at first s start target d) ts rest (mid, paren, reset, close, end, other, f, g, h, k) = rw h (omega (arith, driver_short sign.LessEqual d mid rest k))
stmt_short (Write at paren enable target bracket index d) ts rest (a, b, c, close, close', f, h, e, i, k) = rw h (omega (arith, expr_short enable a _ e, expr_short index b _ i, driver_short sign.LessEqual d c rest k))

item_short : (i : Item) (ts rest : List Placed) → SpellsItem i ts rest → length rest < length ts
item_short (Wire at r i d) ts rest (a, b, f, h, w, k) = rw h (omega (arith, range_short r a (name_token i ∷ b) w, driven_short d b rest k))
item_short (Reg at r i cells) ts rest (a, b, end, f, h, w, k) = rw h (omega (arith, range_short r a (name_token i ∷ b) w, range_short cells b (mark end sign.Semicolon ∷ rest) k))
item_short (Assign at target d) ts rest (mid, f, h, k) = rw h (omega (arith, driver_short sign.Assign d mid rest k))
item_short (Always at s) ts rest (mid, sign_at, paren, edge, clock, close, h, k) = rw h (omega (arith, stmt_short s mid rest k))

items_short : (is : List Item) (ts rest : List Placed) → SpellsItems is ts rest → length is + length rest ≤ length ts
items_short [] ts rest h = rw h (omega arith)
items_short (i ∷ is) ts rest (mid, h, k) = omega (arith, item_short i ts mid h, items_short is mid rest k)

-- ---- the module

pub module_of-is : (t : Tree) (n : ℕ) (ts : List Placed) → SpellsModule t ts → length ts ≤ n → module_of n ts ≡ Ok (t, [])
unfolding module_of
module_of-is t n ts (a, b, paren, semicolon, end, f, h, k, l) fits =
    let long : length ts ≡ suc (suc (suc (length a))) = ap length h in
    let a-long = ports_short t.ports a (mark semicolon sign.Semicolon ∷ b) k in
    let b-long = items_short t.items b (spec.keyword end (codes "endmodule") ∷ []) l in
    rw (h, f, ports-is t.ports n a (mark semicolon sign.Semicolon ∷ b) k (omega arith), items-is t.items n b [] end l (omega arith)) refl

-- What is spelled is read.
pub read-is : (t : Tree) (ts : List Placed) → SpellsModule t ts → read ts ≡ Ok t
read-is t ts h = rw (module_of-is t (length ts) ts h (omega arith)) refl

pub one_tree_of_tokens : (t u : Tree) (ts : List Placed) → SpellsModule t ts → SpellsModule u ts → t ≡ u
one_tree_of_tokens t u ts h k = let a = read-is t ts h in let b = read-is u ts k in cc

-- A text has at most one tree.
pub one_tree : (bytes : List ℕ) (t u : Tree) → spec.Reads bytes t → spec.Reads bytes u → t ≡ u
one_tree bytes t u (ts, h, k) (us, h', k') =
    let same : ts ≡ us = one_list (length bytes) bytes ts us h h' in
    one_tree_of_tokens t u ts k (subst (λ (l : List Placed). SpellsModule u l) (sym same) k')
