-- Items that are read are spelled by the tokens that were read.
use Rattle.std.proofs.Common.{◌≡◌, ℕ, zero, suc, Bool, true, false, List, [], ◌∷◌, Option, Some, None, Result, Ok, refl, sym, ap, subst, ◌∙◌, ◌⊎◌, inl, inr}
use Rattle.std.specs.Prelude.{codes}
use Rattle.verilog_tree.specs.Signs.{Sign}
use Rattle.verilog_tree.specs.Signs as sign
use Rattle.verilog_tree.specs.Lexemes.{Lexeme, Word, Number, Sized, Mark, Placed}
use Rattle.verilog_tree.specs.declared.expr.Ident.{Ident}
use Rattle.verilog_tree.specs.declared.expr.Pair.{Pair}
use Rattle.verilog_tree.specs.declared.expr.Expr.{Expr}
use Rattle.verilog_tree.specs.declared.tree.Driver.{Driver}
use Rattle.verilog_tree.specs.declared.tree.Item.{Item}
use Rattle.verilog_tree.specs.declared.tree.Item.TheVariants.{Wire, Reg, Assign, Always}
use Rattle.verilog_tree.specs.Bytes.{choose}
use Rattle.verilog_tree.specs.Words.{is_reserved}
use Rattle.verilog_tree.specs.Grammar.{SpellsPair, mark, name_token, number_token, literal_token, IsName}
use Rattle.verilog_tree.specs.Module as spec
use Rattle.verilog_tree.specs.Module.{SpellsExpr, SpellsRange, SpellsWire, SpellsPort, SpellsPorts, SpellsDriver, SpellsDriven, SpellsStmt, SpellsItem, SpellsItems, SpellsModule, direction}
use Rattle.verilog_tree.specs.Readers.{Stop, ◌>>=◌, expect, is_mark, Reader}
use Rattle.verilog_tree.specs.declared.expr.Lit.{Lit}
use Rattle.verilog_tree.specs.declared.expr.Expr.TheVariants.{Named}
use Rattle.verilog_tree.specs.declared.tree.Stmt.{Stmt}
use Rattle.verilog_tree.specs.declared.tree.Stmt.TheVariants.{Next, Reset, Write}
use Rattle.verilog_tree.specs.Read.{next_value, literal, literal_at, is_reset, reset_behind, write_behind, conditional, stmt, always, item, items, is_word, keyword, keyword_at, name, name_at, name_by, by_next, next_is, pair, range, expr, driver, driven, wire, reg, assign}
use Rattle.verilog_tree.proofs.StepsAreSpelled.{bind_ok, ok_is, expect-ok, number-ok}
use Rattle.verilog_tree.proofs.ExprIsSpelled.{parse-spells}
use Rattle.verilog_tree.proofs.ModuleIsRead.{same_bytes-is}

pair-spells : (ts : List Placed) (x : Pair × List Placed) → pair ts ≡ Ok x → SpellsPair x.0 ts x.1
unfolding pair
pair-spells ts x h0 =
    let (at, a, h1) = bind_ok _ _ x h0 in
    let (first, b, h2) = bind_ok _ _ x h1 in
    let (colon, c, h3) = bind_ok _ _ x h2 in
    let (second, d, h4) = bind_ok _ _ x h3 in
    let (close, e, h5) = bind_ok _ _ x h4 in
    subst (λ (y : Pair × List Placed). SpellsPair y.0 ts y.1) (ok_is (record { at = at.0; first = first.0; second = second.0 }, close.1) x h5)
    (colon.0, close.0, expect-ok sign.OpenBracket ts at a ∙ ap (λ (l : List Placed). mark at.0 sign.OpenBracket ∷ l) (number-ok at.1 first b ∙ ap (λ (l : List Placed). number_token first.0 ∷ l) (expect-ok sign.Colon first.1 colon c ∙ ap (λ (l : List Placed). mark colon.0 sign.Colon ∷ l) (number-ok colon.1 second d ∙ ap (λ (l : List Placed). number_token second.0 ∷ l) (expect-ok sign.CloseBracket second.1 close e)))))

-- one of the two readers was taken
pub taken : {A : Type 0} (p : Lexeme → Bool) (f g : Reader A) (ts : List Placed) → (by_next p f g ts ≡ f ts) ⊎ (by_next p f g ts ≡ g ts)
taken p f g ts = by_test (next_is p ts)
  where
    by_test : (b : Bool) → (choose b (λ _. f ts) (λ _. g ts) ≡ f ts) ⊎ (choose b (λ _. f ts) (λ _. g ts) ≡ g ts)
    by_test true = inl refl
    by_test false = inr refl

word_is : (w : List ℕ) (k : Lexeme) → is_word w k ≡ true → k ≡ Word w
word_is w (Word v) h = ap Word (same_bytes-is v w h)
word_is w (Number n) h = absurd cc
word_is w (Sized v n) h = absurd cc
word_is w (Mark s) h = absurd cc

keyword_at-ok : (b : Bool) (at : ℕ) (ts all : List Placed) (x : ℕ × List Placed) → keyword_at b at ts all ≡ Ok x → (b ≡ true) × ((at, ts) ≡ x)
keyword_at-ok true at ts all x h = (refl, ok_is (at, ts) x h)
keyword_at-ok false at ts all x h = absurd cc

pub keyword-ok : (w : List ℕ) (ts : List Placed) (x : ℕ × List Placed) → keyword w ts ≡ Ok x → ts ≡ spec.keyword x.0 w ∷ x.1
keyword-ok w [] x h = absurd cc
keyword-ok w (t ∷ ts) x h =
    let e = keyword_at-ok (is_word w t.lexeme) t.at ts (t ∷ ts) x h in
    let what : t.lexeme ≡ Word w = word_is w t.lexeme e.0 in
    subst (λ (y : ℕ × List Placed). ◌≡◌ {A = List Placed} (t ∷ ts) (spec.keyword y.0 w ∷ y.1)) e.1 (λ i. record { at = t.at; lexeme = what i } ∷ ts)

pub record NameOk (ts : List Placed) (i : Ident) (rest : List Placed) : Type 0 where
  pub free : IsName i
  pub parts : ts ≡ name_token i ∷ rest

name_by-ok : (b : Bool) (i : Ident) (ts all : List Placed) (x : Ident × List Placed) → is_reserved i.text ≡ b → name_by b i ts all ≡ Ok x → NameOk (name_token i ∷ ts) x.0 x.1
name_by-ok true i ts all x e h = absurd cc
name_by-ok false i ts all x e h = subst (λ (y : Ident × List Placed). NameOk (name_token i ∷ ts) y.0 y.1) (ok_is (i, ts) x h) (record { free = e; parts = refl })

name_at-ok : (k : Lexeme) (at : ℕ) (ts : List Placed) (x : Ident × List Placed) → name_at k at ts (record { at = at; lexeme = k } ∷ ts) ≡ Ok x → NameOk (record { at = at; lexeme = k } ∷ ts) x.0 x.1
name_at-ok (Word w) at ts x h = name_by-ok (is_reserved w) (record { at = at; text = w }) ts _ x refl h
name_at-ok _ at ts x h = absurd cc

pub name-ok : (ts : List Placed) (x : Ident × List Placed) → name ts ≡ Ok x → NameOk ts x.0 x.1
name-ok [] x h = absurd cc
name-ok (t ∷ ts) x h = name_at-ok t.lexeme t.at ts x h

range_some : (ts : List Placed) (x : Option Pair × List Placed) → (pair ts >>= λ p. Ok (Some p.0, p.1)) ≡ Ok x → SpellsRange x.0 ts x.1
range_some ts x h =
    let (p, a, h') = bind_ok _ _ x h in
    subst (λ (y : Option Pair × List Placed). SpellsRange y.0 ts y.1) (ok_is (Some p.0, p.1) x h') (pair-spells ts p a)

range_none : (ts : List Placed) (x : Option Pair × List Placed) → ◌≡◌ {A = Result (Option Pair × List Placed) Stop} (Ok (None, ts)) (Ok x) → SpellsRange x.0 ts x.1
range_none ts x h = subst (λ (y : Option Pair × List Placed). SpellsRange y.0 ts y.1) (ok_is (None, ts) x h) refl

pub range-spells : (ts : List Placed) (x : Option Pair × List Placed) → range ts ≡ Ok x → SpellsRange x.0 ts x.1
unfolding range
range-spells ts x h = elim (taken (is_mark sign.OpenBracket) (λ us. pair us >>= λ p. Ok (Some p.0, p.1)) (λ us. Ok (None, us)) ts) [
  | inl e ↦ range_some ts x (sym e ∙ h)
  | inr e ↦ range_none ts x (sym e ∙ h)
]

expr-spells : (ts : List Placed) (x : Expr × List Placed) → expr ts ≡ Ok x → SpellsExpr x.0 ts x.1
unfolding expr
expr-spells ts x h = let g = parse-spells 64 ts x.0 x.1 h in (g.spells, g.deep)

driver-spells : (s : Sign) (ts : List Placed) (x : Driver × List Placed) → driver s ts ≡ Ok x → SpellsDriver s x.0 ts x.1
unfolding driver
driver-spells s ts x h0 =
    let (at, a, h1) = bind_ok _ _ x h0 in
    let (value, b, h2) = bind_ok _ _ x h1 in
    let (end, c, h3) = bind_ok _ _ x h2 in
    let e = expr-spells at.1 value b in
    subst (λ (y : Driver × List Placed). SpellsDriver s y.0 ts y.1) (ok_is (record { sign_at = at.0; value = value.0 }, end.1) x h3)
    (at.1, end.0, expect-ok s ts at a, subst (λ (l : List Placed). SpellsExpr value.0 at.1 l) (expect-ok sign.Semicolon value.1 end c) e)

driven_none : (ts : List Placed) (x : Option Driver × List Placed) → (expect sign.Semicolon ts >>= λ end. Ok (None, end.1)) ≡ Ok x → SpellsDriven x.0 ts x.1
driven_none ts x h =
    let (end, a, h') = bind_ok _ _ x h in
    subst (λ (y : Option Driver × List Placed). SpellsDriven y.0 ts y.1) (ok_is (None, end.1) x h') (end.0, expect-ok sign.Semicolon ts end a)

driven_some : (ts : List Placed) (x : Option Driver × List Placed) → (driver sign.Assign ts >>= λ d. Ok (Some d.0, d.1)) ≡ Ok x → SpellsDriven x.0 ts x.1
driven_some ts x h =
    let (d, a, h') = bind_ok _ _ x h in
    subst (λ (y : Option Driver × List Placed). SpellsDriven y.0 ts y.1) (ok_is (Some d.0, d.1) x h') (driver-spells sign.Assign ts d a)

driven-spells : (ts : List Placed) (x : Option Driver × List Placed) → driven ts ≡ Ok x → SpellsDriven x.0 ts x.1
unfolding driven
driven-spells ts x h = elim (taken (is_mark sign.Semicolon) (λ us. expect sign.Semicolon us >>= λ end. Ok (None, end.1)) (λ us. driver sign.Assign us >>= λ d. Ok (Some d.0, d.1)) ts) [
  | inl e ↦ driven_none ts x (sym e ∙ h)
  | inr e ↦ driven_some ts x (sym e ∙ h)
]

wire-spells : (ts : List Placed) (x : Item × List Placed) → wire ts ≡ Ok x → SpellsItem x.0 ts x.1
unfolding wire
wire-spells ts x h0 =
    let (at, a, h1) = bind_ok _ _ x h0 in
    let (r, b, h2) = bind_ok _ _ x h1 in
    let (i, c, h3) = bind_ok _ _ x h2 in
    let (d, e, h4) = bind_ok _ _ x h3 in
    let n = name-ok r.1 i c in
    subst (λ (y : Item × List Placed). SpellsItem y.0 ts y.1) (ok_is (Wire at.0 r.0 i.0 d.0, d.1) x h4)
    (at.1, i.1, n.free, keyword-ok (codes "wire") ts at a, subst (λ (l : List Placed). SpellsRange r.0 at.1 l) n.parts (range-spells at.1 r b), driven-spells i.1 d e)

reg-spells : (ts : List Placed) (x : Item × List Placed) → reg ts ≡ Ok x → SpellsItem x.0 ts x.1
unfolding reg
reg-spells ts x h0 =
    let (at, a, h1) = bind_ok _ _ x h0 in
    let (r, b, h2) = bind_ok _ _ x h1 in
    let (i, c, h3) = bind_ok _ _ x h2 in
    let (cells, d, h4) = bind_ok _ _ x h3 in
    let (end, e, h5) = bind_ok _ _ x h4 in
    let n = name-ok r.1 i c in
    subst (λ (y : Item × List Placed). SpellsItem y.0 ts y.1) (ok_is (Reg at.0 r.0 i.0 cells.0, end.1) x h5) (
      at.1,
      i.1,
      end.0,
      n.free,
      keyword-ok (codes "reg") ts at a,
      subst (λ (l : List Placed). SpellsRange r.0 at.1 l) n.parts (range-spells at.1 r b),
      subst (λ (l : List Placed). SpellsRange cells.0 i.1 l) (expect-ok sign.Semicolon cells.1 end e) (range-spells i.1 cells d),
    )

assign-spells : (ts : List Placed) (x : Item × List Placed) → assign ts ≡ Ok x → SpellsItem x.0 ts x.1
unfolding assign
assign-spells ts x h0 =
    let (at, a, h1) = bind_ok _ _ x h0 in
    let (i, b, h2) = bind_ok _ _ x h1 in
    let (d, c, h3) = bind_ok _ _ x h2 in
    let n = name-ok at.1 i b in
    subst (λ (y : Item × List Placed). SpellsItem y.0 ts y.1) (ok_is (Assign at.0 i.0 d.0, d.1) x h3)
    (i.1, n.free, keyword-ok (codes "assign") ts at a ∙ ap (λ (l : List Placed). spec.keyword at.0 (codes "assign") ∷ l) n.parts, driver-spells sign.Assign i.1 d c)

next_value-spells : (ts : List Placed) (x : Stmt × List Placed) → next_value ts ≡ Ok x → SpellsStmt x.0 ts x.1
unfolding next_value
next_value-spells ts x h0 =
    let (i, a, h1) = bind_ok _ _ x h0 in
    let (d, b, h2) = bind_ok _ _ x h1 in
    let n = name-ok ts i a in
    subst (λ (y : Stmt × List Placed). SpellsStmt y.0 ts y.1) (ok_is (Next i.0 d.0, d.1) x h2) (i.1, n.free, n.parts, driver-spells sign.LessEqual i.1 d b)

literal_at-ok : (k : Lexeme) (at : ℕ) (ts : List Placed) (x : Lit × List Placed) → literal_at k at ts (record { at = at; lexeme = k } ∷ ts) ≡ Ok x → ◌≡◌ {A = List Placed} (record { at = at; lexeme = k } ∷ ts) (literal_token x.0 ∷ x.1)
literal_at-ok (Sized w v) at ts x h = subst (λ (y : Lit × List Placed). ◌≡◌ {A = List Placed} (literal_token (record { at = at; width = w; value = v }) ∷ ts) (literal_token y.0 ∷ y.1)) (ok_is (record { at = at; width = w; value = v }, ts) x h) refl
literal_at-ok _ at ts x h = absurd cc

literal-ok : (ts : List Placed) (x : Lit × List Placed) → literal ts ≡ Ok x → ts ≡ literal_token x.0 ∷ x.1
literal-ok [] x h = absurd cc
literal-ok (t ∷ ts) x h = literal_at-ok t.lexeme t.at ts x h

-- what stands before the statement's tail
record Head (ts : List Placed) (at paren : ℕ) (e : Expr) (i : Ident) (rest : List Placed) : Type 0 where
  a : List Placed
  close : ℕ
  free : IsName i
  parts : ts ≡ spec.keyword at (codes "if") ∷ mark paren sign.Open ∷ a
  test : SpellsExpr e a (mark close sign.Close ∷ name_token i ∷ rest)

write-spells : (ts : List Placed) (at paren : ℕ) (e : Expr) (i : Ident) (us : List Placed) (x : Stmt × List Placed) → Head ts at paren e i us → write_behind at paren e i us ≡ Ok x → SpellsStmt x.0 ts x.1
unfolding write_behind
write-spells ts at paren e i us x g h0 =
    let (bracket, a, h1) = bind_ok _ _ x h0 in
    let (index, b, h2) = bind_ok _ _ x h1 in
    let (close, c, h3) = bind_ok _ _ x h2 in
    let (d, k, h4) = bind_ok _ _ x h3 in
    subst (λ (y : Stmt × List Placed). SpellsStmt y.0 ts y.1) (ok_is (Write at paren e i bracket.0 index.0 d.0, d.1) x h4) (
      g.a,
      bracket.1,
      close.1,
      g.close,
      close.0,
      g.free,
      g.parts,
      subst (λ (l : List Placed). SpellsExpr e g.a (mark g.close sign.Close ∷ name_token i ∷ l)) (expect-ok sign.OpenBracket us bracket a) g.test,
      subst (λ (l : List Placed). SpellsExpr index.0 bracket.1 l) (expect-ok sign.CloseBracket index.1 close c) (expr-spells bracket.1 index b),
      driver-spells sign.LessEqual close.1 d k,
    )

-- the test is the name "reset"
reset_parts : (e : Expr) (a rest : List Placed) → is_reset e ≡ true → SpellsExpr e a rest → (at : ℕ) × (a ≡ spec.keyword at (codes "reset") ∷ rest)
reset_parts (Named i) a rest h s = (i.at, s.0.1 ∙ ap (λ (w : List ℕ). spec.keyword i.at w ∷ rest) (same_bytes-is i.text (codes "reset") h))
reset_parts _ a rest h s = absurd cc

reset-spells : (ts : List Placed) (at paren : ℕ) (e : Expr) (i : Ident) (us : List Placed) (x : Stmt × List Placed) → Head ts at paren e i us → is_reset e ≡ true → reset_behind at i us ≡ Ok x → SpellsStmt x.0 ts x.1
unfolding reset_behind
reset-spells ts at paren e i us x g t h0 =
    let (s, a, h1) = bind_ok _ _ x h0 in
    let (start, b, h2) = bind_ok _ _ x h1 in
    let (end, c, h3) = bind_ok _ _ x h2 in
    let (other, d, h4) = bind_ok _ _ x h3 in
    let (j, k, h5) = bind_ok _ _ x h4 in
    let (v, l, h6) = bind_ok _ _ x h5 in
    let n = name-ok other.1 j k in
    let r = reset_parts e g.a (mark g.close sign.Close ∷ name_token i ∷ us) t g.test in
    let tail : us ≡ mark s.0 sign.LessEqual ∷ literal_token start.0 ∷ mark end.0 sign.Semicolon ∷ spec.keyword other.0 (codes "else") ∷ name_token j.0 ∷ j.1 =
    expect-ok sign.LessEqual us s a ∙ ap (λ (m : List Placed). mark s.0 sign.LessEqual ∷ m) (literal-ok s.1 start b ∙ ap (λ (m : List Placed). literal_token start.0 ∷ m) (expect-ok sign.Semicolon start.1 end c ∙ ap (λ (m : List Placed). mark end.0 sign.Semicolon ∷ m) (keyword-ok (codes "else") end.1 other d ∙ ap (λ (m : List Placed). spec.keyword other.0 (codes "else") ∷ m) n.parts))) in
    subst (λ (y : Stmt × List Placed). SpellsStmt y.0 ts y.1) (ok_is (Reset at i s.0 start.0 j.0 v.0, v.1) x h6) (
      j.1,
      paren,
      r.0,
      g.close,
      end.0,
      other.0,
      g.free,
      n.free,
      g.parts ∙ ap (λ (m : List Placed). spec.keyword at (codes "if") ∷ mark paren sign.Open ∷ m) (r.1 ∙ ap (λ (m : List Placed). spec.keyword r.0 (codes "reset") ∷ mark g.close sign.Close ∷ name_token i ∷ m) tail),
      driver-spells sign.LessEqual j.1 v l,
    )

either-spells : (ts : List Placed) (at paren : ℕ) (e : Expr) (i : Ident) (us : List Placed) (x : Stmt × List Placed) (b : Bool) → is_reset e ≡ b → Head ts at paren e i us →
    choose b (λ _. by_next (is_mark sign.LessEqual) (reset_behind at i) (write_behind at paren e i) us) (λ _. write_behind at paren e i us) ≡ Ok x → SpellsStmt x.0 ts x.1
either-spells ts at paren e i us x true t g h = elim (taken (is_mark sign.LessEqual) (reset_behind at i) (write_behind at paren e i) us) [
  | inl k ↦ reset-spells ts at paren e i us x g t (sym k ∙ h)
  | inr k ↦ write-spells ts at paren e i us x g (sym k ∙ h)
]
either-spells ts at paren e i us x false t g h = write-spells ts at paren e i us x g h

conditional-spells : (ts : List Placed) (x : Stmt × List Placed) → conditional ts ≡ Ok x → SpellsStmt x.0 ts x.1
unfolding conditional
conditional-spells ts x h0 =
    let (at, a, h1) = bind_ok _ _ x h0 in
    let (paren, b, h2) = bind_ok _ _ x h1 in
    let (e, c, h3) = bind_ok _ _ x h2 in
    let (close, d, h4) = bind_ok _ _ x h3 in
    let (i, k, h5) = bind_ok _ _ x h4 in
    let n = name-ok close.1 i k in
    either-spells ts at.0 paren.0 e.0 i.0 i.1 x (is_reset e.0) refl (record {
      a = paren.1;
      close = close.0;
      free = n.free;
      parts = keyword-ok (codes "if") ts at a ∙ ap (λ (m : List Placed). spec.keyword at.0 (codes "if") ∷ m) (expect-ok sign.Open at.1 paren b);
      test = subst (λ (m : List Placed). SpellsExpr e.0 paren.1 m) (expect-ok sign.Close e.1 close d ∙ ap (λ (m : List Placed). mark close.0 sign.Close ∷ m) n.parts) (expr-spells paren.1 e c);
    }) h5

stmt-spells : (ts : List Placed) (x : Stmt × List Placed) → stmt ts ≡ Ok x → SpellsStmt x.0 ts x.1
unfolding stmt
stmt-spells ts x h = elim (taken (is_word (codes "if")) conditional next_value ts) [
  | inl e ↦ conditional-spells ts x (sym e ∙ h)
  | inr e ↦ next_value-spells ts x (sym e ∙ h)
]

always-spells : (ts : List Placed) (x : Item × List Placed) → always ts ≡ Ok x → SpellsItem x.0 ts x.1
unfolding always
always-spells ts x h0 =
    let (at, a, h1) = bind_ok _ _ x h0 in
    let (s, b, h2) = bind_ok _ _ x h1 in
    let (paren, c, h3) = bind_ok _ _ x h2 in
    let (edge, d, h4) = bind_ok _ _ x h3 in
    let (clock, e, h5) = bind_ok _ _ x h4 in
    let (close, f, h6) = bind_ok _ _ x h5 in
    let (y', g, h7) = bind_ok _ _ x h6 in
    subst (λ (y : Item × List Placed). SpellsItem y.0 ts y.1) (ok_is (Always at.0 y'.0, y'.1) x h7) (
      close.1,
      s.0,
      paren.0,
      edge.0,
      clock.0,
      close.0,
      keyword-ok (codes "always") ts at a ∙ ap (λ (m : List Placed). spec.keyword at.0 (codes "always") ∷ m) (expect-ok sign.At at.1 s b ∙ ap (λ (m : List Placed). mark s.0 sign.At ∷ m) (expect-ok sign.Open s.1 paren c ∙ ap (λ (m : List Placed). mark paren.0 sign.Open ∷ m) (keyword-ok (codes "posedge") paren.1 edge d ∙ ap (λ (m : List Placed). spec.keyword edge.0 (codes "posedge") ∷ m) (keyword-ok (codes "clk") edge.1 clock e ∙ ap (λ (m : List Placed). spec.keyword clock.0 (codes "clk") ∷ m) (expect-ok sign.Close clock.1 close f))))),
      stmt-spells close.1 y' g,
    )

last-spells : (ts : List Placed) (x : Item × List Placed) → by_next (is_word (codes "assign")) assign always ts ≡ Ok x → SpellsItem x.0 ts x.1
last-spells ts x h = elim (taken (is_word (codes "assign")) assign always ts) [ inl e ↦ assign-spells ts x (sym e ∙ h) | inr e ↦ always-spells ts x (sym e ∙ h) ]

second-spells : (ts : List Placed) (x : Item × List Placed) → by_next (is_word (codes "reg")) reg (by_next (is_word (codes "assign")) assign always) ts ≡ Ok x → SpellsItem x.0 ts x.1
second-spells ts x h = elim (taken (is_word (codes "reg")) reg (by_next (is_word (codes "assign")) assign always) ts) [ inl e ↦ reg-spells ts x (sym e ∙ h) | inr e ↦ last-spells ts x (sym e ∙ h) ]

item-spells : (ts : List Placed) (x : Item × List Placed) → item ts ≡ Ok x → SpellsItem x.0 ts x.1
unfolding item
item-spells ts x h = elim (taken (is_word (codes "wire")) wire (by_next (is_word (codes "reg")) reg (by_next (is_word (codes "assign")) assign always)) ts) [ inl e ↦ wire-spells ts x (sym e ∙ h) | inr e ↦ second-spells ts x (sym e ∙ h) ]

pub items-spells : (n : ℕ) (ts : List Placed) (x : List Item × List Placed) → items n ts ≡ Ok x → SpellsItems x.0 ts x.1
unfolding items
items-spells zero ts x h = absurd cc
items-spells (suc n) ts x h = elim (taken (is_word (codes "endmodule")) (λ us. Ok ([], us)) (λ us. item us >>= λ i. items n i.1 >>= λ is. Ok (i.0 ∷ is.0, is.1)) ts) [
  | inl e ↦ none (sym e ∙ h)
  | inr e ↦ some (sym e ∙ h) (λ us y k. items-spells n us y k)
]
  where
    none : ◌≡◌ {A = Result (List Item × List Placed) Stop} (Ok ([], ts)) (Ok x) → SpellsItems x.0 ts x.1
    none k = subst (λ (y : List Item × List Placed). SpellsItems y.0 ts y.1) (ok_is ([], ts) x k) refl

    some : (item ts >>= λ i. items n i.1 >>= λ is. Ok (i.0 ∷ is.0, is.1)) ≡ Ok x → ((us : List Placed) (y : List Item × List Placed) → items n us ≡ Ok y → SpellsItems y.0 us y.1) → SpellsItems x.0 ts x.1
    some h0 again =
        let (i, a, h1) = bind_ok _ _ x h0 in
        let (is, b, h2) = bind_ok _ _ x h1 in
        subst (λ (y : List Item × List Placed). SpellsItems y.0 ts y.1) (ok_is (i.0 ∷ is.0, is.1) x h2) (i.1, item-spells ts i a, again i.1 is b)
