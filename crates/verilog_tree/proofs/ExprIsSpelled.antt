-- An expression that is read is spelled by the tokens that were read.
use Rattle.std.proofs.Common.{◌≡◌, ℕ, zero, suc, ◌<◌, ◌≤◌, Bool, true, false, List, [], ◌∷◌, length, Ok, Err, refl, sym, ap, subst, ◌∙◌, arith, leb}
use Rattle.std.proofs.lemmas.Bool.{leb-true, leb-false}
use Rattle.verilog_tree.specs.declared.expr.BinSign.{BinSign}
use Rattle.verilog_tree.specs.declared.expr.BinSign.TheVariants as bin
use Rattle.verilog_tree.specs.Signs.{Sign}
use Rattle.verilog_tree.specs.Signs as sign
use Rattle.verilog_tree.specs.Lexemes.{Lexeme, Word, Number, Sized, Mark, Placed}
use Rattle.verilog_tree.specs.declared.expr.Ident.{Ident}
use Rattle.verilog_tree.specs.declared.expr.Num.{Num}
use Rattle.verilog_tree.specs.declared.expr.Expr.{Expr, Literal, Named, Select, Join', Row_of-Expr, end_of-Expr, more_of-Expr, items-the_row-Expr}
use Rattle.verilog_tree.specs.declared.expr.Expr.TheVariants.{Cell, Paren, Not, Join, Binary, Choice}
use Rattle.verilog_tree.specs.Words.{is_reserved}
use Rattle.verilog_tree.specs.Depth.{depth_of, deepest}
use Rattle.verilog_tree.specs.Grammar.{Spells, SpellsParts, level, level_of, sign_of, mark, name_token, number_token}
use Rattle.verilog_tree.specs.Readers.{Wrong, Deep, ◌>>=◌, is_mark, expect, number}
use Rattle.verilog_tree.specs.Parse.{Read, Parser, Next, Operator, Question, Nothing, next, either_way, selection, cell, indexed, indexed_at, named, named_at, Parts, parts_after, parts_behind, parts, paren, negated, joined, word_at, start, start_at, choice, operation, goes_at, goes_on, parse}
use Rattle.verilog_tree.specs.declared.expr.Expr.TheBlock.{shape-the_row-Expr-0, hidden-the_row-Expr-0}
use denote.Hole.Carrier.{hidden}
use mathlib.Core.Former.{this, arity}
use Rattle.sqlite_items.specs.formers.items.Items.{the_former}
use Rattle.verilog_tree.proofs.Made.{made_join}
use Rattle.verilog_tree.proofs.ExprIsRead.{Stops}
use Rattle.verilog_tree.proofs.StepsAreSpelled.{bind_ok, ok_is, is_mark-is, expect-ok, number-ok, next-is, asked-is}

high : (n : ℕ) (op : BinSign) → 7 ≤ n → level_of op < n
high n bin.Or h = omega arith
high n bin.Xor h = omega arith
high n bin.And h = omega arith
high n bin.Equal h = omega arith
high n bin.Less h = omega arith
high n bin.Plus h = omega arith
high n bin.Minus h = omega arith

high_stops : (n : ℕ) (what : Next) → 7 ≤ n → Stops n what
high_stops n (Operator op at ts) h = high n op h
high_stops n (Question at ts) h = omega arith
high_stops n Nothing h = tt

low_level : (op : BinSign) → suc (level_of op) ≤ 8
low_level op = omega (arith, high 7 op (omega arith))

positive : (op : BinSign) → 1 ≤ level_of op
positive bin.Or = omega arith
positive bin.Xor = omega arith
positive bin.And = omega arith
positive bin.Equal = omega arith
positive bin.Less = omega arith
positive bin.Plus = omega arith
positive bin.Minus = omega arith

-- what a reader of level n and depth d may give
pub record Good (n d : ℕ) (ts : List Placed) (e : Expr) (rest : List Placed) : Type 0 where
  pub spells : Spells e ts rest
  pub levels : n ≤ level e
  pub deep : depth_of e ≤ d
  pub stops : Stops n (next rest)

record IsFaithful (part : ℕ → Parser) (d : ℕ) : Type 0 where
  all : (n : ℕ) → n ≤ 8 → (ts : List Placed) (x : Expr × List Placed) → part n ts ≡ Ok x → Good n d ts x.0 x.1

-- an operand
record Operand (n d : ℕ) (ts : List Placed) (e : Expr) (rest : List Placed) : Type 0 where
  spells : Spells e ts rest
  levels : n ≤ level e
  high : 7 ≤ level e
  deep : depth_of e ≤ d

carried : (n d : ℕ) (ts : List Placed) (e : Expr) (rest : List Placed) (x : Expr × List Placed) → Operand n d ts e rest → ◌≡◌ {A = Read} (Ok (e, rest)) (Ok x) → Operand n d ts x.0 x.1
carried n d ts e rest x o h = subst (λ (y : Expr × List Placed). Operand n d ts y.0 y.1) (ok_is (e, rest) x h) o

module _ (part : ℕ → Parser) (d : ℕ) (faithful : IsFaithful part d) where
  paren-spells : (n at : ℕ) (ts : List Placed) (x : Expr × List Placed) → n ≤ 8 → paren part at ts ≡ Ok x → Operand n (suc d) (mark at sign.Open ∷ ts) x.0 x.1
  unfolding paren shape-the_row-Expr-0 hidden-the_row-Expr-0 hidden
  paren-spells n at ts x l h =
      let (inner, a, h') = bind_ok (part 0 ts) (λ y. expect sign.Close y.1 >>= λ close. Ok (Paren at y.0, close.1)) x h in
      let (close, b, h'') = bind_ok (expect sign.Close inner.1) (λ close. Ok (Paren at inner.0, close.1)) x h' in
      let g = faithful.all 0 (omega arith) ts inner a in
      carried n (suc d) _ _ _ x (record { spells = (ts, close.0, refl, subst (Spells inner.0 ts) (expect-ok sign.Close inner.1 close b) g.spells); levels = l; high = omega arith; deep = omega (arith, g.deep) }) h''

  cell-spells : (n : ℕ) (i : Ident) (at : ℕ) (ts : List Placed) (x : Expr × List Placed) → n ≤ 8 → is_reserved i.text ≡ false → cell part i at ts ≡ Ok x → Operand n (suc d) (name_token i ∷ mark at sign.OpenBracket ∷ ts) x.0 x.1
  unfolding cell shape-the_row-Expr-0 hidden-the_row-Expr-0 hidden
  cell-spells n i at ts x l free h =
      let (index, a, h') = bind_ok (part 0 ts) (λ y. expect sign.CloseBracket y.1 >>= λ close. Ok (Cell i at y.0, close.1)) x h in
      let (close, b, h'') = bind_ok (expect sign.CloseBracket index.1) (λ close. Ok (Cell i at index.0, close.1)) x h' in
      let g = faithful.all 0 (omega arith) ts index a in
      carried n (suc d) _ _ _ x (record { spells = (ts, close.0, free, refl, subst (Spells index.0 ts) (expect-ok sign.CloseBracket index.1 close b) g.spells); levels = l; high = omega arith; deep = omega (arith, g.deep) }) h''

  selection-spells : (n : ℕ) (i : Ident) (at : ℕ) (first : Num) (ts : List Placed) (x : Expr × List Placed) → n ≤ 8 → is_reserved i.text ≡ false → selection i at first ts ≡ Ok x → Operand n (suc d) (name_token i ∷ mark at sign.OpenBracket ∷ number_token first ∷ ts) x.0 x.1
  unfolding selection
  selection-spells n i at first ts x l free h =
      let (colon, a, h') = bind_ok (expect sign.Colon ts) (λ colon. number colon.1 >>= λ second. expect sign.CloseBracket second.1 >>= λ close. Ok (Select i (record { at = at; first = first; second = second.0 }), close.1)) x h in
      let (second, b, h'') = bind_ok (number colon.1) (λ second. expect sign.CloseBracket second.1 >>= λ close. Ok (Select i (record { at = at; first = first; second = second.0 }), close.1)) x h' in
      let (close, c, h3) = bind_ok (expect sign.CloseBracket second.1) (λ close. Ok (Select i (record { at = at; first = first; second = second.0 }), close.1)) x h'' in
      let e : ts ≡ mark colon.0 sign.Colon ∷ number_token second.0 ∷ mark close.0 sign.CloseBracket ∷ close.1 = expect-ok sign.Colon ts colon a ∙ ap (λ (us : List Placed). mark colon.0 sign.Colon ∷ us) (number-ok colon.1 second b ∙ ap (λ (us : List Placed). number_token second.0 ∷ us) (expect-ok sign.CloseBracket second.1 close c)) in
      carried n (suc d) _ _ _ x (record { spells = (mark at sign.OpenBracket ∷ number_token first ∷ ts, free, refl, (colon.0, close.0, λ i. mark at sign.OpenBracket ∷ number_token first ∷ e i)); levels = l; high = omega arith; deep = omega arith }) h3

  negated-spells : (n at : ℕ) (ts : List Placed) (x : Expr × List Placed) → n ≤ 7 → negated part at ts ≡ Ok x → Operand n (suc d) (mark at sign.Not ∷ ts) x.0 x.1
  unfolding negated shape-the_row-Expr-0 hidden-the_row-Expr-0 hidden
  negated-spells n at ts x l h =
      let (inner, a, h') = bind_ok (part 8 ts) (λ inner. Ok (Not at inner.0, inner.1)) x h in
      let g = faithful.all 8 (omega arith) ts inner a in
      carried n (suc d) _ _ _ x (record { spells = (ts, refl, g.levels, g.spells); levels = l; high = omega arith; deep = omega (arith, g.deep) }) h'

  indexed_at-spells : (n : ℕ) (i : Ident) (at : ℕ) (t : Lexeme) (at' : ℕ) (ts : List Placed) (x : Expr × List Placed) → n ≤ 8 → is_reserved i.text ≡ false →
      indexed_at part i at t at' ts (record { at = at'; lexeme = t } ∷ ts) ≡ Ok x → Operand n (suc d) (name_token i ∷ mark at sign.OpenBracket ∷ record { at = at'; lexeme = t } ∷ ts) x.0 x.1
  indexed_at-spells n i at (Number m) at' ts x l free h = selection-spells n i at (record { at = at'; value = m }) ts x l free h
  indexed_at-spells n i at t at' ts x l free h = cell-spells n i at (record { at = at'; lexeme = t } ∷ ts) x l free h

  indexed-spells : (n : ℕ) (i : Ident) (at : ℕ) (ts : List Placed) (x : Expr × List Placed) → n ≤ 8 → is_reserved i.text ≡ false → indexed part i at ts ≡ Ok x → Operand n (suc d) (name_token i ∷ mark at sign.OpenBracket ∷ ts) x.0 x.1
  indexed-spells n i at [] x l free h = cell-spells n i at [] x l free h
  indexed-spells n i at (t ∷ ts) x l free h = indexed_at-spells n i at t.lexeme t.at ts x l free h

  plain-spells : (n : ℕ) (i : Ident) (ts : List Placed) (x : Expr × List Placed) → n ≤ 8 → is_reserved i.text ≡ false → ◌≡◌ {A = Read} (Ok (Named i, ts)) (Ok x) → Operand n (suc d) (name_token i ∷ ts) x.0 x.1
  plain-spells n i ts x l free h = carried n (suc d) _ _ _ x (record { spells = (free, refl); levels = l; high = omega arith; deep = omega arith }) h

  named_at-spells : (n : ℕ) (i : Ident) (b : Bool) (t : Placed) (ts : List Placed) (x : Expr × List Placed) → n ≤ 8 → is_reserved i.text ≡ false → is_mark sign.OpenBracket t.lexeme ≡ b →
      named_at part i b t.at ts (t ∷ ts) ≡ Ok x → Operand n (suc d) (name_token i ∷ t ∷ ts) x.0 x.1
  named_at-spells n i true t ts x l free m h =
      let what : t.lexeme ≡ Mark sign.OpenBracket = is_mark-is sign.OpenBracket t.lexeme m in
      subst (λ (k : Lexeme). Operand n (suc d) (name_token i ∷ record { at = t.at; lexeme = k } ∷ ts) x.0 x.1) (sym what) (indexed-spells n i t.at ts x l free h)
  named_at-spells n i false t ts x l free m h = plain-spells n i (t ∷ ts) x l free h

  named-spells : (n : ℕ) (i : Ident) (ts : List Placed) (x : Expr × List Placed) → n ≤ 8 → is_reserved i.text ≡ false → named part i ts ≡ Ok x → Operand n (suc d) (name_token i ∷ ts) x.0 x.1
  named-spells n i [] x l free h = plain-spells n i [] x l free h
  named-spells n i (t ∷ ts) x l free h = named_at-spells n i (is_mark sign.OpenBracket t.lexeme) t ts x l free refl h

  record PartsGood (ts : List Placed) (es : List Expr) (rest : List Placed) : Type 0 where
    shape : List (Unit {0})
    row : Row_of-Expr (arity (the_former (this {0})) shape)
    items : items-the_row-Expr _ row ≡ es
    spells : SpellsParts row ts rest
    deep : deepest row ≤ d

  parts_first : {n : _} (e : Expr) (row : Row_of-Expr n) (ts mid rest : List Placed) (comma : ℕ) → Spells e ts (mark comma sign.Comma ∷ mid) → SpellsParts row mid rest → SpellsParts (more_of-Expr e row) ts rest
  parts_first e end_of-Expr ts mid rest comma h k = elim k [ ]
  parts_first e (more_of-Expr f more) ts mid rest comma h k = (mid, comma, h, k)

  abbrev PartsAnswer : Type 0
  PartsAnswer = List Expr × List Placed

  after-spells : (more : List Placed → Parts) (ts : List Placed) (e : Expr) (t : Lexeme) (at : ℕ) (us : List Placed) (x : PartsAnswer) →
      ((vs : List Placed) (y : PartsAnswer) → more vs ≡ Ok y → PartsGood vs y.0 y.1) →
      Spells e ts (record { at = at; lexeme = t } ∷ us) → depth_of e ≤ d → parts_after more e t us (record { at = at; lexeme = t } ∷ us) ≡ Ok x → PartsGood ts x.0 x.1
  after-spells more ts e (Mark sign.Comma) at us x again s deep h =
      let (others, a, h') = bind_ok (more us) (λ others. Ok (e ∷ others.0, others.1)) x h in
      let g = again us others a in
      subst (λ (y : PartsAnswer). PartsGood ts y.0 y.1) (ok_is (e ∷ others.0, others.1) x h') (record {
        shape = tt ∷ g.shape;
        row = more_of-Expr e g.row;
        items = ap (λ (l : List Expr). e ∷ l) g.items;
        spells = parts_first e g.row ts us others.1 at s g.spells;
        deep = omega (arith, g.deep);
      })
  after-spells more ts e (Mark sign.CloseBrace) at us x again s deep h =
      subst (λ (y : PartsAnswer). PartsGood ts y.0 y.1) (ok_is (e ∷ [], us) x h) (record {
        shape = tt ∷ [];
        row = more_of-Expr e end_of-Expr;
        items = refl;
        spells = (at, s);
        deep = omega arith;
      })
  after-spells more ts e _ at us x again s deep h = absurd cc

  behind-spells : (more : List Placed → Parts) (ts : List Placed) (e : Expr) (us : List Placed) (x : PartsAnswer) →
      ((vs : List Placed) (y : PartsAnswer) → more vs ≡ Ok y → PartsGood vs y.0 y.1) →
      Spells e ts us → depth_of e ≤ d → parts_behind more e us ≡ Ok x → PartsGood ts x.0 x.1
  behind-spells more ts e [] x again s deep h = absurd cc
  behind-spells more ts e (t ∷ us) x again s deep h = after-spells more ts e t.lexeme t.at us x again s deep h

  parts-spells : (k : ℕ) (ts : List Placed) (x : PartsAnswer) → parts part k ts ≡ Ok x → PartsGood ts x.0 x.1
  unfolding parts
  parts-spells zero ts x h = absurd cc
  parts-spells (suc k) ts x h =
      let (first, a, h') = bind_ok (part 0 ts) (λ first. parts_behind (parts part k) first.0 first.1) x h in
      let g = faithful.all 0 (omega arith) ts first a in
      behind-spells (parts part k) ts first.0 first.1 x (λ vs y e. parts-spells k vs y e) g.spells g.deep h'

  joined-spells : (n at : ℕ) (ts : List Placed) (x : Expr × List Placed) → n ≤ 8 → joined part at ts ≡ Ok x → Operand n (suc d) (mark at sign.OpenBrace ∷ ts) x.0 x.1
  unfolding joined
  joined-spells n at ts x l h =
      let (all, a, h') = bind_ok (parts part (length ts) ts) (λ all. Ok (Join at all.0, all.1)) x h in
      let g = parts-spells (length ts) ts all a in
      let made : Join' at g.shape g.row ≡ Join at all.0 = sym (made_join at g.shape g.row) ∙ ap (Join at) g.items in
      let o : Operand n (suc d) (mark at sign.OpenBrace ∷ ts) (Join' at g.shape g.row) all.1 = record { spells = (ts, refl, g.spells); levels = l; high = omega arith; deep = omega (arith, g.deep) } in
      carried n (suc d) _ _ _ x (subst (λ (e : Expr). Operand n (suc d) (mark at sign.OpenBrace ∷ ts) e all.1) made o) h'

  word-spells : (n : ℕ) (b : Bool) (i : Ident) (ts all : List Placed) (x : Expr × List Placed) → n ≤ 8 → is_reserved i.text ≡ b → word_at part b i ts all ≡ Ok x → Operand n (suc d) (name_token i ∷ ts) x.0 x.1
  word-spells n true i ts all x l e h = absurd cc
  word-spells n false i ts all x l e h = named-spells n i ts x l e h

  not-spells : (n : ℕ) (b : Bool) (at : ℕ) (ts all : List Placed) (x : Expr × List Placed) → leb n 7 ≡ b → either_way b (λ _. negated part at ts) (λ _. Err (Wrong all)) ≡ Ok x → Operand n (suc d) (mark at sign.Not ∷ ts) x.0 x.1
  not-spells n true at ts all x e h = negated-spells n at ts x (leb-true n 7 e) h
  not-spells n false at ts all x e h = absurd cc

  start_at-spells : (n : ℕ) (t : Lexeme) (at : ℕ) (ts : List Placed) (x : Expr × List Placed) → n ≤ 8 → start_at part n t at ts (record { at = at; lexeme = t } ∷ ts) ≡ Ok x → Operand n (suc d) (record { at = at; lexeme = t } ∷ ts) x.0 x.1
  start_at-spells n (Sized w v) at ts x l h = carried n (suc d) _ (Literal (record { at = at; width = w; value = v })) ts x (record { spells = refl; levels = l; high = omega arith; deep = omega arith }) h
  start_at-spells n (Word w) at ts x l h = word-spells n (is_reserved w) (record { at = at; text = w }) ts _ x l refl h
  start_at-spells n (Mark sign.Open) at ts x l h = paren-spells n at ts x l h
  start_at-spells n (Mark sign.OpenBrace) at ts x l h = joined-spells n at ts x l h
  start_at-spells n (Mark sign.Not) at ts x l h = not-spells n (leb n 7) at ts _ x refl h
  start_at-spells n _ at ts x l h = absurd cc

  start-spells : (n : ℕ) (ts : List Placed) (x : Expr × List Placed) → n ≤ 8 → start part n ts ≡ Ok x → Operand n (suc d) ts x.0 x.1
  start-spells n [] x l h = absurd cc
  start-spells n (t ∷ ts) x l h = start_at-spells n t.lexeme t.at ts x l h

  -- what stands left of the next operator
  record Left (n : ℕ) (ts : List Placed) (left : Expr) (us : List Placed) : Type 0 where
    spells : Spells left ts us
    levels : n ≤ level left
    some : 1 ≤ level left
    deep : depth_of left ≤ suc d
    stops : Stops (suc (level left)) (next us)

  ended : (n : ℕ) (ts : List Placed) (left : Expr) (us : List Placed) (x : Expr × List Placed) → Left n ts left us → Stops n (next us) → ◌≡◌ {A = Read} (Ok (left, us)) (Ok x) → Good n (suc d) ts x.0 x.1
  ended n ts left us x l s h = subst (λ (y : Expr × List Placed). Good n (suc d) ts y.0 y.1) (ok_is (left, us) x h) (record { spells = l.spells; levels = l.levels; deep = l.deep; stops = s })

  operation-spells : (n : ℕ) (more : Expr → Parser) (ts : List Placed) (op : BinSign) (at : ℕ) (left : Expr) (us : List Placed) (x : Expr × List Placed) →
      ((e : Expr) (vs : List Placed) (y : Expr × List Placed) → Left n ts e vs → more e vs ≡ Ok y → Good n (suc d) ts y.0 y.1) →
      Left n ts left (mark at (sign_of op) ∷ us) → level_of op ≤ level left → n ≤ level_of op → depth_of left ≤ d → operation part more op at left us ≡ Ok x → Good n (suc d) ts x.0 x.1
  unfolding operation shape-the_row-Expr-0 hidden-the_row-Expr-0 hidden
  operation-spells n more ts op at left us x again l low high deep h =
      let (right, a, h') = bind_ok (part (suc (level_of op)) us) (λ right. more (Binary op at left right.0) right.1) x h in
      let g = faithful.all (suc (level_of op)) (low_level op) us right a in
      again (Binary op at left right.0) right.1 x (record { spells = (us, low, g.levels, l.spells, g.spells); levels = high; some = positive op; deep = omega (arith, g.deep); stops = g.stops }) h'

  choice-spells : (ts : List Placed) (at : ℕ) (test : Expr) (us : List Placed) (x : Expr × List Placed) →
      Left 0 ts test (mark at sign.Question ∷ us) → depth_of test ≤ d → choice part test at us ≡ Ok x → Good 0 (suc d) ts x.0 x.1
  unfolding choice shape-the_row-Expr-0 hidden-the_row-Expr-0 hidden
  choice-spells ts at test us x l deep h =
      let (first, a, h') = bind_ok (part 0 us) (λ first. expect sign.Colon first.1 >>= λ colon. part 0 colon.1 >>= λ second. Ok (Choice at colon.0 test first.0 second.0, second.1)) x h in
      let (colon, b, h'') = bind_ok (expect sign.Colon first.1) (λ colon. part 0 colon.1 >>= λ second. Ok (Choice at colon.0 test first.0 second.0, second.1)) x h' in
      let (second, c, h3) = bind_ok (part 0 colon.1) (λ second. Ok (Choice at colon.0 test first.0 second.0, second.1)) x h'' in
      let g = faithful.all 0 (omega arith) us first a in
      let g' = faithful.all 0 (omega arith) colon.1 second c in
      subst (λ (y : Expr × List Placed). Good 0 (suc d) ts y.0 y.1) (ok_is (Choice at colon.0 test first.0 second.0, second.1) x h3) (record {
        spells = (us, colon.1, l.some, l.spells, subst (Spells first.0 us) (expect-ok sign.Colon first.1 colon b) g.spells, g'.spells);
        levels = omega arith;
        deep = omega (arith, g.deep, g'.deep);
        stops = g'.stops;
      })

  deep_enough : (n : ℕ) (b : Bool) (f : Unit {0} → Read) (left : Expr) (all : List Placed) (x : Expr × List Placed) → leb (depth_of left) d ≡ b → either_way b f (λ _. Err (Deep all)) ≡ Ok x → (depth_of left ≤ d) × (f tt ≡ Ok x)
  deep_enough n true f left all x e h = (leb-true _ _ e, h)
  deep_enough n false f left all x e h = absurd cc

  operator-spells : (n : ℕ) (b : Bool) (more : Expr → Parser) (ts : List Placed) (op : BinSign) (at : ℕ) (left : Expr) (us all : List Placed) (x : Expr × List Placed) →
      ((e : Expr) (vs : List Placed) (y : Expr × List Placed) → Left n ts e vs → more e vs ≡ Ok y → Good n (suc d) ts y.0 y.1) →
      next all ≡ Operator op at us → Left n ts left all → leb n (level_of op) ≡ b →
      either_way b (λ _. either_way (leb (depth_of left) d) (λ _. operation part more op at left us) (λ _. Err (Deep all))) (λ _. Ok (left, all)) ≡ Ok x → Good n (suc d) ts x.0 x.1
  operator-spells n true more ts op at left us all x again what l e h =
      let (deep, h') = deep_enough n (leb (depth_of left) d) (λ _. operation part more op at left us) left all x refl h in
      let l' : Left n ts left (mark at (sign_of op) ∷ us) = subst (Left n ts left) (next-is all op at us what) l in
      let s : Stops (suc (level left)) (Operator op at us) = subst (Stops (suc (level left))) what l.stops in
      operation-spells n more ts op at left us x again l' (omega arith) (leb-true _ _ e) deep h'
  operator-spells n false more ts op at left us all x again what l e h = ended n ts left all x l (subst (Stops n) (sym what) (leb-false _ _ e)) h

  question-spells : (n : ℕ) (b : Bool) (ts : List Placed) (at : ℕ) (left : Expr) (us all : List Placed) (x : Expr × List Placed) →
      next all ≡ Question at us → Left n ts left all → leb n 0 ≡ b →
      either_way b (λ _. either_way (leb (depth_of left) d) (λ _. choice part left at us) (λ _. Err (Deep all))) (λ _. Ok (left, all)) ≡ Ok x → Good n (suc d) ts x.0 x.1
  question-spells n true ts at left us all x what l e h =
      let (deep, h') = deep_enough n (leb (depth_of left) d) (λ _. choice part left at us) left all x refl h in
      let l' : Left n ts left (mark at sign.Question ∷ us) = subst (Left n ts left) (asked-is all at us what) l in
      let none : n ≡ 0 = omega (arith, leb-true _ _ e) in
      subst (λ (m : ℕ). Good m (suc d) ts x.0 x.1) (sym none) (choice-spells ts at left us x (subst (λ (m : ℕ). Left m ts left (mark at sign.Question ∷ us)) none l') deep h')
  question-spells n false ts at left us all x what l e h = ended n ts left all x l (subst (Stops n) (sym what) (leb-false _ _ e)) h

  goes_at-spells : (n : ℕ) (more : Expr → Parser) (ts : List Placed) (left : Expr) (what : Next) (all : List Placed) (x : Expr × List Placed) →
      ((e : Expr) (vs : List Placed) (y : Expr × List Placed) → Left n ts e vs → more e vs ≡ Ok y → Good n (suc d) ts y.0 y.1) →
      next all ≡ what → Left n ts left all → goes_at part more d n left what all ≡ Ok x → Good n (suc d) ts x.0 x.1
  goes_at-spells n more ts left (Operator op at us) all x again what l h = operator-spells n (leb n (level_of op)) more ts op at left us all x again what l refl h
  goes_at-spells n more ts left (Question at us) all x again what l h = question-spells n (leb n 0) ts at left us all x what l refl h
  goes_at-spells n more ts left Nothing all x again what l h = ended n ts left all x l (subst (Stops n) (sym what) tt) h

  goes_on-spells : (n t : ℕ) (ts : List Placed) (left : Expr) (us : List Placed) (x : Expr × List Placed) → Left n ts left us → goes_on part d n t left us ≡ Ok x → Good n (suc d) ts x.0 x.1
  unfolding goes_on
  goes_on-spells n zero ts left us x l h = absurd cc
  goes_on-spells n (suc t) ts left us x l h = goes_at-spells n (goes_on part d n t) ts left (next us) us x (λ e vs y k h. goes_on-spells n t ts e vs y k h) refl l h

parser-spells : (d : ℕ) → IsFaithful (parse d) d
unfolding parse
parser-spells zero = record { all = λ n l ts x h. absurd cc }
parser-spells (suc d) = record {
  all = λ n l ts x h.
      let (first, a, h') = bind_ok (start (parse d) n ts) (λ first. goes_on (parse d) d n (suc d) first.0 first.1) x h in
      let o = start-spells (parse d) d (parser-spells d) n ts first l a in
      goes_on-spells (parse d) d (parser-spells d) n (suc d) ts first.0 first.1 x (record { spells = o.spells; levels = o.levels; some = omega (arith, o.high); deep = o.deep; stops = high_stops (suc (level first.0)) (next first.1) (omega (arith, o.high)) }) h';
}

-- What is read is spelled.
pub parse-spells : (d : ℕ) (ts : List Placed) (e : Expr) (rest : List Placed) → parse d 0 ts ≡ Ok (e, rest) → Good 0 d ts e rest
parse-spells d ts e rest h = (parser-spells d).all 0 (omega arith) ts (e, rest) h
