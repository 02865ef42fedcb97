-- An expression that the tokens spell is read from them. So they spell one at most.
use Rattle.std.proofs.Common.{◌≡◌, ℕ, zero, suc, ◌+◌, ◌<◌, ◌≤◌, max, false, List, [], ◌∷◌, length, Ok, refl, sym, ap, subst, ◌∙◌, arith}
use Rattle.std.proofs.lemmas.Bool.{le-leb, lt-leb}
use Rattle.verilog_tree.specs.declared.expr.BinSign.{BinSign}
use Rattle.verilog_tree.specs.declared.expr.BinSign.TheVariants as bin
use Rattle.verilog_tree.specs.Signs.{Sign}
use Rattle.verilog_tree.specs.Signs as sign
use Rattle.verilog_tree.specs.Lexemes.{Lexeme, Number, Mark, Placed}
use Rattle.verilog_tree.specs.declared.expr.Ident.{Ident}
use Rattle.verilog_tree.specs.declared.expr.Expr.{Expr, Literal, Named, Select, Cell', Paren', Not', Join', Binary', Choice', Row_of-Expr, end_of-Expr, more_of-Expr, items-the_row-Expr}
use Rattle.verilog_tree.specs.declared.expr.Expr.TheVariants.{Binary}
use Rattle.verilog_tree.specs.Depth.{depth_of, deepest}
use Rattle.verilog_tree.specs.Grammar.{Spells, SpellsParts, SpellsPair, level, level_of, sign_of, mark}
use Rattle.verilog_tree.specs.Readers.{◌>>=◌, is_mark}
use Rattle.verilog_tree.specs.Parse.{Parser, Next, Operator, Question, Nothing, next, selection, cell, indexed, indexed_at, named, parts, paren, negated, joined, start, choice, operation, goes_at, goes_on, parse}
use mathlib.Core.Former.{this, arity}
use Rattle.sqlite_items.specs.formers.items.Items.{the_former}
use Rattle.verilog_tree.proofs.Made.{made_cell, made_paren, made_not, made_binary, made_choice, made_join}

-- what follows doesn't go on with an operator of level n or above
abbrev pub Stops : ℕ → Next → Type 0
Stops n (Operator op at ts) = level_of op < n
Stops n (Question at ts) = 0 < n
Stops n Nothing = Unit {0}

-- nor with "["
abbrev pub Unbracketed : List Placed → Type 0
Unbracketed [] = Unit {0}
Unbracketed (t ∷ ts) = is_mark sign.OpenBracket t.lexeme ≡ false

pub record Ends (n : ℕ) (ts : List Placed) : Type 0 where
  pub stops : Stops n (next ts)
  pub unbracketed : Unbracketed ts

positive : (op : BinSign) → 1 ≤ level_of op
positive bin.Or = omega arith
positive bin.Xor = omega arith
positive bin.And = omega arith
positive bin.Equal = omega arith
positive bin.Less = omega arith
positive bin.Plus = omega arith
positive bin.Minus = omega arith

low : (op : BinSign) → level_of op ≤ 6
low bin.Or = omega arith
low bin.Xor = omega arith
low bin.And = omega arith
low bin.Equal = omega arith
low bin.Less = omega arith
low bin.Plus = omega arith
low bin.Minus = omega arith

next_sign : (op : BinSign) (at : ℕ) (ts : List Placed) → next (mark at (sign_of op) ∷ ts) ≡ Operator op at ts
next_sign bin.Or at ts = refl
next_sign bin.Xor at ts = refl
next_sign bin.And at ts = refl
next_sign bin.Equal at ts = refl
next_sign bin.Less at ts = refl
next_sign bin.Plus at ts = refl
next_sign bin.Minus at ts = refl

no_bracket : (op : BinSign) → is_mark sign.OpenBracket (Mark (sign_of op)) ≡ false
no_bracket bin.Or = refl
no_bracket bin.Xor = refl
no_bracket bin.And = refl
no_bracket bin.Equal = refl
no_bracket bin.Less = refl
no_bracket bin.Plus = refl
no_bracket bin.Minus = refl

-- how many turns of the loop the left operands take, before t more
abbrev turns : Expr → ℕ → ℕ
turns (Binary' op at s (more_of-Expr left end_of-Expr) s' right) t = turns left (suc t)
turns e t = t

turns-suc : (e : Expr) (t : ℕ) → turns e (suc t) ≡ suc (turns e t)
turns-suc (Binary' op at s (more_of-Expr left end_of-Expr) s' right) t = turns-suc left (suc t)
turns-suc e t = refl

some_depth : (e : Expr) → 1 ≤ depth_of e
some_depth (Literal l) = omega arith
some_depth (Named i) = omega arith
some_depth (Select i bits) = omega arith
some_depth (Cell' i at s (more_of-Expr index end_of-Expr)) = omega arith
some_depth (Paren' at s (more_of-Expr inner end_of-Expr)) = omega arith
some_depth (Not' at s (more_of-Expr inner end_of-Expr)) = omega arith
some_depth (Join' at s all) = omega arith
some_depth (Binary' op at s (more_of-Expr left end_of-Expr) s' (more_of-Expr right end_of-Expr)) = omega arith
some_depth (Choice' at at' s (more_of-Expr a end_of-Expr) s' (more_of-Expr b end_of-Expr) s'' (more_of-Expr c end_of-Expr)) = omega arith

-- they are less than the depth
turns-is : (e : Expr) (d : ℕ) → depth_of e ≤ suc d → (t : ℕ) × (turns e t ≡ d)
turns-is (Binary' op at s (more_of-Expr left end_of-Expr) s' (more_of-Expr right end_of-Expr)) zero h = absurd (omega (arith, some_depth left))
turns-is (Binary' op at s (more_of-Expr left end_of-Expr) s' (more_of-Expr right end_of-Expr)) (suc d) h =
    let inner = turns-is left d (omega arith) in (inner.0, turns-suc left inner.0 ∙ ap suc inner.1)
turns-is e d h = (d, refl)

-- where nothing goes on, the loop is over
stops_at : (part : ℕ → Parser) (more : Expr → Parser) (d n : ℕ) (e : Expr) (what : Next) (ts : List Placed) → Stops n what → goes_at part more d n e what ts ≡ Ok (e, ts)
stops_at part more d n e (Operator op at us) ts h = rw (lt-leb n (level_of op) h) refl
stops_at part more d n e (Question at us) ts h = rw (lt-leb n 0 h) refl
stops_at part more d n e Nothing ts h = refl

over : (part : ℕ → Parser) (d n t : ℕ) (e : Expr) (ts : List Placed) → Ends n ts → goes_on part d n (suc t) e ts ≡ Ok (e, ts)
unfolding goes_on
over part d n t e ts h = stops_at part (goes_on part d n t) d n e (next ts) ts h.stops

-- the loop takes an operator and its right operand
takes : (d n t : ℕ) (op : BinSign) (at : ℕ) (left right : Expr) (mid rest : List Placed) → n ≤ level_of op → depth_of left ≤ d →
    parse d (suc (level_of op)) mid ≡ Ok (right, rest) →
    goes_on (parse d) d n (suc t) left (mark at (sign_of op) ∷ mid) ≡ goes_on (parse d) d n t (Binary op at left right) rest
unfolding goes_on operation
takes d n t op at left right mid rest a b e = rw (next_sign op at mid, le-leb n (level_of op) a, le-leb (depth_of left) d b, e) refl

raised : (m n : ℕ) (what : Next) → m ≤ n → Stops m what → Stops n what
raised m n (Operator op at us) h s = omega arith
raised m n (Question at us) h s = omega arith
raised m n Nothing h s = tt

Ends-raised : (m n : ℕ) (ts : List Placed) → m ≤ n → Ends m ts → Ends n ts
Ends-raised m n ts h e = record { stops = raised m n (next ts) h e.stops; unbracketed = e.unbracketed }

-- reading gives the expression
record Whole (e : Expr) : Type 0 where
  all : (d n : ℕ) (ts rest : List Placed) → Spells e ts rest → n ≤ level e → depth_of e ≤ d → Ends n rest → parse d n ts ≡ Ok (e, rest)

-- the loop comes to the expression
record Chain (e : Expr) : Type 0 where
  all : (d n t : ℕ) (ts rest : List Placed) → Spells e ts rest → n ≤ level e → depth_of e ≤ suc d → Ends (suc (level e)) rest →
      (start (parse d) n ts >>= λ x. goes_on (parse d) d n (turns e t) x.0 x.1) ≡ goes_on (parse d) d n t e rest

record Works (e : Expr) : Type 0 where
  whole : Whole e
  chain : 1 ≤ level e → Chain e

whole_from : (e : Expr) → Chain e → Whole e
unfolding parse
whole_from e c = record {
  all = λ d. elim d as (λ d. (n : ℕ) (ts rest : List Placed) → Spells e ts rest → n ≤ level e → depth_of e ≤ d → Ends n rest → parse d n ts ≡ Ok (e, rest)) [
    | zero ↦ λ n ts rest s l h f. absurd (omega (arith, some_depth e))
    | suc d ↦ λ n ts rest s l h f.
        let t = turns-is e d h in
        ap (λ (k : ℕ). start (parse d) n ts >>= λ x. goes_on (parse d) d n k x.0 x.1) (sym (turns-suc e t.0 ∙ ap suc t.1))
        ∙ c.all d n (suc t.0) ts rest s l h (Ends-raised n (suc (level e)) rest (omega arith) f)
        ∙ over (parse d) d n t.0 e rest f
  ];
}

named_over : (part : ℕ → Parser) (i : _) (ts : List Placed) → Unbracketed ts → named part i ts ≡ Ok (Named i, ts)
named_over part i [] h = refl
named_over part i (t ∷ ts) h = rw h refl

-- behind "[" stands no number where an expression is read
no_number : (d : ℕ) (at n : ℕ) (ts rest : List Placed) (e : Expr) → parse d 0 (record { at = at; lexeme = Number n } ∷ ts) ≡ Ok (e, rest) → ⊥
unfolding parse
no_number zero at n ts rest e h = cc
no_number (suc d) at n ts rest e h = cc

indexed_is : (d : ℕ) (i : Ident) (at : ℕ) (e : Expr) (what : Lexeme) (at' : ℕ) (ts rest : List Placed) → parse d 0 (record { at = at'; lexeme = what } ∷ ts) ≡ Ok (e, rest) →
    indexed_at (parse d) i at what at' ts (record { at = at'; lexeme = what } ∷ ts) ≡ cell (parse d) i at (record { at = at'; lexeme = what } ∷ ts)
indexed_is d i at e (Number n) at' ts rest h = absurd (no_number d at' n ts rest e h)
indexed_is d i at e _ at' ts rest h = refl

indexed_over : (d : ℕ) (i : Ident) (at : ℕ) (e : Expr) (ts rest : List Placed) → parse d 0 ts ≡ Ok (e, rest) → indexed (parse d) i at ts ≡ cell (parse d) i at ts
indexed_over d i at e [] rest h = refl
indexed_over d i at e (t ∷ ts) rest h = indexed_is d i at e t.lexeme t.at ts rest h

abbrev pub count : {n : _} → Row_of-Expr n → ℕ
count end_of-Expr = 0
count (more_of-Expr e more) = suc (count more)

pub pair_shorter : (p : _) (ts rest : List Placed) → SpellsPair p ts rest → length rest < length ts
pair_shorter p ts rest (colon, close, h) = rw h (omega arith)

mutual
  pub shorter : (e : Expr) (ts rest : List Placed) → Spells e ts rest → length rest < length ts
  shorter (Literal l) ts rest h = rw h (omega arith)
  shorter (Named i) ts rest h = rw h.1 (omega arith)
  shorter (Select i bits) ts rest (mid, _, h, k) = rw h (omega (arith, pair_shorter bits mid rest k))
  shorter (Cell' i at s (more_of-Expr index end_of-Expr)) ts rest (mid, close, _, h, k) = rw h (omega (arith, shorter index mid _ k))
  shorter (Paren' at s (more_of-Expr inner end_of-Expr)) ts rest (mid, close, h, k) = rw h (omega (arith, shorter inner mid _ k))
  shorter (Not' at s (more_of-Expr inner end_of-Expr)) ts rest (mid, h, _, k) = rw h (omega (arith, shorter inner mid _ k))
  shorter (Join' at s all) ts rest (mid, h, k) = rw h (omega (arith, parts_shorter all mid rest k))
  shorter (Binary' op at s (more_of-Expr left end_of-Expr) s' (more_of-Expr right end_of-Expr)) ts rest (mid, _, _, h, k) = omega (arith, shorter left ts _ h, shorter right mid _ k)
  shorter (Choice' at at' s (more_of-Expr a end_of-Expr) s' (more_of-Expr b end_of-Expr) s'' (more_of-Expr c end_of-Expr)) ts rest (mid, mid', _, h, k, l) =
      omega (arith, shorter a ts _ h, shorter b mid _ k, shorter c mid' _ l)

  pub parts_shorter : {n : _} (row : Row_of-Expr n) (ts rest : List Placed) → SpellsParts row ts rest → count row + length rest < length ts
  parts_shorter end_of-Expr ts rest h = elim h [ ]
  parts_shorter (more_of-Expr e end_of-Expr) ts rest (close, h) = omega (arith, shorter e ts _ h)
  parts_shorter (more_of-Expr e (more_of-Expr f more)) ts rest (mid, comma, h, k) = omega (arith, shorter e ts _ h, parts_shorter (more_of-Expr f more) mid rest k)

-- an operand that is read at once
operand : (e : Expr) → ((t : ℕ) → turns e t ≡ t) → 1 ≤ level e →
    ((d n : ℕ) (ts rest : List Placed) → Spells e ts rest → n ≤ level e → depth_of e ≤ suc d → Ends (suc (level e)) rest → start (parse d) n ts ≡ Ok (e, rest)) → Works e
operand e none l read =
    let c : Chain e = record { all = λ d n t ts rest s h k f. rw (read d n ts rest s h k f, none t) refl } in
    record { whole = whole_from e c; chain = λ _. c }

record PartsWork {n : _} (row : Row_of-Expr n) : Type 0 where
  all : (d k : ℕ) (ts rest : List Placed) → SpellsParts row ts rest → deepest row ≤ d → count row ≤ k → parts (parse d) k ts ≡ Ok (items-the_row-Expr _ row, rest)

-- a sign that ends an expression in brackets
closed : (d : ℕ) (e : Expr) (s : Sign) (at : ℕ) (ts rest : List Placed) → Works e → Stops 0 (next (mark at s ∷ rest)) → is_mark sign.OpenBracket (Mark s) ≡ false →
    Spells e ts (mark at s ∷ rest) → depth_of e ≤ d → parse d 0 ts ≡ Ok (e, mark at s ∷ rest)
closed d e s at ts rest w stops free h deep = w.whole.all d 0 ts (mark at s ∷ rest) h (omega arith) deep (record { stops = stops; unbracketed = free })

works_select : (i : Ident) (bits : _) → Works (Select i bits)
unfolding selection
works_select i bits = operand (Select i bits) (λ t. refl) (omega arith) (λ d n ts rest s h k f. rw (s.2, s.3.2, s.1) refl)

works_cell : (i : Ident) (at : ℕ) (s : Unit {0}) (index : Expr) → Works index → Works (Cell' i at s (more_of-Expr index end_of-Expr))
unfolding cell
works_cell i at s index w = operand (Cell' i at s (more_of-Expr index end_of-Expr)) (λ t. refl) (omega arith) (λ d n ts rest (mid, close, free, e, h) l deep f.
    let inner = closed d index sign.CloseBracket close mid rest w tt refl h (omega arith) in
    rw (e, free, indexed_over d i at index mid _ inner, inner, made_cell i at s index) refl)

works_paren : (at : ℕ) (s : Unit {0}) (inner : Expr) → Works inner → Works (Paren' at s (more_of-Expr inner end_of-Expr))
unfolding paren
works_paren at s inner w = operand (Paren' at s (more_of-Expr inner end_of-Expr)) (λ t. refl) (omega arith) (λ d n ts rest (mid, close, e, h) l deep f.
    rw (e, closed d inner sign.Close close mid rest w tt refl h (omega arith), made_paren at s inner) refl)

works_not : (at : ℕ) (s : Unit {0}) (inner : Expr) → Works inner → Works (Not' at s (more_of-Expr inner end_of-Expr))
unfolding negated
works_not at s inner w = operand (Not' at s (more_of-Expr inner end_of-Expr)) (λ t. refl) (omega arith) (λ d n ts rest (mid, e, l', h) l deep f.
    rw (e, le-leb n 7 l, w.whole.all d 8 mid rest h l' (omega arith) f, made_not at s inner) refl)

works_join : (at : ℕ) (s : _) (row : Row_of-Expr (arity (the_former (this {0})) s)) → PartsWork row → Works (Join' at s row)
unfolding joined
works_join at s row w = operand (Join' at s row) (λ t. refl) (omega arith) (λ d n ts rest (mid, e, h) l deep f.
    rw (e, w.all d (length mid) mid rest h (omega arith) (omega (arith, parts_shorter row mid rest h)), made_join at s row) refl)

works_binary : (op : BinSign) (at : ℕ) (s s' : Unit {0}) (left right : Expr) → Works left → Works right → Works (Binary' op at s (more_of-Expr left end_of-Expr) s' (more_of-Expr right end_of-Expr))
works_binary op at s s' left right w v =
    let e : Expr = Binary' op at s (more_of-Expr left end_of-Expr) s' (more_of-Expr right end_of-Expr) in
    let c : Chain e = record {
      all = λ d n t ts rest (mid, l, l', h, h') k deep f.
          let rest-ends : Ends (suc (level left)) (mark at (sign_of op) ∷ mid) = record { stops = subst (Stops (suc (level left))) (sym (next_sign op at mid)) (omega arith); unbracketed = no_bracket op } in
          (w.chain (omega (arith, positive op))).all d n (suc t) ts (mark at (sign_of op) ∷ mid) h (omega arith) (omega arith) rest-ends
          ∙ takes d n t op at left right mid rest k (omega arith) (v.whole.all d (suc (level_of op)) mid rest h' l' (omega arith) f)
          ∙ ap (λ x. goes_on (parse d) d n t x rest) (made_binary op at s s' left right);
    } in
    record { whole = whole_from e c; chain = λ _. c }

asks : (d t at : ℕ) (test : Expr) (mid : List Placed) → depth_of test ≤ d → goes_on (parse d) d 0 (suc t) test (mark at sign.Question ∷ mid) ≡ choice (parse d) test at mid
unfolding goes_on
asks d t at test mid h = rw (le-leb (depth_of test) d h) refl

choice_read : (d at at' : ℕ) (s s' s'' : Unit {0}) (a b c : Expr) → Works a → Works b → Works c → (ts rest mid mid' : List Placed) → 1 ≤ level a →
    Spells a ts (mark at sign.Question ∷ mid) → Spells b mid (mark at' sign.Colon ∷ mid') → Spells c mid' rest →
    max (depth_of a) (max (depth_of b) (depth_of c)) ≤ d → Ends 0 rest →
    parse (suc d) 0 ts ≡ Ok (Choice' at at' s (more_of-Expr a end_of-Expr) s' (more_of-Expr b end_of-Expr) s'' (more_of-Expr c end_of-Expr), rest)
unfolding parse choice
choice_read d at at' s s' s'' a b c u v w ts rest mid mid' l h h' h'' deep f =
    let t = turns-is a d (omega arith) in
    ap (λ (k : ℕ). start (parse d) 0 ts >>= λ x. goes_on (parse d) d 0 k x.0 x.1) (sym (turns-suc a t.0 ∙ ap suc t.1))
    ∙ (u.chain l).all d 0 (suc t.0) ts (mark at sign.Question ∷ mid) h (omega arith) (omega arith) (record { stops = omega arith; unbracketed = refl })
    ∙ asks d t.0 at a mid (omega arith)
    ∙ rw (closed d b sign.Colon at' mid mid' v tt refl h' (omega arith), w.whole.all d 0 mid' rest h'' (omega arith) (omega arith) f, made_choice at at' s s' s'' a b c) refl

works_choice : (at at' : ℕ) (s s' s'' : Unit {0}) (a b c : Expr) → Works a → Works b → Works c → Works (Choice' at at' s (more_of-Expr a end_of-Expr) s' (more_of-Expr b end_of-Expr) s'' (more_of-Expr c end_of-Expr))
works_choice at at' s s' s'' a b c u v w =
    record {
      whole = record {
        all = λ d. elim d as (λ d. (n : ℕ) (ts rest : List Placed) → Spells (Choice' at at' s (more_of-Expr a end_of-Expr) s' (more_of-Expr b end_of-Expr) s'' (more_of-Expr c end_of-Expr)) ts rest → n ≤ 0 → suc (max (depth_of a) (max (depth_of b) (depth_of c))) ≤ d → Ends n rest → parse d n ts ≡ Ok (Choice' at at' s (more_of-Expr a end_of-Expr) s' (more_of-Expr b end_of-Expr) s'' (more_of-Expr c end_of-Expr), rest)) [
          | zero ↦ λ n ts rest h k deep f. absurd (omega arith)
          | suc d ↦ λ n ts rest (mid, mid', l, h, h', h'') k deep f.
              let none : n ≡ 0 = omega arith in
              subst (λ (m : ℕ). parse (suc d) m ts ≡ Ok (Choice' at at' s (more_of-Expr a end_of-Expr) s' (more_of-Expr b end_of-Expr) s'' (more_of-Expr c end_of-Expr), rest)) (sym none)
              (choice_read d at at' s s' s'' a b c u v w ts rest mid mid' l h h' h'' (omega arith) (subst (λ (m : ℕ). Ends m rest) none f))
        ];
      };
      chain = λ h. absurd (omega arith);
    }

parts_last : (d k : ℕ) (e : Expr) → Works e → (ts rest : List Placed) (close : ℕ) → Spells e ts (mark close sign.CloseBrace ∷ rest) → depth_of e ≤ d → 1 ≤ k → parts (parse d) k ts ≡ Ok (e ∷ [], rest)
unfolding parts
parts_last d zero e w ts rest close h deep long = absurd (omega arith)
parts_last d (suc k) e w ts rest close h deep long = rw (closed d e sign.CloseBrace close ts rest w tt refl h deep) refl

parts_more : (d k : ℕ) (e : Expr) → Works e → {n : _} (more : Row_of-Expr n) → PartsWork more → (ts rest mid : List Placed) (comma : ℕ) → Spells e ts (mark comma sign.Comma ∷ mid) → SpellsParts more mid rest →
    max (depth_of e) (deepest more) ≤ d → suc (count more) ≤ k → parts (parse d) k ts ≡ Ok (e ∷ items-the_row-Expr _ more, rest)
unfolding parts
parts_more d zero e w more v ts rest mid comma h h' deep long = absurd (omega arith)
parts_more d (suc k) e w more v ts rest mid comma h h' deep long = rw (closed d e sign.Comma comma ts mid w tt refl h (omega arith), v.all d k mid rest h' (omega arith) (omega arith)) refl

mutual
  works : (e : Expr) → Works e
  works (Literal l) = operand (Literal l) (λ t. refl) (omega arith) (λ d n ts rest s h k f. rw s refl)
  works (Named i) = operand (Named i) (λ t. refl) (omega arith) (λ d n ts rest s h k f. rw (s.1, s.0) (named_over (parse d) i rest f.unbracketed))
  works (Select i bits) = works_select i bits
  works (Cell' i at s (more_of-Expr index end_of-Expr)) = works_cell i at s index (works index)
  works (Paren' at s (more_of-Expr inner end_of-Expr)) = works_paren at s inner (works inner)
  works (Not' at s (more_of-Expr inner end_of-Expr)) = works_not at s inner (works inner)
  works (Join' at s all) = works_join at s all (parts_work all)
  works (Binary' op at s (more_of-Expr left end_of-Expr) s' (more_of-Expr right end_of-Expr)) = works_binary op at s s' left right (works left) (works right)
  works (Choice' at at' s (more_of-Expr a end_of-Expr) s' (more_of-Expr b end_of-Expr) s'' (more_of-Expr c end_of-Expr)) = works_choice at at' s s' s'' a b c (works a) (works b) (works c)

  parts_work : {n : _} (row : Row_of-Expr n) → PartsWork row
  parts_work end_of-Expr = record { all = λ d k ts rest h. elim h [ ] }
  parts_work (more_of-Expr e end_of-Expr) = record { all = λ d k ts rest (close, h) deep long. parts_last d k e (works e) ts rest close h (omega arith) long }
  parts_work (more_of-Expr e (more_of-Expr f more)) = record { all = λ d k ts rest (mid, comma, h, h') deep long. parts_more d k e (works e) (more_of-Expr f more) (parts_work (more_of-Expr f more)) ts rest mid comma h h' deep long }

-- What is spelled is read, where the depth allows it and what follows goes on with nothing.
pub parse-is : (e : Expr) (d : ℕ) (ts rest : List Placed) → Spells e ts rest → depth_of e ≤ d → Ends 0 rest → parse d 0 ts ≡ Ok (e, rest)
parse-is e d ts rest h deep f = (works e).whole.all d 0 ts rest h (omega arith) deep f
