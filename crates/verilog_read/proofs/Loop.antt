-- The steps of the loops.
use Rattle.std.proofs.Common.{◌≡◌, ℕ, zero, suc, ◌+◌, ◌-◌, ◌<◌, ◌≤◌, max, List, [], ◌∷◌, ◌++◌, length, Ok, Err, refl, sym, ap, subst, ◌∙◌, arith, append_assoc}
use Rattle.std.proofs.lemmas.Bool.{le-leb, lt-leb}
use Rattle.verilog_tree.specs.declared.expr.BinSign.{BinSign}
use Rattle.verilog_tree.specs.Signs as sign
use Rattle.verilog_tree.specs.Lexemes.{Lexeme, Mark, Placed}
use Rattle.verilog_tree.specs.declared.expr.Expr.{Expr}
use Rattle.verilog_tree.specs.declared.expr.Expr.TheVariants.{Binary}
use Rattle.verilog_tree.specs.Depth.{depth_of, deepest_of}
use Rattle.verilog_tree.specs.Grammar.{level_of}
use Rattle.verilog_tree.specs.Readers.{Deep, ◌>>=◌}
use Rattle.verilog_tree.specs.Parse.{Read, Parser, Parts, Operator, Question, Nothing, next, parts, parts_behind, parts_after, start, choice, operation, goes_on, parse}
use Rattle.std.specs.Prelude.{drop}
use Rattle.verilog_read.specs.declared.expr.Next.TheVariants as form
use Rattle.verilog_read.specs.declared.token.Placed as code
use Rattle.verilog_read.specs.Seen.{seen}
use Rattle.verilog_read.specs.Expressions.{IsNext, operand, separates, separates_at, parts_on, parts_from}

abbrev with_front : List Expr → Parts → Parts
with_front front read = read >>= λ x. Ok (front ++ x.0, x.1)

module _ (part : ℕ → Parser) where
  after_is : (n : ℕ) (found : List Expr) (e : Expr) (t : Lexeme) (ts all : List Placed) → ((found : List Expr) (ts : List Placed) → with_front found (parts part n ts) ≡ parts_from part n found ts) →
      with_front found (parts_after (parts part n) e t ts all) ≡ (separates_at t ts all >>= λ s. parts_on s.0 (λ _. parts_from part n (found ++ e ∷ []) s.1) (λ _. Ok (found ++ e ∷ [], s.1)))
  after_is n found e (Mark sign.Comma) ts all again = front_front (parts part n ts) ∙ again (found ++ e ∷ []) ts
    where
      front_front : (read : Parts) → with_front found (read >>= λ rest. Ok (e ∷ rest.0, rest.1)) ≡ with_front (found ++ e ∷ []) read
      front_front (Ok x) = ap (λ (l : List Expr). Ok (l, x.1)) (sym (append_assoc found (e ∷ []) x.0))
      front_front (Err s) = refl
  after_is n found e (Mark sign.CloseBrace) ts all again = refl
  after_is n found e _ ts all again = refl

  behind_is : (n : ℕ) (found : List Expr) (e : Expr) (us : List Placed) → ((found : List Expr) (ts : List Placed) → with_front found (parts part n ts) ≡ parts_from part n found ts) →
      with_front found (parts_behind (parts part n) e us) ≡ (separates us >>= λ s. parts_on s.0 (λ _. parts_from part n (found ++ e ∷ []) s.1) (λ _. Ok (found ++ e ∷ [], s.1)))
  behind_is n found e [] again = refl
  behind_is n found e (t ∷ us) again = after_is n found e t.lexeme us (t ∷ us) again

  pub parts_are : (n : ℕ) (found : List Expr) (ts : List Placed) → with_front found (parts part n ts) ≡ parts_from part n found ts
  unfolding parts parts_from
  parts_are zero found ts = refl
  parts_are (suc n) found ts = step (part 0 ts) (λ f us. parts_are n f us)
    where
      step : (read : Read) → ((found : List Expr) (ts : List Placed) → with_front found (parts part n ts) ≡ parts_from part n found ts) → with_front found (read >>= λ first. parts_behind (parts part n) first.0 first.1) ≡ (read >>= λ first. separates first.1 >>= λ s. parts_on s.0 (λ _. parts_from part n (found ++ first.0 ∷ []) s.1) (λ _. Ok (found ++ first.0 ∷ [], s.1)))
      step (Ok x) more = behind_is n found x.0 x.1 more
      step (Err s) more = refl

  pub parts-from : (n : ℕ) (ts : List Placed) → parts part n ts ≡ parts_from part n [] ts
  parts-from n ts = plain (parts part n ts) ∙ parts_are n [] ts
    where
      plain : (read : Parts) → read ≡ with_front [] read
      plain (Ok x) = refl
      plain (Err s) = refl

pub parse-is : (d n : ℕ) (ts : List Placed) → 0 < d →
    parse d n ts ≡ (start (parse (d - 1)) n ts >>= λ first. goes_on (parse (d - 1)) (d - 1) n (d - 1 + 1) first.0 first.1)
unfolding parse
parse-is d n ts h =
    let e : d ≡ suc (d - 1) = omega arith in
    let f : suc (d - 1) ≡ d - 1 + 1 = omega arith in
    ap (λ (k : ℕ). parse k n ts) e ∙ ap (λ (k : ℕ). start (parse (d - 1)) n ts >>= λ first. goes_on (parse (d - 1)) (d - 1) n k first.0 first.1) f

pub goes-operator : (d n t : ℕ) (left : Expr) (ts : List Placed) (op : BinSign) (at : ℕ) (rest : List Placed) → next ts ≡ Operator op at rest → n ≤ level_of op → depth_of left ≤ d →
    goes_on (parse d) d n (suc t) left ts ≡ (operand d op at left rest >>= λ x. goes_on (parse d) d n t x.0 x.1)
unfolding goes_on operation operand
goes-operator d n t left ts op at rest what l deep = rw (what, le-leb n (level_of op) l, le-leb (depth_of left) d deep) (again (parse d (suc (level_of op)) rest))
  where
    made : Expr × List Placed → Read
    made right = Ok (Binary op at left right.0, right.1)

    again : (read : Read) → (read >>= λ right. goes_on (parse d) d n t (Binary op at left right.0) right.1) ≡ ((read >>= made) >>= λ x. goes_on (parse d) d n t x.0 x.1)
    again (Ok x) = refl
    again (Err s) = refl

pub goes-deep : (part : ℕ → Parser) (d n t : ℕ) (left : Expr) (ts : List Placed) (op : BinSign) (at : ℕ) (rest : List Placed) → next ts ≡ Operator op at rest → n ≤ level_of op → d < depth_of left → goes_on part d n (suc t) left ts ≡ Err (Deep ts)
unfolding goes_on
goes-deep part d n t left ts op at rest what l deep = rw (what, le-leb n (level_of op) l, lt-leb (depth_of left) d deep) refl

pub goes-below : (part : ℕ → Parser) (d n t : ℕ) (left : Expr) (ts : List Placed) (op : BinSign) (at : ℕ) (rest : List Placed) → next ts ≡ Operator op at rest → level_of op < n → goes_on part d n (suc t) left ts ≡ Ok (left, ts)
unfolding goes_on
goes-below part d n t left ts op at rest what l = rw (what, lt-leb n (level_of op) l) refl

pub goes-question : (part : ℕ → Parser) (d n t : ℕ) (left : Expr) (ts : List Placed) (at : ℕ) (rest : List Placed) → next ts ≡ Question at rest → n ≡ 0 → depth_of left ≤ d → goes_on part d n (suc t) left ts ≡ choice part left at rest
unfolding goes_on
goes-question part d n t left ts at rest what l deep = rw (what, le-leb n 0 (omega arith), le-leb (depth_of left) d deep) refl

pub goes-deep-question : (part : ℕ → Parser) (d n t : ℕ) (left : Expr) (ts : List Placed) (at : ℕ) (rest : List Placed) → next ts ≡ Question at rest → n ≡ 0 → d < depth_of left → goes_on part d n (suc t) left ts ≡ Err (Deep ts)
unfolding goes_on
goes-deep-question part d n t left ts at rest what l deep = rw (what, le-leb n 0 (omega arith), lt-leb (depth_of left) d deep) refl

pub goes-above-question : (part : ℕ → Parser) (d n t : ℕ) (left : Expr) (ts : List Placed) (at : ℕ) (rest : List Placed) → next ts ≡ Question at rest → 0 < n → goes_on part d n (suc t) left ts ≡ Ok (left, ts)
unfolding goes_on
goes-above-question part d n t left ts at rest what l = rw (what, lt-leb n 0 l) refl

pub goes-nowhere : (part : ℕ → Parser) (d n t : ℕ) (left : Expr) (ts : List Placed) → next ts ≡ Nothing → goes_on part d n (suc t) left ts ≡ Ok (left, ts)
unfolding goes_on
goes-nowhere part d n t left ts what = rw what refl

pub goes-out : (part : ℕ → Parser) (d n : ℕ) (left : Expr) (ts : List Placed) → goes_on part d n 0 left ts ≡ Err (Deep ts)
unfolding goes_on
goes-out part d n left ts = refl

pub operator_next : (d n t : ℕ) (left : Expr) (ts : List Placed) (op : BinSign) (at : ℕ) (news : List Placed) → IsNext (form.Operator op at) ts → news ≡ drop 1 ts → n ≤ level_of op → depth_of left ≤ d →
    goes_on (parse d) d n (suc t) left ts ≡ (operand d op at left news >>= λ x. goes_on (parse d) d n t x.0 x.1)
operator_next d n t left ts op at news what e l deep =
    subst (λ (r : List Placed). goes_on (parse d) d n (suc t) left ts ≡ (operand d op at left r >>= λ x. goes_on (parse d) d n t x.0 x.1)) (sym e) (goes-operator d n t left ts op at (drop 1 ts) what l deep)

pub question_next : (part : ℕ → Parser) (d n t : ℕ) (left : Expr) (ts : List Placed) (at : ℕ) (news : List Placed) → IsNext (form.Question at) ts → news ≡ drop 1 ts → n ≡ 0 → depth_of left ≤ d →
    goes_on part d n (suc t) left ts ≡ choice part left at news
question_next part d n t left ts at news what e l deep =
    subst (λ (r : List Placed). goes_on part d n (suc t) left ts ≡ choice part left at r) (sym e) (goes-question part d n t left ts at (drop 1 ts) what l deep)

pub deepest-push : (found : List Expr) (e : Expr) → deepest_of (found ++ e ∷ []) ≡ max (deepest_of found) (depth_of e)
deepest-push [] e = omega arith
deepest-push (f ∷ found) e = omega (arith, deepest-push found e)

pub one_more : {X : Type 0} {x : X} (f : ℕ → X) (n at : ℕ) → at < n → x ≡ f (n - at) → x ≡ f (suc (n - (at + 1)))
one_more f n at below e = let turn : n - at ≡ suc (n - (at + 1)) = omega arith in e ∙ ap f turn

pub no_more : {X : Type 0} {x : X} (f : ℕ → X) (n at : ℕ) → n ≤ at → x ≡ f (n - at) → x ≡ f 0
no_more f n at over e = let none : n - at ≡ 0 = omega arith in e ∙ ap f none

pub length-seen : (ts : List code.Placed) → length (seen ts) ≡ length ts
length-seen [] = refl
length-seen (t ∷ ts) = omega (arith, length-seen ts)

pub ruleset loops = (parts-from, parse-is, deepest-push, length-seen)
