-- A step that went on has the token that it wanted.
use Rattle.std.proofs.Common.{◌≡◌, ℕ, Bool, true, false, List, [], ◌∷◌, Result, Ok, Err, refl, sym, ap, subst}
use Rattle.verilog_tree.specs.declared.expr.BinSign.{BinSign}
use Rattle.verilog_tree.specs.declared.expr.BinSign.TheVariants as bin
use Rattle.verilog_tree.specs.Signs.{Sign}
use Rattle.verilog_tree.specs.Signs as sign
use Rattle.verilog_tree.specs.Lexemes.{Lexeme, Word, Number, Sized, Mark, Placed}
use Rattle.verilog_tree.specs.declared.expr.Num.{Num}
use Rattle.verilog_tree.specs.Grammar.{sign_of, mark, number_token}
use Rattle.verilog_tree.specs.Readers.{Stop, ◌>>=◌, same_sign, is_mark, expect, expect_at, number, number_at}
use Rattle.verilog_tree.specs.Parse.{Operator, Question, next, next_at}

-- the value of a step that did not fail
pub bind_ok : {A B : Type 0} (r : Result A Stop) (f : A → Result B Stop) (y : B) → (r >>= f) ≡ Ok y → (x : A) × (r ≡ Ok x) × (f x ≡ Ok y)
bind_ok (Ok x) f y e = (x, refl, e)
bind_ok (Err d) f y e = absurd cc

abbrev done : {A : Type 0} → A → Result A Stop
done x = Ok x

pub ok_is : {A : Type 0} (x y : A) → done x ≡ done y → x ≡ y
ok_is x y e = cc

same_sign-is : (s t : Sign) → same_sign s t ≡ true → s ≡ t
same_sign-is sign.Open sign.Open h = refl
same_sign-is sign.Close sign.Close h = refl
same_sign-is sign.OpenBracket sign.OpenBracket h = refl
same_sign-is sign.CloseBracket sign.CloseBracket h = refl
same_sign-is sign.OpenBrace sign.OpenBrace h = refl
same_sign-is sign.CloseBrace sign.CloseBrace h = refl
same_sign-is sign.Comma sign.Comma h = refl
same_sign-is sign.Semicolon sign.Semicolon h = refl
same_sign-is sign.Colon sign.Colon h = refl
same_sign-is sign.Question sign.Question h = refl
same_sign-is sign.Assign sign.Assign h = refl
same_sign-is sign.LessEqual sign.LessEqual h = refl
same_sign-is sign.Less sign.Less h = refl
same_sign-is sign.Equal sign.Equal h = refl
same_sign-is sign.Plus sign.Plus h = refl
same_sign-is sign.Minus sign.Minus h = refl
same_sign-is sign.And sign.And h = refl
same_sign-is sign.Or sign.Or h = refl
same_sign-is sign.Xor sign.Xor h = refl
same_sign-is sign.Not sign.Not h = refl
same_sign-is sign.At sign.At h = refl
same_sign-is _ _ h = absurd cc

pub is_mark-is : (s : Sign) (t : Lexeme) → is_mark s t ≡ true → t ≡ Mark s
is_mark-is s (Mark t) h = ap Mark (sym (same_sign-is s t h))
is_mark-is s (Word w) h = absurd cc
is_mark-is s (Number n) h = absurd cc
is_mark-is s (Sized w v) h = absurd cc

expect_at-ok : (b : Bool) (at : ℕ) (ts all : List Placed) (x : ℕ × List Placed) → expect_at b at ts all ≡ Ok x → (b ≡ true) × ((at, ts) ≡ x)
expect_at-ok true at ts all x h = (refl, ok_is (at, ts) x h)
expect_at-ok false at ts all x h = absurd cc

-- the sign that was wanted is there
pub expect-ok : (s : Sign) (ts : List Placed) (x : ℕ × List Placed) → expect s ts ≡ Ok x → ts ≡ mark x.0 s ∷ x.1
expect-ok s [] x h = absurd cc
expect-ok s (t ∷ ts) x h =
    let e = expect_at-ok (is_mark s t.lexeme) t.at ts (t ∷ ts) x h in
    let what : t.lexeme ≡ Mark s = is_mark-is s t.lexeme e.0 in
    subst (λ (y : ℕ × List Placed). ◌≡◌ {A = List Placed} (t ∷ ts) (mark y.0 s ∷ y.1)) e.1 (λ i. record { at = t.at; lexeme = what i } ∷ ts)

number_at-ok : (t : Lexeme) (at : ℕ) (ts all : List Placed) (x : Num × List Placed) → number_at t at ts all ≡ Ok x → (t ≡ Number x.0.value) × (at ≡ x.0.at) × (ts ≡ x.1)
number_at-ok (Number n) at ts all x h =
    let e : (record { at = at; value = n }, ts) ≡ x = ok_is (record { at = at; value = n }, ts) x h in
    (ap (λ (y : Num × List Placed). Number y.0.value) e, ap (λ (y : Num × List Placed). y.0.at) e, ap (λ (y : Num × List Placed). y.1) e)
number_at-ok _ at ts all x h = absurd cc

pub number-ok : (ts : List Placed) (x : Num × List Placed) → number ts ≡ Ok x → ts ≡ number_token x.0 ∷ x.1
number-ok [] x h = absurd cc
number-ok (t ∷ ts) x h =
    let e = number_at-ok t.lexeme t.at ts (t ∷ ts) x h in
    let a : t.lexeme ≡ Number x.0.value = e.0 in
    let b : t.at ≡ x.0.at = e.1 in
    let c : ts ≡ x.1 = e.2 in
    λ i. record { at = b i; lexeme = a i } ∷ c i

abbrev IsMark : Lexeme → ℕ → List Placed → BinSign → ℕ → List Placed → Type 0
IsMark t at ts op a v = (t ≡ Mark (sign_of op)) × (at ≡ a) × (ts ≡ v)

op_is : (o op : BinSign) (at a : ℕ) (ts v : List Placed) → Operator o at ts ≡ Operator op a v → IsMark (Mark (sign_of o)) at ts op a v
op_is o op at a ts v h =
    let e : o ≡ op = cc in
    (ap (λ k. Mark (sign_of k)) e, (cc), (cc))

next_at-is : (t : Lexeme) (at : ℕ) (ts : List Placed) (op : BinSign) (a : ℕ) (v : List Placed) → next_at t at ts ≡ Operator op a v → IsMark t at ts op a v
next_at-is (Mark sign.Or) at ts op a v h = op_is bin.Or op at a ts v h
next_at-is (Mark sign.Xor) at ts op a v h = op_is bin.Xor op at a ts v h
next_at-is (Mark sign.And) at ts op a v h = op_is bin.And op at a ts v h
next_at-is (Mark sign.Equal) at ts op a v h = op_is bin.Equal op at a ts v h
next_at-is (Mark sign.Less) at ts op a v h = op_is bin.Less op at a ts v h
next_at-is (Mark sign.Plus) at ts op a v h = op_is bin.Plus op at a ts v h
next_at-is (Mark sign.Minus) at ts op a v h = op_is bin.Minus op at a ts v h
next_at-is _ at ts op a v h = absurd cc

pub next-is : (ts : List Placed) (op : BinSign) (a : ℕ) (v : List Placed) → next ts ≡ Operator op a v → ts ≡ mark a (sign_of op) ∷ v
next-is [] op a v h = absurd cc
next-is (t ∷ ts) op a v h =
    let e = next_at-is t.lexeme t.at ts op a v h in
    let what : t.lexeme ≡ Mark (sign_of op) = e.0 in
    let place : t.at ≡ a = e.1 in
    let more : ts ≡ v = e.2 in
    λ i. record { at = place i; lexeme = what i } ∷ more i

asked_at-is : (t : Lexeme) (at : ℕ) (ts : List Placed) (a : ℕ) (v : List Placed) → next_at t at ts ≡ Question a v → (t ≡ Mark sign.Question) × (at ≡ a) × (ts ≡ v)
asked_at-is (Mark sign.Question) at ts a v h = (refl, (cc), (cc))
asked_at-is _ at ts a v h = absurd cc

pub asked-is : (ts : List Placed) (a : ℕ) (v : List Placed) → next ts ≡ Question a v → ts ≡ mark a sign.Question ∷ v
asked-is [] a v h = absurd cc
asked-is (t ∷ ts) a v h =
    let e = asked_at-is t.lexeme t.at ts a v h in
    let what : t.lexeme ≡ Mark sign.Question = e.0 in
    let place : t.at ≡ a = e.1 in
    let more : ts ≡ v = e.2 in
    λ i. record { at = place i; lexeme = what i } ∷ more i
