-- A text has at most one list of tokens.
use Rattle.std.proofs.Common.{◌≡◌, ℕ, List, [], ◌∷◌, length, Option, Some, refl, sym, ap, subst, ◌∙◌, arith}
use Rattle.verilog_tree.specs.Lexemes.{Lexeme, Placed}
use Rattle.verilog_tree.specs.Lex.{token_at, Scan, HasTokens}

pub some_is : {A : Type 0} (x y : A) → ◌≡◌ {A = Option A} (Some x) (Some y) → x ≡ y
some_is x y e = cc

pub one_list : (size : ℕ) (bytes : List ℕ) (ts us : List Placed) → HasTokens size bytes ts → HasTokens size bytes us → ts ≡ us
one_list size bytes [] [] h k = refl
one_list size bytes [] (u ∷ us) h (b, bs, rest, k, at, what, more) = absurd cc
one_list size bytes (t ∷ ts) [] (b, bs, rest, h, at, what, more) k = absurd cc
one_list size bytes (t ∷ ts) (u ∷ us) (b, bs, rest, h, at, what, more) (b', bs', rest', h', at', what', more') =
    let same : b ∷ bs ≡ b' ∷ bs' = cc in
    let first : b ≡ b' = cc in
    let others : bs ≡ bs' = cc in
    let long : length bs ≡ length bs' = ap length others in
    let place : t.at ≡ u.at = omega arith in
    let scans : ◌≡◌ {A = Scan} (Some (t.lexeme, rest)) (Some (u.lexeme, rest')) = sym what ∙ (λ i. token_at (first i) (others i)) ∙ what' in
    let both : (t.lexeme, rest) ≡ (u.lexeme, rest') = some_is (t.lexeme, rest) (u.lexeme, rest') scans in
    let token : t.lexeme ≡ u.lexeme = ap (λ (p : Lexeme × List ℕ). p.0) both in
    let left : rest ≡ rest' = ap (λ (p : Lexeme × List ℕ). p.1) both in
    let tail : ts ≡ us = one_list size rest ts us more (subst (λ (r : List ℕ). HasTokens size r us) (sym left) more') in
    λ i. record { at = place i; lexeme = token i } ∷ tail i
