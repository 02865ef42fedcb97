-- A digit more is written, and the highest is written.
use Rattle.std.proofs.Common.{◌≡◌, ℕ, suc, ◌+◌, ◌-◌, ◌/◌, ◌%◌, ◌^◌, ◌<◌, ◌≤◌, Bool, true, false, List, ◌∷◌, length, drop, set, ap, sym, ◌∙◌, subst, arith, cond, eqb, pow-suc}
use Rattle.std.specs.Fmt.{digit_glyph, digits, digits_onto}
use Rattle.std.proofs.lemmas.List.{drop-set, drop_all}
use Rattle.std.proofs.lemmas.Bool.{ne_eqb, eq-eqb}

digits_by : (k n : ℕ) (acc : List ℕ) (t : Bool) → eqb (n / 16) 0 ≡ t
    → digits_onto (suc k) 16 false n acc ≡ cond t (digit_glyph false (n % 16) ∷ acc) (digits_onto k 16 false (n / 16) (digit_glyph false (n % 16) ∷ acc))
digits_by k n acc t e = ap (λ (b : Bool). cond b (digit_glyph false (n % 16) ∷ acc) (digits_onto k 16 false (n / 16) (digit_glyph false (n % 16) ∷ acc))) e

less : (k n : ℕ) → n < 16 ^ suc k → n / 16 < 16 ^ k
less k n h = let e = pow-suc 16 k in omega (arith, e)

written : (j start g rest : ℕ) (buffer : List ℕ) → start ≡ j + 1 → j < length buffer → g ≡ digit_glyph false (rest % 16)
    → drop j (set buffer j g) ≡ digit_glyph false (rest % 16) ∷ drop start buffer
written j start g rest buffer s long e =
    drop-set buffer j g long ∙ ap (λ d. d ∷ drop (j + 1) buffer) e ∙ ap (λ k. digit_glyph false (rest % 16) ∷ drop k buffer) (sym s)

-- a digit of which more are above
pub digit_more : (j start g rest number : ℕ) (buffer : List ℕ) → start ≡ j + 1 → j < length buffer → g ≡ digit_glyph false (rest % 16) → (rest / 16 ≡ 0 → ⊥)
    → digits_onto (start + 48) 16 false rest (drop start buffer) ≡ digits 16 false number
    → digits_onto (j + 48) 16 false (rest / 16) (drop j (set buffer j g)) ≡ digits 16 false number
digit_more j start g rest number buffer s long e more h =
    ap (digits_onto (j + 48) 16 false (rest / 16)) (written j start g rest buffer s long e)
    ∙ sym (digits_by (j + 48) rest (drop start buffer) false (ne_eqb (rest / 16) 0 more))
    ∙ ap (λ k. digits_onto k 16 false rest (drop start buffer)) (let p : suc (j + 48) ≡ start + 48 = omega arith in p)
    ∙ h

-- the highest digit
pub digit_last : (j start g rest number : ℕ) (buffer : List ℕ) → start ≡ j + 1 → j < length buffer → g ≡ digit_glyph false (rest % 16) → rest / 16 ≡ 0
    → digits_onto (start + 48) 16 false rest (drop start buffer) ≡ digits 16 false number
    → drop j (set buffer j g) ≡ digits 16 false number
digit_last j start g rest number buffer s long e none h =
    written j start g rest buffer s long e
    ∙ sym (digits_by (j + 48) rest (drop start buffer) true (eq-eqb (rest / 16) 0 none))
    ∙ ap (λ k. digits_onto k 16 false rest (drop start buffer)) (let p : suc (j + 48) ≡ start + 48 = omega arith in p)
    ∙ h

pub rest_less : (start rest : ℕ) → 1 < start → rest < 16 ^ start → rest / 16 < 16 ^ (start - 1)
rest_less start rest one h = less (start - 1) rest (let e : start ≡ suc (start - 1) = omega arith in subst (λ k. rest < 16 ^ k) e h)

pub rest_none : (start rest : ℕ) → 1 ≤ start → start ≤ 1 → rest < 16 ^ start → rest / 16 ≡ 0
rest_none start rest one most h = let e : start ≡ 1 = omega arith in let l : rest < 16 = subst (λ k. rest < 16 ^ k) e h in omega arith

-- no digit is written
pub digits_none : (number : ℕ) (buffer : List ℕ) → length buffer ≡ 16 → digits_onto 64 16 false number (drop 16 buffer) ≡ digits 16 false number
unfolding digits
digits_none number buffer long = ap (digits_onto 64 16 false number) (drop_all 16 buffer (omega arith))
