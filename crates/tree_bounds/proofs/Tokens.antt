-- The tokens of a text: each literal fits its size, and there are no more tokens than bytes.
use Rattle.std.proofs.Common.{◌≡◌, ℕ, suc, ◌^◌, ◌≤◌, Bool, true, false, not, List, [], ◌∷◌, length, Option, Some, None, refl, subst, arith, eqb}
use Rattle.std.specs.Prelude.{◌==◌, nat_le, nat_lt}
use Rattle.std.specs.Char.{digit_value}
use Rattle.std.specs.Str.Parse.{digits_value}
use Rattle.std.proofs.lemmas.Bool.{and_parts, leb-true, ltb-true}
use Rattle.std.proofs.lemmas.Bool.Decides.{nat_tests}
use Rattle.std.proofs.lemmas.Str.Parse.{digits_value-take-le}
use Rattle.verilog_tree.specs.Signs.{Sign}
use Rattle.verilog_tree.specs.Lexemes.{Lexeme, Word, Number, Sized, Mark, Placed}
use Rattle.verilog_tree.specs.Bytes.{choose, is_letter, is_digit, is_word_byte, front, behind, begins}
use Rattle.verilog_tree.specs.Blanks.{Between}
use Rattle.verilog_tree.specs.Lex.{Scan, base_of, in_base, literal_scan, behind_base, with_base, behind_quote, is_size, number_scan, behind_digits, single_sign, unless_next, behind_equals, behind_less, sign_at, token_at, HasTokens}
use Rattle.verilog_tree.proofs.Scans.{token_short}
use Rattle.verilog_tree.proofs.TokenList.{skipped_short}
use Rattle.verilog_mean.specs.Bounds.{IsLiteral}

-- a literal fits its size
abbrev pub Fits : Lexeme → Type 0
Fits (Word w) = Unit {0}
Fits (Number n) = Unit {0}
Fits (Sized width value) = IsLiteral width value
Fits (Mark s) = Unit {0}

abbrev pub AllFit : List Placed → Type 0
AllFit [] = Unit {0}
AllFit (t ∷ ts) = Fits t.lexeme × AllFit ts

-- ---- one token

-- a token that fits, if it is one
abbrev ScanFits : Scan → Type 0
ScanFits None = Unit {0}
ScanFits (Some x) = Fits x.0

choose_fits : (b : Bool) (f g : Unit {0} → Scan) → ScanFits (f tt) → ScanFits (g tt) → ScanFits (choose b f g)
choose_fits true f g h k = h
choose_fits false f g h k = k

-- where what holds on the first way counts
choose_tested : (b : Bool) (f g : Unit {0} → Scan) → (b ≡ true → ScanFits (f tt)) → ScanFits (g tt) → ScanFits (choose b f g)
choose_tested true f g h k = h refl
choose_tested false f g h k = k

literal_fits : (width value : ℕ) (rest : List ℕ) → 1 ≤ width → width ≤ 64 → ScanFits (literal_scan width value rest)
literal_fits width value rest h k = choose_tested (nat_lt value (2 ^ width)) _ _ (λ e. (h, (k, ltb-true value (2 ^ width) e))) tt

base_fits : (width base : ℕ) (bytes : List ℕ) → 1 ≤ width → width ≤ 64 → ScanFits (behind_base width base bytes)
base_fits width base [] h k = tt
base_fits width base (d ∷ ds) h k = choose_fits (in_base base d) _ _ (literal_fits width _ _ h k) tt

with_base_fits : (base : Option ℕ) (width : ℕ) (bytes : List ℕ) → 1 ≤ width → width ≤ 64 → ScanFits (with_base base width bytes)
with_base_fits None width bytes h k = tt
with_base_fits (Some base) width bytes h k = base_fits width base bytes h k

quote_fits : (width : ℕ) (bytes : List ℕ) → 1 ≤ width → width ≤ 64 → ScanFits (behind_quote width bytes)
quote_fits width [] h k = tt
quote_fits width (b ∷ bs) h k = with_base_fits (base_of b) width bs h k

-- a digit other than "0" counts
first_counts : (b : ℕ) → is_digit b ≡ true → eqb b 48 ≡ false → 1 ≤ digit_value b
first_counts b h k = grind (arith, nat_tests)

-- digits of which the first is not "0" write a number above 0
digits_positive : (b : ℕ) (ds : List ℕ) → is_digit b ≡ true → eqb b 48 ≡ false → 1 ≤ digits_value 10 (b ∷ ds)
digits_positive b ds h k =
    let first : 1 ≤ digit_value b = first_counts b h k in
    let all : digits_value 10 (b ∷ []) ≤ digits_value 10 (b ∷ ds) = digits_value-take-le 10 (b ∷ ds) 1 (omega arith) in
    omega arith

not_false : (b : Bool) → not b ≡ true → b ≡ false
not_false true h = absurd cc
not_false false h = refl

size_positive : (b : ℕ) (ds : List ℕ) → is_digit b ≡ true → is_size (b ∷ ds) ≡ true → 1 ≤ digits_value 10 (b ∷ ds)
size_positive b ds h k = digits_positive b ds h (not_false (eqb b 48) (and_parts _ _ k).0)

size_small : (digits : List ℕ) → is_size digits ≡ true → digits_value 10 digits ≤ 64
size_small digits k = leb-true (digits_value 10 digits) 64 (and_parts (not (begins 48 digits)) _ k).1

number_fits : (digits rest : List ℕ) → ScanFits (number_scan digits rest)
number_fits digits rest = choose_fits (nat_le (length digits) 9) _ _ tt tt

digits_fit : (b : ℕ) (ds bytes : List ℕ) → is_digit b ≡ true → ScanFits (behind_digits (b ∷ ds) bytes)
digits_fit b ds [] h = number_fits (b ∷ ds) []
digits_fit b ds (c ∷ cs) h =
    choose_fits (c == 39) _ _
    (choose_tested (is_size (b ∷ ds)) _ _ (λ e. quote_fits (digits_value 10 (b ∷ ds)) cs (size_positive b ds h e) (size_small (b ∷ ds) e)) tt)
    (number_fits (b ∷ ds) (c ∷ cs))

single_fits : (signs : List (ℕ × Sign)) (b : ℕ) (rest : List ℕ) → ScanFits (single_sign signs b rest)
single_fits [] b rest = tt
single_fits (s ∷ signs) b rest = choose_fits (b == s.0) _ _ tt (single_fits signs b rest)

unless_fits : (p : ℕ → Bool) (s : Sign) (bytes : List ℕ) → ScanFits (unless_next p s bytes)
unless_fits p s [] = tt
unless_fits p s (b ∷ bs) = choose_fits (p b) _ _ tt tt

equals_fits : (bytes : List ℕ) → ScanFits (behind_equals bytes)
equals_fits [] = tt
equals_fits (b ∷ bs) = search (choose_fits, unless_fits)

less_fits : (bytes : List ℕ) → ScanFits (behind_less bytes)
less_fits [] = tt
less_fits (b ∷ bs) = search (choose_fits, unless_fits)

sign_fits : (b : ℕ) (bytes : List ℕ) → ScanFits (sign_at b bytes)
sign_fits b bytes =
    search (choose_fits, equals_fits, less_fits, unless_fits, single_fits) depth 9

token_fits : (b : ℕ) (bs : List ℕ) → ScanFits (token_at b bs)
unfolding token_at
token_fits b bs =
    choose_fits (is_letter b) _ _ (choose_fits (nat_le (length (b ∷ front is_word_byte bs)) 255) _ _ tt tt)
    (choose_tested (is_digit b) _ _ (λ e. digits_fit b (front is_digit bs) (behind is_digit bs) e) (sign_fits b bs))

scanned_fits : (b : ℕ) (bs : List ℕ) (t : Lexeme) (rest : List ℕ) → token_at b bs ≡ Some (t, rest) → Fits t
scanned_fits b bs t rest h = subst ScanFits h (token_fits b bs)

-- ---- all of them

-- the literals of the rest of a text fit their sizes
pub tokens_fit : (size : ℕ) (bytes : List ℕ) (ts : List Placed) → HasTokens size bytes ts → AllFit ts
tokens_fit size bytes [] h = tt
tokens_fit size bytes (t ∷ ts) (b, bs, rest, e, at, scan, more) = (scanned_fits b bs t.lexeme rest scan, tokens_fit size rest ts more)

-- it has no more tokens than bytes
pub tokens_count : (size : ℕ) (bytes : List ℕ) (ts : List Placed) → HasTokens size bytes ts → length ts ≤ length bytes
tokens_count size bytes [] h = omega arith
tokens_count size bytes (t ∷ ts) (b, bs, rest, e, at, scan, more) =
    let begun : suc (length bs) ≤ length bytes = skipped_short Between bytes (b ∷ bs) e in
    let left : length rest ≤ length bs = token_short b bs t.lexeme rest scan in
    let again : length ts ≤ length rest = tokens_count size rest ts more in
    omega arith
