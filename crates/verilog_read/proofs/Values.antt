-- The values of digits.
use Rattle.std.proofs.Common.{◌≡◌, ℕ, zero, suc, ◌+◌, ◌-◌, ◌*◌, ◌^◌, ◌<◌, ◌≤◌, Bool, true, false, cond, List, [], ◌∷◌, ◌++◌, length, take, get_or, refl, sym, ap, subst, ◌∙◌, arith, eqb, leb}
use Rattle.std.specs.Prelude.{◌≢◌, not, filter}
use Rattle.std.specs.Char.{digit_value}
use Rattle.std.specs.Str.Parse.{digits_value_after, digits_value, AllDigits}
use Rattle.std.proofs.lemmas.Int.Digits.{digits_value-lt}
use Rattle.std.proofs.lemmas.Bool.Decides.{nat_tests}
use Rattle.std.specs.Str.{IsAscii, IsUtf8}
use Rattle.std.proofs.lemmas.Str.{IsUtf8-from_ascii}
use Rattle.std.proofs.lemmas.Str.Ascii.{IsAscii-cons, IsAscii-nil}
use Rattle.std.proofs.Common.{drop, Option, Some, None}
use Rattle.std.proofs.lemmas.Bool.{le-leb, lt-leb}
use Rattle.std.proofs.Math.Seq.{take-length}
use Rattle.std.proofs.Math.Nat.{pow-le-pow_right}
use Rattle.verilog_tree.specs.Lexemes.{Word, Sized}
use Rattle.verilog_tree.specs.Bytes.{is_letter, is_word_byte, is_digit, front, behind, choose}
use Rattle.verilog_tree.specs.Lex.{sign_at, token_at, word_scan, behind_digits, behind_base, literal_scan, in_base, in_literal}
use Rattle.verilog_read.specs.Runs.{AllPass, value_after, word_of, number_of, token_of}

wider : (n base : ℕ) → 1 ≤ base → n ≤ n * base
wider n base h = grind arith

-- a value only grows
pub grows : (base n : ℕ) (ds : List ℕ) → 1 ≤ base → n ≤ digits_value_after base n ds
grows base n [] h = omega arith
grows base n (d ∷ ds) h =
    let step : n ≤ n * base = wider n base h in
    let more = grows base (n * base + digit_value d) ds h in
    omega (arith, step, more)

pub decimal_in_base : (b : ℕ) → is_digit b ≡ true → in_base 16 b ≡ true
decimal_in_base b h = grind (arith, nat_tests)

pub decimal_small : (b : ℕ) → is_digit b ≡ true → digit_value b < 10
decimal_small b h = grind (arith, nat_tests)

-- past the most, whatever follows
pub past_most : (base most value next whole : ℕ) (ds : List ℕ) → 1 ≤ base → whole ≡ digits_value_after base next ds → most < next → most < whole
past_most base most value next whole ds h e l = omega (arith, grows base next ds h)

pub head_pass : (p : ℕ → Bool) (rest : List ℕ) → 1 ≤ length rest → AllPass p rest → p (get_or rest 0 0) ≡ true
head_pass p [] l h = absurd (omega arith)
head_pass p (b ∷ bs) l h = h.0

pub over_step : (base most value whole d : ℕ) (rest : List ℕ) → 1 ≤ base → 1 ≤ length rest → whole ≡ digits_value_after base value rest → d ≡ digit_value (get_or rest 0 0) → most < value * base + d → most < whole
over_step base most value whole d [] h l e k m = absurd (omega arith)
over_step base most value whole d (b ∷ bs) h l e k m = past_most base most value (value * base + digit_value b) whole bs h e (subst (λ (v : ℕ). most < value * base + v) k m)

-- a byte that is no "_" counts
pub over_literal : (base most value whole d : ℕ) (rest : List ℕ) → 1 ≤ base → 1 ≤ length rest → whole ≡ value_after base value rest → get_or rest 0 0 ≢ 95 → d ≡ digit_value (get_or rest 0 0) → most < value * base + d → most < whole
over_literal base most value whole d [] h l e n k m = absurd (omega arith)
over_literal base most value whole d (b ∷ bs) h l e n k m =
    let counts : not (eqb b 95) ≡ true = grind (arith, nat_tests) in
    let e' : whole ≡ digits_value_after base (value * base + digit_value b) (filter (λ c. not (eqb c 95)) bs) = e ∙ rw counts refl in
    past_most base most value (value * base + digit_value b) whole (filter (λ c. not (eqb c 95)) bs) h e' (subst (λ (v : ℕ). most < value * base + v) k m)

pub literal_in_base : (base b : ℕ) → base ≤ 16 → in_literal base b ≡ true → b ≢ 95 → in_base 16 b ≡ true
literal_in_base base b h l n = grind (arith, nat_tests)

-- ---- the text of a run

behind_short : (p : ℕ → Bool) (bs : List ℕ) → length (behind p bs) ≤ length bs
behind_short p [] = omega arith
behind_short p (b ∷ bs) = by_test (p b) (behind_short p bs)
  where
    by_test : (t : Bool) → length (behind p bs) ≤ length bs → length (choose t (λ _. behind p bs) (λ _. b ∷ bs)) ≤ suc (length bs)
    by_test true again = omega arith
    by_test false again = omega arith

pub front_is : (p : ℕ → Bool) (bs : List ℕ) → front p bs ≡ take (length bs - length (behind p bs)) bs
front_is p [] = refl
front_is p (b ∷ bs) = by_test (p b) (front_is p bs)
  where
    by_test : (t : Bool) → front p bs ≡ take (length bs - length (behind p bs)) bs → choose t (λ _. b ∷ front p bs) (λ _. []) ≡ take (suc (length bs) - length (choose t (λ _. behind p bs) (λ _. b ∷ bs))) (b ∷ bs)
    by_test true again =
        let n : suc (length bs) - length (behind p bs) ≡ suc (length bs - length (behind p bs)) = omega (arith, behind_short p bs) in
        rw n (ap (λ (l : List ℕ). b ∷ l) again)
    by_test false again =
        let n : suc (length bs) - suc (length bs) ≡ 0 = omega arith in
        rw n refl

-- a word: its text is what stands before the rest
pub word_is : (bytes rest : List ℕ) → 0 < length bytes → behind is_word_byte (take (length bytes - 1) (drop 1 bytes)) ≡ rest → word_of bytes ≡ word_scan (take (length bytes - length rest) bytes) rest
word_is [] rest h e = absurd (omega arith)
word_is (b ∷ bs) rest h e =
    let one : suc (length bs) - 1 ≡ length bs = omega arith in
    let e' : behind is_word_byte bs ≡ rest = ap (behind is_word_byte) (sym (take-length bs) ∙ ap (λ (n : ℕ). take n bs) (sym one)) ∙ e in
    let short : length rest ≤ length bs = omega (arith, behind_short is_word_byte bs, ap length e') in
    let n : suc (length bs) - length rest ≡ suc (length bs - length rest) = omega arith in
    let text : front is_word_byte bs ≡ take (length bs - length rest) bs = front_is is_word_byte bs ∙ ap (λ (r : List ℕ). take (length bs - length r) bs) e' in
    rw (n, e', text) refl

pub word_short : (text rest : List ℕ) → length text ≤ 255 → word_scan text rest ≡ Some (Word text, rest)
word_short text rest h = rw (le-leb (length text) 255 h) refl

pub word_long : (text rest : List ℕ) → 255 < length text → word_scan text rest ≡ None
word_long text rest h = rw (lt-leb (length text) 255 h) refl

-- a first byte and the run behind it
pub record IsRun (p : ℕ → Bool) (bytes rest : List ℕ) : Type 0 where
  pub first : ℕ
  pub others : List ℕ
  pub parts : bytes ≡ first ∷ others
  pub text : take (length bytes - length rest) bytes ≡ first ∷ front p others
  pub behind_is : behind p others ≡ rest

pub run_is : (p : ℕ → Bool) (bytes rest : List ℕ) → 0 < length bytes → behind p (take (length bytes - 1) (drop 1 bytes)) ≡ rest → IsRun p bytes rest
run_is p [] rest h e = absurd (omega arith)
run_is p (b ∷ bs) rest h e =
    let one : suc (length bs) - 1 ≡ length bs = omega arith in
    let e' : behind p bs ≡ rest = ap (behind p) (sym (take-length bs) ∙ ap (λ (n : ℕ). take n bs) (sym one)) ∙ e in
    let short : length rest ≤ length bs = omega (arith, behind_short p bs, ap length e') in
    let n : suc (length bs) - length rest ≡ suc (length bs - length rest) = omega arith in
    let text : front p bs ≡ take (length bs - length rest) bs = front_is p bs ∙ ap (λ (r : List ℕ). take (length bs - length r) bs) e' in
    record { first = b; others = bs; parts = refl; text = rw n (ap (λ (l : List ℕ). b ∷ l) (sym text)); behind_is = e' }

front_passes : (p : ℕ → Bool) (bs : List ℕ) → AllPass p (front p bs)
front_passes p [] = tt
front_passes p (b ∷ bs) = by_test (p b) refl (front_passes p bs)
  where
    by_test : (t : Bool) → p b ≡ t → AllPass p (front p bs) → AllPass p (choose t (λ _. b ∷ front p bs) (λ _. []))
    by_test true e again = (e, again)
    by_test false e again = tt

pub run_passes : (p : ℕ → Bool) (bytes rest : List ℕ) → 0 < length bytes → behind p (take (length bytes - 1) (drop 1 bytes)) ≡ rest → p (get_or bytes 0 0) ≡ true → AllPass p (take (length bytes - length rest) bytes)
run_passes p bytes rest h e passes =
    let r = run_is p bytes rest h e in
    let first : p r.first ≡ true = ap (λ (l : List ℕ). p (get_or l 0 0)) (sym r.parts) ∙ passes in
    rw r.text (first, front_passes p r.others)

pub number_is : (bytes rest : List ℕ) → 0 < length bytes → behind is_digit (take (length bytes - 1) (drop 1 bytes)) ≡ rest → number_of bytes ≡ behind_digits (take (length bytes - length rest) bytes) rest
number_is bytes rest h e =
    let r = run_is is_digit bytes rest h e in
    ap number_of r.parts ∙ (λ i. behind_digits (sym r.text i) (r.behind_is i))

pub digits_is : (width base : ℕ) (bytes rest : List ℕ) → 0 < length bytes → behind (in_literal base) (take (length bytes - 1) (drop 1 bytes)) ≡ rest → in_base base (get_or bytes 0 0) ≡ true →
    behind_base width base bytes ≡ literal_scan width (value_after base 0 (take (length bytes - length rest) bytes)) rest
digits_is width base bytes rest h e passes =
    let r = run_is (in_literal base) bytes rest h e in
    let first : in_base base r.first ≡ true = ap (λ (l : List ℕ). in_base base (get_or l 0 0)) (sym r.parts) ∙ passes in
    ap (behind_base width base) r.parts ∙ rw first refl ∙ (λ i. literal_scan width (value_after base 0 (sym r.text i)) (r.behind_is i))

pub sized_fits : (width value : ℕ) (rest : List ℕ) → value < 2 ^ width → literal_scan width value rest ≡ Some (Sized width value, rest)
sized_fits width value rest h = rw (le-leb (suc value) (2 ^ width) h) refl

pub sized_over : (width value : ℕ) (rest : List ℕ) → 2 ^ width ≤ value → literal_scan width value rest ≡ None
sized_over width value rest h = rw (lt-leb (suc value) (2 ^ width) (omega arith)) refl

pub digit_low : (b r base : ℕ) → (in_base 16 b ≡ true → r ≡ digit_value b) × (in_base 16 b ≡ false → r ≡ 16) → r < base → base ≤ 16 → in_base base b ≡ true
digit_low b r base h lt le = by_test (in_base 16 b) refl
  where
    by_test : (t : Bool) → in_base 16 b ≡ t → in_base base b ≡ true
    by_test true e = let same : r ≡ digit_value b = h.0 e in le-leb (suc (digit_value b)) base (omega arith)
    by_test false e = let same : r ≡ 16 = h.1 e in absurd (omega arith)

pub in_either : (base b : ℕ) → in_base base b ≡ true → in_literal base b ≡ true
in_either base b h = rw h refl

pub some_left : (bytes : List ℕ) → eqb (length bytes) 0 ≡ false → 0 < length bytes
some_left bytes h = grind (arith, nat_tests)

all_digits : (ds : List ℕ) → AllPass is_digit ds → AllDigits 10 ds
all_digits [] h = tt
all_digits (d ∷ ds) h = (decimal_small d h.0, all_digits ds h.1)

pub nine_digits : (ds : List ℕ) → AllPass is_digit ds → length ds ≤ 9 → digits_value 10 ds < 4294967296
nine_digits ds h l =
    let small : digits_value 10 ds < 10 ^ length ds = digits_value-lt 10 ds (all_digits ds h) in
    let most : 10 ^ length ds ≤ 10 ^ 9 = pow-le-pow_right {n = 10} (omega arith) {i = length ds} {j = 9} l in
    omega arith

-- ---- tokens

pub token_word : (bytes : List ℕ) → 0 < length bytes → is_letter (get_or bytes 0 0) ≡ true → token_of bytes ≡ word_of bytes
unfolding token_at
token_word [] h l = absurd (omega arith)
token_word (b ∷ bs) h l = rw l refl

pub token_number : (bytes : List ℕ) → 0 < length bytes → is_letter (get_or bytes 0 0) ≡ false → is_digit (get_or bytes 0 0) ≡ true → token_of bytes ≡ number_of bytes
unfolding token_at
token_number [] h l d = absurd (omega arith)
token_number (b ∷ bs) h l d = rw (l, d) refl

pub token_sign : (bytes : List ℕ) → 0 < length bytes → is_letter (get_or bytes 0 0) ≡ false → is_digit (get_or bytes 0 0) ≡ false → token_of bytes ≡ sign_at (get_or bytes 0 0) (take (length bytes - 1) (drop 1 bytes))
unfolding token_at
token_sign [] h l d = absurd (omega arith)
token_sign (b ∷ bs) h l d =
    let one : suc (length bs) - 1 ≡ length bs = omega arith in
    rw (l, d, one, take-length bs) refl

pub ruleset tokens = (token_word, token_number, token_sign)

pub ruleset numbers = (nine_digits, le-leb)

pub ruleset values = (decimal_in_base, decimal_small)

-- ---- words are ASCII

word_byte_small : (b : ℕ) → is_word_byte b ≡ true → b < 128
word_byte_small b h = grind (arith, nat_tests)

letter_in_word : (b : ℕ) → is_letter b ≡ true → is_word_byte b ≡ true
letter_in_word b h = rw h refl

ascii_passes : (bs : List ℕ) → AllPass is_word_byte bs → IsAscii bs
ascii_passes [] h = IsAscii-nil
ascii_passes (b ∷ bs) h = IsAscii-cons b bs (word_byte_small b h.0) (ascii_passes bs h.1)

pub word_text : (bytes rest : List ℕ) → 0 < length bytes → behind is_word_byte (take (length bytes - 1) (drop 1 bytes)) ≡ rest → is_letter (get_or bytes 0 0) ≡ true → IsUtf8 (take (length bytes - length rest) bytes)
word_text bytes rest h e l = IsUtf8-from_ascii (take (length bytes - length rest) bytes) (ascii_passes (take (length bytes - length rest) bytes) (run_passes is_word_byte bytes rest h e (letter_in_word (get_or bytes 0 0) l)))
