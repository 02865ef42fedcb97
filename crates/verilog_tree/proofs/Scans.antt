-- What one token leaves: no more than stood behind its first byte, and the same whatever stands further behind.
use Rattle.std.proofs.Common.{◌≡◌, ℕ, suc, ◌≤◌, Bool, true, false, not, List, [], ◌∷◌, ◌++◌, length, Option, Some, None, refl, ap, subst, arith}
use Rattle.std.specs.Prelude.{filter, ◌==◌}
use Rattle.std.specs.Str.Parse.{digits_value}
use Rattle.verilog_tree.specs.Signs.{Sign}
use Rattle.verilog_tree.specs.Signs as sign
use Rattle.verilog_tree.specs.Lexemes.{Lexeme, Mark}
use Rattle.verilog_tree.specs.Bytes.{choose, is_digit, is_word_byte, front, behind}
use Rattle.verilog_tree.specs.Lex.{Scan, word_scan, base_of, in_literal, literal_scan, behind_base, with_base, behind_quote, number_scan, behind_digits, single_sign, unless_next, behind_equals, behind_less, sign_at, token_at}

-- ---- how much is left

-- a token that leaves at most n bytes, if it is one
abbrev Leaves : ℕ → Scan → Type 0
Leaves n None = Unit {0}
Leaves n (Some x) = length x.1 ≤ n

choose_leaves : (n : ℕ) (b : Bool) (f g : Unit {0} → Scan) → Leaves n (f tt) → Leaves n (g tt) → Leaves n (choose b f g)
choose_leaves n true f g h k = h
choose_leaves n false f g h k = k

behind_short : (p : ℕ → Bool) (bs : List ℕ) → length (behind p bs) ≤ length bs
behind_short p [] = omega arith
behind_short p (b ∷ bs) = by_test (p b) (behind_short p bs)
  where
    by_test : (t : Bool) → length (behind p bs) ≤ length bs → length (choose t (λ _. behind p bs) (λ _. b ∷ bs)) ≤ suc (length bs)
    by_test true again = omega arith
    by_test false again = omega arith

number_leaves : (n : ℕ) (digits rest : List ℕ) → length rest ≤ n → Leaves n (number_scan digits rest)
number_leaves n digits rest h = search choose_leaves

base_leaves : (n width base : ℕ) (bytes : List ℕ) → length bytes ≤ n → Leaves n (behind_base width base bytes)
base_leaves n width base [] h = tt
base_leaves n width base (d ∷ ds) h =
    let left : length (behind (in_literal base) ds) ≤ n = omega (arith, behind_short (in_literal base) ds) in
    search choose_leaves

with_base_leaves : (n : ℕ) (base : Option ℕ) (width : ℕ) (bytes : List ℕ) → length bytes ≤ n → Leaves n (with_base base width bytes)
with_base_leaves n None width bytes h = tt
with_base_leaves n (Some base) width bytes h = base_leaves n width base bytes h

quote_leaves : (n width : ℕ) (bytes : List ℕ) → length bytes ≤ n → Leaves n (behind_quote width bytes)
quote_leaves n width [] h = tt
quote_leaves n width (b ∷ bs) h = with_base_leaves n (base_of b) width bs (omega arith)

digits_leave : (n : ℕ) (digits bytes : List ℕ) → length bytes ≤ n → Leaves n (behind_digits digits bytes)
digits_leave n digits [] h = number_leaves n digits [] h
digits_leave n digits (b ∷ bs) h =
    let left : length bs ≤ n = omega arith in
    search (choose_leaves, quote_leaves, number_leaves)

single_leaves : (n : ℕ) (signs : List (ℕ × Sign)) (b : ℕ) (rest : List ℕ) → length rest ≤ n → Leaves n (single_sign signs b rest)
single_leaves n [] b rest h = tt
single_leaves n (s ∷ signs) b rest h = let again = single_leaves n signs b rest h in search choose_leaves

unless_leaves : (n : ℕ) (p : ℕ → Bool) (s : Sign) (bytes : List ℕ) → length bytes ≤ n → Leaves n (unless_next p s bytes)
unless_leaves n p s [] h = h
unless_leaves n p s (b ∷ bs) h = search choose_leaves

equals_leaves : (n : ℕ) (bytes : List ℕ) → length bytes ≤ n → Leaves n (behind_equals bytes)
equals_leaves n [] h = h
equals_leaves n (b ∷ bs) h = let left : length bs ≤ n = omega arith in search (choose_leaves, unless_leaves)

less_leaves : (n : ℕ) (bytes : List ℕ) → length bytes ≤ n → Leaves n (behind_less bytes)
less_leaves n [] h = h
less_leaves n (b ∷ bs) h = let left : length bs ≤ n = omega arith in search (choose_leaves, unless_leaves)

sign_leaves : (n b : ℕ) (bytes : List ℕ) → length bytes ≤ n → Leaves n (sign_at b bytes)
sign_leaves n b bytes h =
    search (choose_leaves, equals_leaves, less_leaves, unless_leaves, single_leaves) depth 9

token_leaves : (b : ℕ) (bs : List ℕ) → Leaves (length bs) (token_at b bs)
unfolding token_at
token_leaves b bs =
    let word : length (behind is_word_byte bs) ≤ length bs = behind_short is_word_byte bs in
    let number : length (behind is_digit bs) ≤ length bs = behind_short is_digit bs in
    let all : length bs ≤ length bs = omega arith in
    search (choose_leaves, digits_leave, sign_leaves)

-- a token leaves no more than stood behind its first byte
pub token_short : (b : ℕ) (bs : List ℕ) (t : Lexeme) (rest : List ℕ) → token_at b bs ≡ Some (t, rest) → length rest ≤ length bs
token_short b bs t rest h = left_of (token_at b bs) h (token_leaves b bs)
  where
    left_of : (s : Scan) → s ≡ Some (t, rest) → Leaves (length bs) s → length rest ≤ length bs
    left_of None e l = absurd cc
    left_of (Some x) e l = let same : x.1 ≡ rest = cc in omega (arith, ap length same)

-- ---- what stands further behind

-- Two answers: if the first is a token that leaves a byte, then the second is that token, and leaves these bytes behind what the first does.
abbrev Keeps : List ℕ → Scan → Scan → Type 0
Keeps more None s = Unit {0}
Keeps more (Some (t, [])) s = Unit {0}
Keeps more (Some (t, (r ∷ rs))) s = s ≡ Some (t, r ∷ (rs ++ more))

some_keeps : (more : List ℕ) (t : Lexeme) (r : List ℕ) → Keeps more (Some (t, r)) (Some (t, r ++ more))
some_keeps more t [] = tt
some_keeps more t (r ∷ rs) = refl

choose_keeps : (more : List ℕ) (b : Bool) (f g f' g' : Unit {0} → Scan) → Keeps more (f tt) (f' tt) → Keeps more (g tt) (g' tt) → Keeps more (choose b f g) (choose b f' g')
choose_keeps more true f g f' g' h k = h
choose_keeps more false f g f' g' h k = k

-- a token that would leave nothing
choose_ends : (more : List ℕ) (b : Bool) (f g : Unit {0} → Scan) (s : Scan) → Keeps more (f tt) s → Keeps more (g tt) s → Keeps more (choose b f g) s
choose_ends more true f g s h k = h
choose_ends more false f g s h k = k

-- a run that ends before the end
record RunEnds (p : ℕ → Bool) (bs more : List ℕ) : Type 0 where
  run : front p (bs ++ more) ≡ front p bs
  left : behind p (bs ++ more) ≡ behind p bs ++ more

run_ends : (p : ℕ → Bool) (bs more : List ℕ) (c : ℕ) (cs : List ℕ) → behind p bs ≡ c ∷ cs → RunEnds p bs more
run_ends p [] more c cs h = absurd cc
run_ends p (b ∷ bs) more c cs h = by_test (p b) refl h (λ k. run_ends p bs more c cs k)
  where
    by_test : (t : Bool) → p b ≡ t → choose t (λ _. behind p bs) (λ _. b ∷ bs) ≡ c ∷ cs → (behind p bs ≡ c ∷ cs → RunEnds p bs more) → RunEnds p (b ∷ bs) more
    by_test true e k again = let r = again k in record { run = rw e (ap (λ (l : List ℕ). b ∷ l) r.run); left = rw e r.left }
    by_test false e k again = record { run = rw e refl; left = rw e refl }

-- a token that goes by a run and what is left of it
run_keeps : (more : List ℕ) (p : ℕ → Bool) (bs : List ℕ) (scan : List ℕ → List ℕ → Scan) →
    ((text : List ℕ) (s : Scan) → Keeps more (scan text []) s) → ((text : List ℕ) (c : ℕ) (cs : List ℕ) → Keeps more (scan text (c ∷ cs)) (scan text (c ∷ (cs ++ more)))) →
    Keeps more (scan (front p bs) (behind p bs)) (scan (front p (bs ++ more)) (behind p (bs ++ more)))
run_keeps more p bs scan ends goes = by_left (behind p bs) refl
  where
    by_left : (left : List ℕ) → behind p bs ≡ left → Keeps more (scan (front p bs) (behind p bs)) (scan (front p (bs ++ more)) (behind p (bs ++ more)))
    by_left [] e = rw e (ends (front p bs) _)
    by_left (c ∷ cs) e = let r = run_ends p bs more c cs e in rw (r.run, r.left, e) (goes (front p bs) c cs)

word_keeps : (more : List ℕ) (b : ℕ) (bs : List ℕ) → Keeps more (word_scan (b ∷ front is_word_byte bs) (behind is_word_byte bs)) (word_scan (b ∷ front is_word_byte (bs ++ more)) (behind is_word_byte (bs ++ more)))
word_keeps more b bs = run_keeps more is_word_byte bs (λ text left. word_scan (b ∷ text) left) ends goes
  where
    ends : (text : List ℕ) (s : Scan) → Keeps more (word_scan (b ∷ text) []) s
    ends text s = search choose_ends

    goes : (text : List ℕ) (c : ℕ) (cs : List ℕ) → Keeps more (word_scan (b ∷ text) (c ∷ cs)) (word_scan (b ∷ text) (c ∷ (cs ++ more)))
    goes text c cs = search choose_keeps

base_keeps : (more : List ℕ) (width base : ℕ) (bytes : List ℕ) → Keeps more (behind_base width base bytes) (behind_base width base (bytes ++ more))
base_keeps more width base [] = tt
base_keeps more width base (d ∷ ds) =
    let inner = run_keeps more (in_literal base) ds scan ends goes in
    search choose_keeps
  where
    scan : List ℕ → List ℕ → Scan
    scan text left = literal_scan width (digits_value base (filter (λ b. not (b == 95)) (d ∷ text))) left

    ends : (text : List ℕ) (s : Scan) → Keeps more (scan text []) s
    ends text s = search choose_ends

    goes : (text : List ℕ) (c : ℕ) (cs : List ℕ) → Keeps more (scan text (c ∷ cs)) (scan text (c ∷ (cs ++ more)))
    goes text c cs = search choose_keeps

with_base_keeps : (more : List ℕ) (base : Option ℕ) (width : ℕ) (bytes : List ℕ) → Keeps more (with_base base width bytes) (with_base base width (bytes ++ more))
with_base_keeps more None width bytes = tt
with_base_keeps more (Some base) width bytes = base_keeps more width base bytes

quote_keeps : (more : List ℕ) (width : ℕ) (bytes : List ℕ) → Keeps more (behind_quote width bytes) (behind_quote width (bytes ++ more))
quote_keeps more width [] = tt
quote_keeps more width (b ∷ bs) = with_base_keeps more (base_of b) width bs

number_keeps : (more digits : List ℕ) (c : ℕ) (cs : List ℕ) → Keeps more (number_scan digits (c ∷ cs)) (number_scan digits (c ∷ (cs ++ more)))
number_keeps more digits c cs = search choose_keeps

digits_keep : (more : List ℕ) (b : ℕ) (bs : List ℕ) → Keeps more (behind_digits (b ∷ front is_digit bs) (behind is_digit bs)) (behind_digits (b ∷ front is_digit (bs ++ more)) (behind is_digit (bs ++ more)))
digits_keep more b bs = run_keeps more is_digit bs (λ text left. behind_digits (b ∷ text) left) ends goes
  where
    ends : (text : List ℕ) (s : Scan) → Keeps more (behind_digits (b ∷ text) []) s
    ends text s = search choose_ends

    goes : (text : List ℕ) (c : ℕ) (cs : List ℕ) → Keeps more (behind_digits (b ∷ text) (c ∷ cs)) (behind_digits (b ∷ text) (c ∷ (cs ++ more)))
    goes text c cs = search (choose_keeps, quote_keeps, number_keeps)

single_keeps : (more : List ℕ) (signs : List (ℕ × Sign)) (b : ℕ) (bytes : List ℕ) → Keeps more (single_sign signs b bytes) (single_sign signs b (bytes ++ more))
single_keeps more [] b bytes = tt
single_keeps more (s ∷ signs) b bytes =
    let again = single_keeps more signs b bytes in
    let here = some_keeps more (Mark s.1) bytes in
    search choose_keeps

unless_keeps : (more : List ℕ) (p : ℕ → Bool) (s : Sign) (bytes : List ℕ) → Keeps more (unless_next p s bytes) (unless_next p s (bytes ++ more))
unless_keeps more p s [] = tt
unless_keeps more p s (b ∷ bs) = search choose_keeps

equals_keeps : (more bytes : List ℕ) → Keeps more (behind_equals bytes) (behind_equals (bytes ++ more))
equals_keeps more [] = tt
equals_keeps more (b ∷ bs) =
    let equal = unless_keeps more (λ c. c == 61) sign.Equal bs in
    search choose_keeps

less_keeps : (more bytes : List ℕ) → Keeps more (behind_less bytes) (behind_less (bytes ++ more))
less_keeps more [] = tt
less_keeps more (b ∷ bs) =
    let equal = some_keeps more (Mark sign.LessEqual) bs in
    let less = unless_keeps more (λ c. c == 60) sign.Less (b ∷ bs) in
    search choose_keeps

sign_keeps : (more : List ℕ) (b : ℕ) (bytes : List ℕ) → Keeps more (sign_at b bytes) (sign_at b (bytes ++ more))
sign_keeps more b bytes = search (choose_keeps, equals_keeps, less_keeps, unless_keeps, single_keeps) depth 9

token_keeps : (more : List ℕ) (b : ℕ) (bs : List ℕ) → Keeps more (token_at b bs) (token_at b (bs ++ more))
unfolding token_at
token_keeps more b bs = search (choose_keeps, word_keeps, digits_keep, sign_keeps)

-- a token that leaves a byte is the same whatever stands behind
pub token_same : (more : List ℕ) (b : ℕ) (bs : List ℕ) (t : Lexeme) (r : ℕ) (rs : List ℕ) → token_at b bs ≡ Some (t, r ∷ rs) → token_at b (bs ++ more) ≡ Some (t, r ∷ (rs ++ more))
token_same more b bs t r rs h = subst (λ (s : Scan). Keeps more s (token_at b (bs ++ more))) h (token_keeps more b bs)
