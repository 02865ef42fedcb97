-- A token is read from its spelling, where the byte behind it begins another token or is a space.
use Rattle.std.proofs.Common.{◌≡◌, ℕ, suc, ◌^◌, ◌<◌, ◌≤◌, Bool, true, false, List, [], ◌∷◌, ◌++◌, length, Some, refl, arith, append_assoc, eqb, get_or}
use Rattle.std.specs.Prelude.{not, filter, ◌||◌}
use Rattle.std.specs.Char.{digit_value}
use Rattle.std.specs.Str.Parse.{digits_value, IsNumeral, AllDigits}
use Rattle.std.specs.Fmt.{digits, decimal}
use Rattle.std.proofs.lemmas.Fmt.{decimal_is_IsNumeral, digits_is_IsNumeral, length-decimal-le, first_decimal}
use Rattle.std.proofs.lemmas.Bool.{le-leb, lt-ltb}
use Rattle.std.proofs.lemmas.Bool.Decides.{nat_tests}
use Rattle.std.proofs.Math.Pow.{pow_mono}
use Rattle.verilog_tree.specs.Signs.{Sign}
use Rattle.verilog_tree.specs.Signs as sign
use Rattle.verilog_tree.specs.Bytes.{front, behind, is_space, is_letter, is_digit, is_word_byte}
use Rattle.verilog_tree.specs.Lexemes.{Lexeme, Word, Number, Sized, Mark}
use Rattle.verilog_tree.specs.Lex.{token_at, in_base, in_literal, behind_base}
use Rattle.verilog_netlist.specs.Text.{sign_bytes, spelled}
use Rattle.verilog_netlist.specs.Writable.{AreWordBytes, IsWord}

-- ---- what stands behind a run

module _ (p : ℕ → Bool) where
  abbrev pub AllPass : List ℕ → Type 0
  AllPass [] = Unit {0}
  AllPass (b ∷ bs) = (p b ≡ true) × AllPass bs

  -- a text that does not begin with a byte that passes
  abbrev pub Stops : List ℕ → Type 0
  Stops [] = Unit {0}
  Stops (b ∷ bs) = p b ≡ false

  front-is : (xs rest : List ℕ) → AllPass xs → Stops rest → front p (xs ++ rest) ≡ xs
  front-is [] [] h e = refl
  front-is [] (b ∷ bs) h e = rw e refl
  front-is (x ∷ xs) rest h e = rw (h.0, front-is xs rest h.1 e) refl

  behind-is : (xs rest : List ℕ) → AllPass xs → Stops rest → behind p (xs ++ rest) ≡ rest
  behind-is [] [] h e = refl
  behind-is [] (b ∷ bs) h e = rw e refl
  behind-is (x ∷ xs) rest h e = rw (h.0, behind-is xs rest h.1 e) refl

-- ---- which byte would make a token longer, or another one

-- the second bytes of longer signs
abbrev pub is_second : ℕ → Bool
is_second b = eqb b 61 || eqb b 60 || eqb b 38 || eqb b 124 || eqb b 94 || eqb b 126

abbrev pub joins : Lexeme → ℕ → Bool
joins (Word w) b = is_word_byte b
joins (Number n) b = is_digit b || eqb b 39
joins (Sized width value) b = in_literal 16 b
joins (Mark s) b = is_second b

-- what can be printed
abbrev pub IsPrintable : Lexeme → Type 0
IsPrintable (Word w) = IsWord w × (length w ≤ 24)
IsPrintable (Number n) = n < 10 ^ 9
IsPrintable (Sized width value) = (1 ≤ width) × (width ≤ 64) × (value < 2 ^ width)
IsPrintable (Mark s) = Unit {0}

-- no token and no comment begins with such a byte
abbrev pub is_blank : ℕ → Bool
is_blank b = is_space b || eqb b 47

pub record Rereads (bytes : List ℕ) (t : Lexeme) : Type 0 where
  pub first : ℕ
  pub others : List ℕ
  pub parts : bytes ≡ first ∷ others
  pub begins : is_blank first ≡ false
  pub reads : (rest : List ℕ) → Stops (joins t) rest → token_at first (others ++ rest) ≡ Some (t, rest)

pub or_no : (a b : Bool) → (a || b) ≡ false → (a ≡ false) × (b ≡ false)
or_no true b h = absurd cc
or_no false b h = (refl, h)

-- ---- words

letter_begins : (b : ℕ) → is_letter b ≡ true → is_blank b ≡ false
letter_begins b h = grind (arith, nat_tests)

word_bytes_pass : (w : List ℕ) → AreWordBytes w → AllPass is_word_byte w
word_bytes_pass [] h = tt
word_bytes_pass (b ∷ bs) h = (h.0, word_bytes_pass bs h.1)

word_rereads : (w : List ℕ) → IsWord w → length w ≤ 24 → Rereads w (Word w)
unfolding token_at
word_rereads [] h l = absurd h
word_rereads (b ∷ bs) h l = record {
  first = b;
  others = bs;
  parts = refl;
  begins = letter_begins b h.0;
  reads = λ rest e. rw (h.0, front-is is_word_byte bs rest (word_bytes_pass bs h.1) e, behind-is is_word_byte bs rest (word_bytes_pass bs h.1) e, le-leb (suc (length bs)) 255 (omega arith)) refl;
}

-- ---- numbers

digit_tells : (b : ℕ) → digit_value b < 10 → (is_digit b ≡ true) × (is_letter b ≡ false) × (is_blank b ≡ false)
digit_tells b h = grind (arith, nat_tests)

digits_pass : (ds : List ℕ) → AllDigits 10 ds → AllPass is_digit ds
digits_pass [] h = tt
digits_pass (d ∷ ds) h = ((digit_tells d h.0).0, digits_pass ds h.1)

no_digit : (n : ℕ) (rest : List ℕ) → Stops (joins (Number n)) rest → Stops is_digit rest
no_digit n [] h = tt
no_digit n (b ∷ bs) h = (or_no (is_digit b) (eqb b 39) h).0

plain_rereads : (ds : List ℕ) (n : ℕ) → IsNumeral 10 ds → digits_value 10 ds ≡ n → length ds ≤ 9 → Rereads ds (Number n)
unfolding token_at
plain_rereads [] n h v l = absurd (omega (arith, h.0))
plain_rereads (d ∷ ds) n h v l = record { first = d; others = ds; parts = refl; begins = (digit_tells d h.1.0).2; reads = reads }
  where
    reads : (rest : List ℕ) → Stops (joins (Number n)) rest → token_at d (ds ++ rest) ≡ Some (Number n, rest)
    reads [] e = let t = digit_tells d h.1.0 in rw (t.1, t.0, front-is is_digit ds [] (digits_pass ds h.1.1) tt, behind-is is_digit ds [] (digits_pass ds h.1.1) tt, le-leb (suc (length ds)) 9 l, v) refl
    reads (b ∷ bs) e =
        let t = digit_tells d h.1.0 in
        let s = no_digit n (b ∷ bs) e in
        let q = (or_no (is_digit b) (eqb b 39) e).1 in
        rw (t.1, t.0, front-is is_digit ds (b ∷ bs) (digits_pass ds h.1.1) s, behind-is is_digit ds (b ∷ bs) (digits_pass ds h.1.1) s, q, le-leb (suc (length ds)) 9 l, v) refl

number_rereads : (n : ℕ) → n < 10 ^ 9 → Rereads (decimal n) (Number n)
number_rereads n h =
    let small : n < 2 ^ 64 = omega arith in
    let d = decimal_is_IsNumeral n small in
    plain_rereads (decimal n) n d.0 d.1 (length-decimal-le 9 n (omega arith) h small)

-- ---- literals

hex_tells : (b : ℕ) → digit_value b < 16 → (in_literal 16 b ≡ true) × (in_base 16 b ≡ true) × (not (eqb b 95) ≡ true)
hex_tells b h = grind (arith, nat_tests)

hex_pass : (ds : List ℕ) → AllDigits 16 ds → AllPass (in_literal 16) ds
hex_pass [] h = tt
hex_pass (d ∷ ds) h = ((hex_tells d h.0).0, hex_pass ds h.1)

hex_kept : (ds : List ℕ) → AllDigits 16 ds → filter (λ b. not (eqb b 95)) ds ≡ ds
hex_kept [] h = refl
hex_kept (d ∷ ds) h = rw ((hex_tells d h.0).2, hex_kept ds h.1) refl

hex_read : (ds : List ℕ) (width value : ℕ) (rest : List ℕ) → IsNumeral 16 ds → digits_value 16 ds ≡ value → value < 2 ^ width → Stops (in_literal 16) rest → behind_base width 16 (ds ++ rest) ≡ Some (Sized width value, rest)
hex_read [] width value rest h e lt s = absurd (omega (arith, h.0))
hex_read (d ∷ ds) width value rest h e lt s =
    rw ((hex_tells d h.1.0).1, front-is (in_literal 16) ds rest (hex_pass ds h.1.1) s, behind-is (in_literal 16) ds rest (hex_pass ds h.1.1) s, (hex_tells d h.1.0).2, hex_kept ds h.1.1, e, lt-ltb value (2 ^ width) lt) refl

sized_rereads : (ws vs : List ℕ) (width value : ℕ) → IsNumeral 10 ws → digits_value 10 ws ≡ width → 48 < get_or ws 0 0 → width ≤ 64 → IsNumeral 16 vs → digits_value 16 vs ≡ value → value < 2 ^ width →
    Rereads (ws ++ (39 ∷ 104 ∷ vs)) (Sized width value)
unfolding token_at
sized_rereads [] vs width value h e first le h' e' lt = absurd (omega (arith, h.0))
sized_rereads (d ∷ ds) vs width value h e first le h' e' lt =
    let t = digit_tells d h.1.0 in
    let nonzero : eqb d 48 ≡ false = grind (arith, nat_tests) in
    record {
      first = d;
      others = ds ++ (39 ∷ 104 ∷ vs);
      parts = refl;
      begins = t.2;
      reads = λ rest s. rw (t.1, t.0, append_assoc ds (39 ∷ 104 ∷ vs) rest, front-is is_digit ds (39 ∷ 104 ∷ (vs ++ rest)) (digits_pass ds h.1.1) refl, behind-is is_digit ds (39 ∷ 104 ∷ (vs ++ rest)) (digits_pass ds h.1.1) refl, nonzero, e, le-leb width 64 le)
          (hex_read vs width value rest h' e' lt s);
    }

literal_rereads : (width value : ℕ) → 1 ≤ width → width ≤ 64 → value < 2 ^ width → Rereads (decimal width ++ (39 ∷ 104 ∷ digits 16 false value)) (Sized width value)
literal_rereads width value l h lt =
    let small : width < 2 ^ 64 = omega arith in
    let d = decimal_is_IsNumeral width small in
    let x = digits_is_IsNumeral 16 false (omega arith) (omega arith) value (omega (arith, pow_mono {i = width} {j = 64} h)) in
    sized_rereads (decimal width) (digits 16 false value) width value d.0 d.1 (first_decimal width (omega arith) small) h x.0 x.1 lt

-- ---- signs

second_tells : (b : ℕ) → is_second b ≡ false → (eqb b 61 ≡ false) × (eqb b 60 ≡ false) × (eqb b 38 ≡ false) × (eqb b 124 ≡ false) × (eqb b 94 ≡ false) × (eqb b 126 ≡ false)
second_tells b h = grind (arith, nat_tests)

abbrev SignReads : Sign → ℕ → List ℕ → Type 0
SignReads s first others = (rest : List ℕ) → Stops is_second rest → token_at first (others ++ rest) ≡ Some (Mark s, rest)

assign_reads : SignReads sign.Assign 61 []
unfolding token_at
assign_reads [] e = refl
assign_reads (b ∷ bs) e = rw ((second_tells b e).0) refl

equal_reads : SignReads sign.Equal 61 (61 ∷ [])
unfolding token_at
equal_reads [] e = refl
equal_reads (b ∷ bs) e = rw ((second_tells b e).0) refl

less_reads : SignReads sign.Less 60 []
unfolding token_at
less_reads [] e = refl
less_reads (b ∷ bs) e = rw ((second_tells b e).0, (second_tells b e).1) refl

and_reads : SignReads sign.And 38 []
unfolding token_at
and_reads [] e = refl
and_reads (b ∷ bs) e = rw ((second_tells b e).2) refl

or_reads : SignReads sign.Or 124 []
unfolding token_at
or_reads [] e = refl
or_reads (b ∷ bs) e = rw ((second_tells b e).3) refl

xor_reads : SignReads sign.Xor 94 []
unfolding token_at
xor_reads [] e = refl
xor_reads (b ∷ bs) e = rw ((second_tells b e).5) refl

not_reads : SignReads sign.Not 126 []
unfolding token_at
not_reads [] e = refl
not_reads (b ∷ bs) e = rw ((second_tells b e).2, (second_tells b e).3, (second_tells b e).4) refl

sign_rereads : (s : Sign) → Rereads (sign_bytes s) (Mark s)
unfolding token_at
sign_rereads sign.Open = record { first = 40; others = []; parts = refl; begins = refl; reads = λ rest e. refl }
sign_rereads sign.Close = record { first = 41; others = []; parts = refl; begins = refl; reads = λ rest e. refl }
sign_rereads sign.OpenBracket = record { first = 91; others = []; parts = refl; begins = refl; reads = λ rest e. refl }
sign_rereads sign.CloseBracket = record { first = 93; others = []; parts = refl; begins = refl; reads = λ rest e. refl }
sign_rereads sign.OpenBrace = record { first = 123; others = []; parts = refl; begins = refl; reads = λ rest e. refl }
sign_rereads sign.CloseBrace = record { first = 125; others = []; parts = refl; begins = refl; reads = λ rest e. refl }
sign_rereads sign.Comma = record { first = 44; others = []; parts = refl; begins = refl; reads = λ rest e. refl }
sign_rereads sign.Semicolon = record { first = 59; others = []; parts = refl; begins = refl; reads = λ rest e. refl }
sign_rereads sign.Colon = record { first = 58; others = []; parts = refl; begins = refl; reads = λ rest e. refl }
sign_rereads sign.Question = record { first = 63; others = []; parts = refl; begins = refl; reads = λ rest e. refl }
sign_rereads sign.Assign = record { first = 61; others = []; parts = refl; begins = refl; reads = assign_reads }
sign_rereads sign.LessEqual = record { first = 60; others = 61 ∷ []; parts = refl; begins = refl; reads = λ rest e. refl }
sign_rereads sign.Less = record { first = 60; others = []; parts = refl; begins = refl; reads = less_reads }
sign_rereads sign.Equal = record { first = 61; others = 61 ∷ []; parts = refl; begins = refl; reads = equal_reads }
sign_rereads sign.Plus = record { first = 43; others = []; parts = refl; begins = refl; reads = λ rest e. refl }
sign_rereads sign.Minus = record { first = 45; others = []; parts = refl; begins = refl; reads = λ rest e. refl }
sign_rereads sign.And = record { first = 38; others = []; parts = refl; begins = refl; reads = and_reads }
sign_rereads sign.Or = record { first = 124; others = []; parts = refl; begins = refl; reads = or_reads }
sign_rereads sign.Xor = record { first = 94; others = []; parts = refl; begins = refl; reads = xor_reads }
sign_rereads sign.Not = record { first = 126; others = []; parts = refl; begins = refl; reads = not_reads }
sign_rereads sign.At = record { first = 64; others = []; parts = refl; begins = refl; reads = λ rest e. refl }

-- ---- any token

pub rereads : (t : Lexeme) → IsPrintable t → Rereads (spelled t) t
rereads (Word w) h = word_rereads w h.0 h.1
rereads (Number n) h = number_rereads n h
rereads (Sized width value) h = literal_rereads width value h.0 h.1 h.2
rereads (Mark s) h = sign_rereads s
