-- The tokens of a text. Each is as long as possible.
--
-- word    = ( letter | "_" ) { letter | "_" | digit | "$" }        at most 255 bytes
-- number  = digit { digit }                                        at most 9 digits, no "'" behind it
-- literal = size "'" base digit { digit | "_" }                    the digits are those of the base, in either case
-- size    = 1 to 64 in decimal, with no leading zero
-- base    = "b" | "o" | "d" | "h", in either case                  the value is below 2 to the power of the size
-- sign    = ( ) [ ] { } , ; : ? = <= < == + - & | ^ ~ @
--
-- The longer signs of Verilog that begin as these, << <<< === && || ~& ~| ~^ ^~, are taken whole too, and are no tokens here.
-- A malformed token, as a number of ten digits, a word of 256 bytes or 8'h1ff, is no token: it has no other reading as shorter ones.
use Rattle.std.specs.Prelude.{◌≡◌, ℕ, ◌+◌, ◌^◌, Bool, not, ◌&&◌, ◌||◌, ◌==◌, nat_le, nat_lt, List, [], ◌∷◌, length, filter, Option, Some, None}
use Rattle.std.specs.Char.{digit_value}
use Rattle.std.specs.Str.Parse.{digits_value}
use Rattle.verilog_tree.specs.Signs.{Sign}
use Rattle.verilog_tree.specs.Signs as sign
use Rattle.verilog_tree.specs.Lexemes.{Lexeme, Word, Number, Sized, Mark, Placed}
use Rattle.verilog_tree.specs.Bytes.{choose, is_digit, is_letter, is_word_byte, front, behind, begins}
use Rattle.verilog_tree.specs.Blanks.{Between, skipped}

-- a token and what is behind it; none where no token stands
abbrev pub Scan : Type 0
Scan = Option (Lexeme × List ℕ)

-- ---- words

-- a word, given its bytes and what is behind them
abbrev pub word_scan : List ℕ → List ℕ → Scan
word_scan text rest = choose (nat_le (length text) 255) (λ _. Some (Word text, rest)) (λ _. None)

-- ---- literals, from their end on

-- the base that a letter names
abbrev pub base_of : ℕ → Option ℕ
base_of b = choose (b == 98 || b == 66) (λ _. Some 2) (λ _. choose (b == 111 || b == 79) (λ _. Some 8) (λ _. choose (b == 100 || b == 68) (λ _. Some 10) (λ _. choose (b == 104 || b == 72) (λ _. Some 16) (λ _. None))))

-- a digit of a base
abbrev pub in_base : ℕ → ℕ → Bool
in_base base b = nat_lt (digit_value b) base

-- or "_", which may stand behind the first digit
abbrev pub in_literal : ℕ → ℕ → Bool
in_literal base b = in_base base b || b == 95

-- a literal of a size and a value, if the value fits
abbrev pub literal_scan : ℕ → ℕ → List ℕ → Scan
literal_scan width value rest = choose (nat_lt value (2 ^ width)) (λ _. Some (Sized width value, rest)) (λ _. None)

-- behind the base: a digit, and the longest run behind it
abbrev pub behind_base : ℕ → ℕ → List ℕ → Scan
behind_base width base [] = None
behind_base width base (d ∷ ds) = choose (in_base base d)
    (λ _. literal_scan width (digits_value base (filter (λ b. not (b == 95)) (d ∷ front (in_literal base) ds))) (behind (in_literal base) ds))
    (λ _. None)

-- behind a letter that names a base
abbrev pub with_base : Option ℕ → ℕ → List ℕ → Scan
with_base None width bytes = None
with_base (Some base) width bytes = behind_base width base bytes

-- behind "'"
abbrev pub behind_quote : ℕ → List ℕ → Scan
behind_quote width [] = None
behind_quote width (b ∷ bs) = with_base (base_of b) width bs

-- whether some digits are a size
abbrev pub is_size : List ℕ → Bool
is_size digits = not (begins 48 digits) && nat_le (digits_value 10 digits) 64

-- ---- numbers

-- a number, given its digits and what is behind them
abbrev pub number_scan : List ℕ → List ℕ → Scan
number_scan digits rest = choose (nat_le (length digits) 9) (λ _. Some (Number (digits_value 10 digits), rest)) (λ _. None)

-- behind a run of decimal digits
abbrev pub behind_digits : List ℕ → List ℕ → Scan
behind_digits digits [] = number_scan digits []
behind_digits digits (b ∷ bs) = choose (b == 39) (λ _. choose (is_size digits) (λ _. behind_quote (digits_value 10 digits) bs) (λ _. None)) (λ _. number_scan digits (b ∷ bs))

-- ---- signs

-- the signs of one byte that no longer sign begins with
abbrev pub single_signs : List (ℕ × Sign)
single_signs = (40, sign.Open) ∷ (41, sign.Close) ∷ (91, sign.OpenBracket) ∷ (93, sign.CloseBracket) ∷ (123, sign.OpenBrace) ∷ (125, sign.CloseBrace) ∷ (44, sign.Comma) ∷ (59, sign.Semicolon) ∷ (58, sign.Colon) ∷ (63, sign.Question) ∷ (64, sign.At) ∷ (43, sign.Plus) ∷ (45, sign.Minus) ∷ []

-- the sign of a list that is a byte
abbrev pub single_sign : List (ℕ × Sign) → ℕ → List ℕ → Scan
single_sign [] b rest = None
single_sign (s ∷ signs) b rest = choose (b == s.0) (λ _. Some (Mark s.1, rest)) (λ _. single_sign signs b rest)

-- a sign, unless the byte behind it makes it a longer one, which is no token
abbrev pub unless_next : (ℕ → Bool) → Sign → List ℕ → Scan
unless_next p s [] = Some (Mark s, [])
unless_next p s (b ∷ bs) = choose (p b) (λ _. None) (λ _. Some (Mark s, b ∷ bs))

-- "=" and "==", but no "==="
abbrev pub behind_equals : List ℕ → Scan
behind_equals [] = Some (Mark sign.Assign, [])
behind_equals (b ∷ bs) = choose (b == 61) (λ _. unless_next (λ c. c == 61) sign.Equal bs) (λ _. Some (Mark sign.Assign, b ∷ bs))

-- "<=" and "<", but no "<<"
abbrev pub behind_less : List ℕ → Scan
behind_less [] = Some (Mark sign.Less, [])
behind_less (b ∷ bs) = choose (b == 61) (λ _. Some (Mark sign.LessEqual, bs)) (λ _. unless_next (λ c. c == 60) sign.Less (b ∷ bs))

-- "&" but no "&&", "|" but no "||", "^" but no "^~", "~" but none of "~&", "~|", "~^"
abbrev pub sign_at : ℕ → List ℕ → Scan
sign_at b bs =
    choose (b == 61) (λ _. behind_equals bs) (λ _.
    choose (b == 60) (λ _. behind_less bs) (λ _.
    choose (b == 38) (λ _. unless_next (λ c. c == 38) sign.And bs) (λ _.
    choose (b == 124) (λ _. unless_next (λ c. c == 124) sign.Or bs) (λ _.
    choose (b == 94) (λ _. unless_next (λ c. c == 126) sign.Xor bs) (λ _.
    choose (b == 126) (λ _. unless_next (λ c. c == 38 || c == 124 || c == 94) sign.Not bs) (λ _.
    single_sign single_signs b bs))))))

-- ---- one token

-- the token that begins with a byte, with those behind it, and what it leaves
unfoldable pub token_at : ℕ → List ℕ → Scan
token_at b bs =
    choose (is_letter b) (λ _. word_scan (b ∷ front is_word_byte bs) (behind is_word_byte bs)) (λ _.
    choose (is_digit b) (λ _. behind_digits (b ∷ front is_digit bs) (behind is_digit bs)) (λ _.
    sign_at b bs))

-- ---- the text

-- The rest of a text of this size, these bytes, has these tokens: each stands behind spaces and comments, which also end the text.
-- The place of a token is the size of the text less what is left from it on.
abbrev pub HasTokens : ℕ → List ℕ → List Placed → Type 0
HasTokens size bytes [] = skipped Between bytes ≡ Some []
HasTokens size bytes (t ∷ ts) = (b : ℕ) × (bs rest : List ℕ) ×
    (skipped Between bytes ≡ Some (b ∷ bs)) × (t.at + length (b ∷ bs) ≡ size) × (token_at b bs ≡ Some (t.lexeme, rest)) × HasTokens size rest ts
