-- The runs of bytes in a token.
use Rattle.std.specs.Prelude.{◌≡◌, ℕ, Bool, true, not, ◌==◌, ◌≤◌, List, [], ◌∷◌, filter, None}
use Rattle.std.specs.Str.Parse.{digits_value_after}
use Rattle.verilog_tree.specs.Bytes.{is_word_byte, is_digit, front, behind}
use Rattle.verilog_tree.specs.Lex.{in_literal, word_scan, behind_digits, token_at, Scan}
use Rattle.verilog_read.specs.declared.lexer.Class.{Class}
use Rattle.verilog_read.specs.declared.lexer.Class.TheVariants.{Word, Digits, Literal}

-- whether a byte may stand in a run
abbrev pub passes_class : Class → ℕ → Bool
passes_class Word b = is_word_byte b
passes_class Digits b = is_digit b
passes_class (Literal base) b = in_literal base b

-- a base is at most 16
abbrev pub IsFine : Class → Type 0
IsFine (Literal base) = base ≤ 16
IsFine _ = Unit {0}

-- whether each byte passes
abbrev pub AllPass : (ℕ → Bool) → List ℕ → Type 0
AllPass p [] = Unit {0}
AllPass p (b ∷ bs) = (p b ≡ true) × AllPass p bs

-- the word that a text begins with
abbrev pub word_of : List ℕ → Scan
word_of [] = None
word_of (b ∷ bs) = word_scan (b ∷ front is_word_byte bs) (behind is_word_byte bs)

-- the number or literal that a text begins with
abbrev pub number_of : List ℕ → Scan
number_of [] = None
number_of (b ∷ bs) = behind_digits (b ∷ front is_digit bs) (behind is_digit bs)

-- the token that a text begins with
abbrev pub token_of : List ℕ → Scan
token_of [] = None
token_of (b ∷ bs) = token_at b bs

-- the value of the digits behind a value, without each "_"
abbrev pub value_after : ℕ → ℕ → List ℕ → ℕ
value_after base n ds = digits_value_after base n (filter (λ b. not (b == 95)) ds)
