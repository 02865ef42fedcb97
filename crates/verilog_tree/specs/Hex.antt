-- A literal of 32 bits with eight hexadecimal digits, as 32'h0000001f.
use Rattle.std.specs.Prelude.{◌≡◌, ℕ, ◌^◌, ◌/◌, ◌%◌, false, List, [], ◌∷◌}
use Rattle.std.specs.Char.{digit_char}
use Rattle.verilog_tree.specs.Lex.{in_literal}

-- the digit of a number that counts 16 ^ k
abbrev pub hex_digit : ℕ → ℕ → ℕ
hex_digit v k = v / 16 ^ k % 16

-- Its eight digits as bytes, the highest first: 48 + d for a digit d below 10, and 87 + d for the others, which is "a" to "f".
abbrev pub hex8 : ℕ → List ℕ
hex8 v = digit_char (hex_digit v 7) ∷ digit_char (hex_digit v 6) ∷ digit_char (hex_digit v 5) ∷ digit_char (hex_digit v 4) ∷
    digit_char (hex_digit v 3) ∷ digit_char (hex_digit v 2) ∷ digit_char (hex_digit v 1) ∷ digit_char (hex_digit v 0) ∷ []

-- "32'h" and the digits
abbrev pub literal_bytes : ℕ → List ℕ
literal_bytes v = 51 ∷ 50 ∷ 39 ∷ 104 ∷ hex8 v

-- what cannot be a part of a literal before it: nothing, or a byte that is no hexadecimal digit and no "_"
abbrev pub EndsLiteral : List ℕ → Type 0
EndsLiteral [] = Unit {0}
EndsLiteral (b ∷ bs) = in_literal 16 b ≡ false
