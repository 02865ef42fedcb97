-- A literal of 32 bits in hexadecimal is one token, whatever its value.
use Rattle.std.proofs.Common.{◌≡◌, ℕ, ◌^◌, ◌<◌, true, not, List, [], ◌∷◌, ◌++◌, Some, refl, arith, eqb}
use Rattle.std.specs.Prelude.{filter}
use Rattle.std.specs.Char.{digit_value, digit_char}
use Rattle.std.specs.Str.Parse.{digits_value, AllDigits}
use Rattle.std.proofs.lemmas.Bool.{lt-ltb}
use Rattle.std.proofs.lemmas.Bool.Decides.{nat_tests}
use Rattle.verilog_tree.specs.Lexemes.{Sized}
use Rattle.verilog_tree.specs.Bytes.{front, behind}
use Rattle.verilog_tree.specs.Lex.{in_base, in_literal, behind_base, token_at}
use Rattle.verilog_tree.specs.Hex.{hex_digit, hex8, EndsLiteral}

hex_tells : (b : ℕ) → digit_value b < 16 → (in_literal 16 b ≡ true) × (in_base 16 b ≡ true) × (not (eqb b 95) ≡ true)
hex_tells b h = grind (arith, nat_tests)

front_hex : (ds rest : List ℕ) → AllDigits 16 ds → EndsLiteral rest → front (in_literal 16) (ds ++ rest) ≡ ds
front_hex [] [] h e = refl
front_hex [] (b ∷ bs) h e = rw e refl
front_hex (d ∷ ds) rest h e = rw ((hex_tells d h.0).0, front_hex ds rest h.1 e) refl

behind_hex : (ds rest : List ℕ) → AllDigits 16 ds → EndsLiteral rest → behind (in_literal 16) (ds ++ rest) ≡ rest
behind_hex [] [] h e = refl
behind_hex [] (b ∷ bs) h e = rw e refl
behind_hex (d ∷ ds) rest h e = rw ((hex_tells d h.0).0, behind_hex ds rest h.1 e) refl

kept_hex : (ds : List ℕ) → AllDigits 16 ds → filter (λ b. not (eqb b 95)) ds ≡ ds
kept_hex [] h = refl
kept_hex (d ∷ ds) h = rw ((hex_tells d h.0).2, kept_hex ds h.1) refl

hex_read : (d : ℕ) (ds rest : List ℕ) (width value : ℕ) → AllDigits 16 (d ∷ ds) → digits_value 16 (d ∷ ds) ≡ value → value < 2 ^ width → EndsLiteral rest →
    behind_base width 16 (d ∷ (ds ++ rest)) ≡ Some (Sized width value, rest)
hex_read d ds rest width value h v lt e =
    rw ((hex_tells d h.0).1, front_hex ds rest h.1 e, behind_hex ds rest h.1 e, (hex_tells d h.0).2, kept_hex ds h.1, v, lt-ltb value (2 ^ width) lt) refl

digit_is : (d : ℕ) → d < 16 → digit_value (digit_char d) ≡ d
digit_is d h = grind (arith, nat_tests)

hex_small : (v k : ℕ) → hex_digit v k < 16
hex_small v k = omega arith

hex_is : (v k : ℕ) → digit_value (digit_char (hex_digit v k)) ≡ hex_digit v k
hex_is v k = digit_is (hex_digit v k) (hex_small v k)

hex8_digits : (v : ℕ) → AllDigits 16 (hex8 v)
hex8_digits v = (below v 7, (below v 6, (below v 5, (below v 4, (below v 3, (below v 2, (below v 1, (below v 0, tt))))))))
  where
    below : (v k : ℕ) → digit_value (digit_char (hex_digit v k)) < 16
    below v k = rw (hex_is v k) (hex_small v k)

hex8_value : (v : ℕ) → v < 2 ^ 32 → digits_value 16 (hex8 v) ≡ v
hex8_value v h = rw (hex_is v 7, hex_is v 6, hex_is v 5, hex_is v 4, hex_is v 3, hex_is v 2, hex_is v 1, hex_is v 0) (omega arith)

abbrev tail : List ℕ → List ℕ
tail [] = []
tail (b ∷ bs) = bs

pub literal_token_law : (v : ℕ) → v < 2 ^ 32 → (rest : List ℕ) → EndsLiteral rest → token_at 51 (50 ∷ 39 ∷ 104 ∷ (hex8 v ++ rest)) ≡ Some (Sized 32 v, rest)
unfolding token_at
literal_token_law v lt rest e = hex_read (digit_char (hex_digit v 7)) (tail (hex8 v)) rest 32 v (hex8_digits v) (hex8_value v lt) lt e
