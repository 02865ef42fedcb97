-- The place of the fault in a malformed token, as the number of its bytes before it.
use Rattle.std.specs.Prelude.{ℕ, suc, ◌+◌, ◌-◌, ◌*◌, ◌^◌, ◌==◌, nat_le, List, [], ◌∷◌, length, Option, Some, None}
use Rattle.std.specs.Char.{digit_value}
use Rattle.std.specs.Str.Parse.{digits_value}
use Rattle.verilog_tree.specs.Bytes.{choose, is_digit, is_letter, front, behind}
use Rattle.verilog_tree.specs.Lex.{base_of, in_base, is_size}

-- the value with one more byte of a literal's digits; none where the byte is no digit, or makes the value more than `most`
abbrev pub with_byte : (base most value : ℕ) → ℕ → Option ℕ
with_byte base most value b = choose (b == 95) (λ _. Some value) (λ _. choose (in_base base b)
    (λ _. choose (nat_le (value * base + digit_value b) most) (λ _. Some (value * base + digit_value b)) (λ _. None))
    (λ _. None))

abbrev pub one_on : Option ℕ → (ℕ → ℕ) → ℕ
one_on None more = 0
one_on (Some value) more = suc (more value)

-- digits behind a value: the fault is at the first byte that gives none
abbrev pub fault_in_digits : (base most value : ℕ) → List ℕ → ℕ
fault_in_digits base most value [] = 0
fault_in_digits base most value (b ∷ bs) = one_on (with_byte base most value b) (λ v. fault_in_digits base most v bs)

-- behind the base: a digit must stand first
abbrev pub fault_behind_base : (base most : ℕ) → List ℕ → ℕ
fault_behind_base base most [] = 0
fault_behind_base base most (b ∷ bs) = choose (in_base base b) (λ _. fault_in_digits base most 0 (b ∷ bs)) (λ _. 0)

-- in the place of a base
abbrev pub fault_with_base : Option ℕ → (most : ℕ) → List ℕ → ℕ
fault_with_base None most bytes = 0
fault_with_base (Some base) most bytes = suc (fault_behind_base base most bytes)

-- behind "'"
abbrev pub fault_behind_quote : (most : ℕ) → List ℕ → ℕ
fault_behind_quote most [] = 0
fault_behind_quote most (b ∷ bs) = fault_with_base (base_of b) most bs

-- A number or a literal, given its first digits and what is behind them. A size that begins with 0 or is outside 1 to 64 is a fault
-- at its first digit, however many it has. The tenth digit of a number is one.
abbrev pub fault_behind_digits : List ℕ → List ℕ → ℕ
fault_behind_digits digits [] = 9
fault_behind_digits digits (b ∷ bs) = choose (b == 39)
    (λ _. choose (is_size digits) (λ _. length digits + 1 + fault_behind_quote (2 ^ digits_value 10 digits - 1) bs) (λ _. 0))
    (λ _. 9)

abbrev pub fault_in_number : List ℕ → ℕ
fault_in_number [] = 0
fault_in_number (b ∷ bs) = fault_behind_digits (b ∷ front is_digit bs) (behind is_digit bs)

-- a malformed token that begins with a byte: a word's fault is its 256th byte, and a byte that begins no token is one itself
abbrev pub fault_at : ℕ → List ℕ → ℕ
fault_at b bs = choose (is_letter b) (λ _. 255) (λ _. choose (is_digit b) (λ _. fault_in_number (b ∷ bs)) (λ _. 0))

abbrev pub fault_of : List ℕ → ℕ
fault_of [] = 0
fault_of (b ∷ bs) = fault_at b bs
