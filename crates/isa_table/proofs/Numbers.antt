-- The rows of the table stand by number.
use Rattle.std.proofs.Common.{◌≡◌, ℕ, zero, suc, ◌+◌, ◌<◌, Bool, true, false, eqb, ◌||◌, List, [], ◌∷◌, length, get_or, refl, sym, subst, ◌∙◌, arith}
use Rattle.std.proofs.lemmas.Bool.Decides.{nat_tests}
use Rattle.isa_table.specs.Rows.{TableRow, lui, table, is_in_table}
use Rattle.isa_table.proofs.Places.{same_at}

-- so many numbers, from k on
abbrev numbers : (k count : ℕ) → List ℕ
numbers k zero = []
numbers k (suc count) = k ∷ numbers (suc k) count

at_number : (k count i d : ℕ) → i < count → get_or (numbers k count) i d ≡ k + i
at_number k zero i d l = absurd (omega arith)
at_number k (suc count) zero d l = omega arith
at_number k (suc count) (suc i) d l = at_number (suc k) count i d (omega arith) ∙ omega arith

pub number_at : (i : ℕ) → i < 57 → (get_or table i lui).number ≡ i
number_at i l = sym (same_at (λ (n : ℕ). n) (λ r. r.number) (numbers 0 57) table 0 lui i refl l) ∙ at_number 0 57 i 0 l ∙ omega arith

-- a row of a list is in it by its number
held : (rows : List TableRow) (i : ℕ) → i < length rows → is_in_table rows (get_or rows i lui).number ≡ true
held [] i l = absurd (omega arith)
held (row ∷ rows) zero l = grind (arith, nat_tests)
held (row ∷ rows) (suc i) l = go (eqb row.number (get_or rows i lui).number) (held rows i (omega arith))
  where
    go : (b : Bool) → is_in_table rows (get_or rows i lui).number ≡ true → (b || is_in_table rows (get_or rows i lui).number) ≡ true
    go true h = refl
    go false h = h

-- each number below 57 has a row
pub in_table : (n : ℕ) → n < 57 → is_in_table table n ≡ true
in_table n l = subst (λ (m : ℕ). is_in_table table m ≡ true) (number_at n l) (held table n l)
