-- No word is of two rows: where it is of both, their values agree on the bits that both masks have, and a test
-- that computes finds two rows of the table that do.
use Rattle.std.proofs.Common.{◌≡◌, ℕ, zero, suc, ◌<◌, ◌≤◌, Bool, true, false, not, eqb, List, [], ◌∷◌, ◌&&◌, length, get_or, bit_and, refl, ap, sym, ◌∙◌, arith}
use Rattle.std.proofs.lemmas.Bool.Decides.{nat_tests}
use Rattle.std.proofs.lemmas.Nat.{and_assoc, and_comm}
use Rattle.isa_table.specs.Rows.{TableRow, lui, table, meets}

-- the values of two rows differ in a bit that both masks have; each test here computes
abbrev pub is_apart : TableRow → TableRow → Bool
is_apart r s = not (eqb (bit_and r.value s.mask) (bit_and s.value r.mask))

abbrev pub is_apart_from_all : TableRow → List TableRow → Bool
is_apart_from_all r [] = true
is_apart_from_all r (s ∷ rest) = is_apart r s && is_apart_from_all r rest

abbrev pub are_apart : List TableRow → Bool
are_apart [] = true
are_apart (r ∷ rest) = is_apart_from_all r rest && are_apart rest

table_is_apart : are_apart table ≡ true
table_is_apart = refl

both_left : (a b : Bool) → (a && b) ≡ true → a ≡ true
both_left true b h = refl
both_left false b h = h

both_right : (a b : Bool) → (a && b) ≡ true → b ≡ true
both_right true b h = h
both_right false b h = absurd (grind arith)

not_both : (a b : ℕ) → not (eqb a b) ≡ true → a ≡ b → ⊥
not_both a b h e = go (eqb a b) refl h
  where
    go : (t : Bool) → eqb a b ≡ t → not t ≡ true → ⊥
    go true d k = absurd (grind arith)
    go false d k = absurd (grind (arith, nat_tests))

module _ (word : ℕ) where
  shared : (r s : TableRow) → bit_and word r.mask ≡ r.value → bit_and r.value s.mask ≡ bit_and word (bit_and r.mask s.mask)
  shared r s h = ap (λ v. bit_and v s.mask) (sym h) ∙ and_assoc s.mask word r.mask

  clash : (r s : TableRow) → is_apart r s ≡ true → meets word r ≡ true → meets word s ≡ true → ⊥
  clash r s h a b =
      let p : bit_and word r.mask ≡ r.value = grind (arith, nat_tests) in
      let q : bit_and word s.mask ≡ s.value = grind (arith, nat_tests) in
      not_both _ _ h (shared r s p ∙ ap (bit_and word) (and_comm r.mask s.mask) ∙ sym (shared s r q))

  no_later : (r : TableRow) (rows : List TableRow) → is_apart_from_all r rows ≡ true → meets word r ≡ true → (j : ℕ) → j < length rows
      → meets word (get_or rows j lui) ≡ true → ⊥
  no_later r [] h a j l b = absurd (omega arith)
  no_later r (s ∷ rest) h a zero l b = clash r s (both_left _ _ h) a b
  no_later r (s ∷ rest) h a (suc j) l b = no_later r rest (both_right _ _ h) a j (omega arith) b

  one_place : (rows : List TableRow) → are_apart rows ≡ true → (i j : ℕ) → i < length rows → j < length rows
      → meets word (get_or rows i lui) ≡ true → meets word (get_or rows j lui) ≡ true → i ≡ j
  one_place [] h i j l k a b = absurd (omega arith)
  one_place (r ∷ rest) h zero zero l k a b = refl
  one_place (r ∷ rest) h zero (suc j) l k a b = absurd (no_later r rest (both_left _ _ h) a j (omega arith) b)
  one_place (r ∷ rest) h (suc i) zero l k a b = absurd (no_later r rest (both_left _ _ h) b i (omega arith) a)
  one_place (r ∷ rest) h (suc i) (suc j) l k a b = ap suc (one_place rest (both_right _ _ h) i j (omega arith) (omega arith) a b)

pub one_row : (word i j : ℕ) → i < length table → j < length table → meets word (get_or table i lui) ≡ true
    → meets word (get_or table j lui) ≡ true → i ≡ j
one_row word = one_place word table table_is_apart

-- the place of the first row of a word among rows; their number where there is none
abbrev pub first_row : (word : ℕ) → List TableRow → ℕ
first_row word [] = 0
first_row word (r ∷ rest) = elim (meets word r) [ true ↦ 0 | false ↦ suc (first_row word rest) ]

module _ (word : ℕ) where
  pub first_le : (rows : List TableRow) → first_row word rows ≤ length rows
  first_le [] = omega arith
  first_le (r ∷ rest) = step (first_row word rest) (first_le rest) (meets word r)
    where
      step : (n : ℕ) → n ≤ length rest → (b : Bool) → (elim b [ true ↦ 0 | false ↦ suc n ]) ≤ suc (length rest)
      step n h true = omega arith
      step n h false = omega arith

  false_if : (b : Bool) → (b ≡ true → ⊥) → b ≡ false
  false_if true h = absurd (h refl)
  false_if false h = refl

  meets_step : (r : TableRow) (rest : List TableRow) → ((k : ℕ) → meets word r ≡ true → k < length rest → meets word (get_or rest k lui) ≡ true → ⊥)
      → ((k : ℕ) → k < length rest → meets word (get_or rest k lui) ≡ eqb k (first_row word rest)) → (b : Bool) → meets word r ≡ b
      → (k : ℕ) → k < suc (length rest)
      → meets word (get_or (r ∷ rest) k lui) ≡ eqb k (elim b [ true ↦ 0 | false ↦ suc (first_row word rest) ])
  meets_step r rest none later true e zero l = e
  meets_step r rest none later true e (suc k) l = false_if _ (none k e (omega arith)) ∙ grind (arith, nat_tests)
  meets_step r rest none later false e zero l = e ∙ grind (arith, nat_tests)
  meets_step r rest none later false e (suc k) l = later k (omega arith) ∙ grind (arith, nat_tests)

  -- among rows that are apart a word is of the row at that place, and of no other
  pub meets_first : (rows : List TableRow) → are_apart rows ≡ true → (k : ℕ) → k < length rows
      → meets word (get_or rows k lui) ≡ eqb k (first_row word rows)
  meets_first [] h k l = absurd (omega arith)
  meets_first (r ∷ rest) h k l =
      meets_step r rest (λ j e. no_later word r rest (both_left _ _ h) e j) (meets_first rest (both_right _ _ h)) (meets word r) refl k l
