-- Two lists whose items agree, agree at each place.
use Rattle.std.proofs.Common.{Bor, ◌≡◌, ℕ, zero, suc, ◌<◌, List, [], ◌∷◌, length, get_or, map, arith}
use Rattle.isa_table.specs.declared.row.Group.{Group}
use Rattle.isa_table.specs.declared.row.Uses.{Uses}

module _ {A B C : Type 0} (f : A → C) (g : B → C) where
  first_same : (x : A) (y : B) (xs : List A) (ys : List B) → map f (x ∷ xs) ≡ map g (y ∷ ys) → f x ≡ g y
  first_same x y xs ys e = cc

  rest_same : (x : A) (y : B) (xs : List A) (ys : List B) → map f (x ∷ xs) ≡ map g (y ∷ ys) → map f xs ≡ map g ys
  rest_same x y xs ys e = cc

  pub same_at : (xs : List A) (ys : List B) (d : A) (k : B) (i : ℕ) → map f xs ≡ map g ys → i < length ys → f (get_or xs i d) ≡ g (get_or ys i k)
  same_at xs [] d k i e l = absurd (omega arith)
  same_at [] (y ∷ ys) d k i e l = absurd cc
  same_at (x ∷ xs) (y ∷ ys) d k zero e l = first_same x y xs ys e
  same_at (x ∷ xs) (y ∷ ys) d k (suc i) e l = same_at xs ys d k i (rest_same x y xs ys e) (omega arith)

-- an entry of the list in the code: name, mask, value, group, uses
abbrev pub Entry : Type 0
Entry = Bor (List ℕ) × ℕ × ℕ × Group × Uses
