-- A list with a first element is that element and the others.
use Rattle.std.proofs.Common.{◌≡◌, ◌-◌, ◌≤◌, List, [], ◌∷◌, length, get_or, take, drop, ap, sym, ◌∙◌, arith}
use Rattle.std.proofs.lemmas.List.{take_rest}

pub split_first : {A : Type 0} (xs : List A) (x : A) → 1 ≤ length xs → x ≡ get_or xs 0 x → xs ≡ x ∷ take (length xs - 1) (drop 1 xs)
split_first [] x l h = absurd (omega arith)
split_first (y ∷ ys) x l h = ap (λ z. z ∷ ys) (sym h) ∙ ap (λ zs. x ∷ zs) (sym (take_rest (y ∷ ys) 1))
