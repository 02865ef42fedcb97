-- The first of a list, and the rest, as a slice is taken apart.
use Rattle.std.proofs.Common.{◌≡◌, ◌∙◌, suc, ◌-◌, ◌≤◌, List, [], ◌∷◌, length, take, drop, slice_index_or, sym, ap, arith}
use Rattle.std.proofs.Math.Seq.{take-length}

abbrev pub rest_of : {A : Type 0} → List A → List A
rest_of xs = take (length xs - 1) (drop 1 xs)

pub split : {A : Type 0} (d : A) (xs : List A) → 1 ≤ length xs → xs ≡ slice_index_or xs 0 d ∷ rest_of xs
split d [] h = absurd (omega arith)
split d (x ∷ xs) h =
    let e : length xs ≡ suc (length xs) - 1 = omega arith in
    ap (λ ys. x ∷ ys) (sym (take-length xs) ∙ ap (λ n. take n xs) e)
