use Rattle.std.proofs.Common.{◌≡◌, ℕ, List, ◌++◌, Option, Some, None, take, drop, length, ◌+◌, ◌-◌, refl, sym, ◌∙◌, ap, append_assoc}
use Rattle.std.proofs.Math.Seq.{take-add, take-length}
use Rattle.std.proofs.lemmas.List.{length-drop}
use Rattle.core_host.specs.Outside.{Appends, grown}

pub grown-grown : (old : Option (List ℕ)) (xs ys : List ℕ) → grown (grown old xs) ys ≡ grown old (xs ++ ys)
grown-grown None xs ys = refl
grown-grown (Some old) xs ys = ap Some (append_assoc old xs ys)

-- two appends are one
pub Appends-then : (old mid new : Option (List ℕ)) (done k : ℕ) (bytes : List ℕ) → Appends old (take done bytes) mid
    → Appends mid (take k (drop done bytes)) new → Appends old (take (done + k) bytes) new
Appends-then old mid new done k bytes a b =
    b ∙ ap (λ m. grown m (take k (drop done bytes))) a ∙ grown-grown old (take done bytes) (take k (drop done bytes)) ∙ ap (grown old) (sym (take-add done k bytes))

-- the rest of a slice, as its length and place name it
pub rest_of : (n : ℕ) (xs : List ℕ) → take (length xs - n) (drop n xs) ≡ drop n xs
rest_of n xs = ap (λ m. take m (drop n xs)) (sym (length-drop n xs)) ∙ take-length (drop n xs)

-- two appends are one, where the second is of the rest
pub Appends-rest : (old mid new : Option (List ℕ)) (done k : ℕ) (bytes : List ℕ) → Appends old (take done bytes) mid
    → Appends mid (take k (take (length bytes - done) (drop done bytes))) new → Appends old (take (done + k) bytes) new
Appends-rest old mid new done k bytes a b = Appends-then old mid new done k bytes a (b ∙ ap (λ xs. grown mid (take k xs)) (rest_of done bytes))
