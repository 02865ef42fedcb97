-- The last node of a path that is popped.
use Rattle.std.proofs.Common.{◌≡◌, ℕ, ◌+◌, ◌-◌, ◌<◌, List, [], ◌∷◌, ◌++◌, length, get_or, take, ap, sym, ◌∙◌, arith}
use Rattle.std.proofs.lemmas.List.{take_all, take_more}
use Rattle.topo_sort.specs.Moves.{IsTop}

pub popped : (path rest : List ℕ) (top n : ℕ) → rest ≡ take (n - 1) path → n ≡ length path → IsTop path top → path ≡ rest ++ (top ∷ [])
popped path rest top n e l t =
    let h : n - 1 < length path = (let s = t.some in omega (arith, s, l)) in
    let q : n ≡ n - 1 + 1 = (let s = t.some in omega (arith, s, l)) in
    let w : get_or path (n - 1) 0 ≡ top = ap (λ k. get_or path (k - 1) 0) l ∙ t.last in
    sym (take_all n path (omega (arith, l))) ∙ ap (λ k. take k path) q ∙ take_more path (n - 1) 0 h ∙ ap (λ y. take (n - 1) path ++ (y ∷ [])) w ∙ ap (λ r. r ++ (top ∷ [])) (sym e)
