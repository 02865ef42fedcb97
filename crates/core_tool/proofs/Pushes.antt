-- Two pushes in a row.
use Rattle.std.proofs.Common.{◌+◌, ℕ, List, ◌++◌, Option, Result, Ok, Err, OnErr, take, length, sym, ◌∙◌, ap, arith, length-append}
use Rattle.std.proofs.lemmas.List.{take-append-le}
use Rattle.std.proofs.Math.Seq.{take-append-add}
use Rattle.core_host.specs.Outside.{Appends, IsCut, grown}
use Rattle.core_host.proofs.Ports.{grown-grown}

-- a fact that holds on an error, since it holds
pub on_err : {T E P : Type 0} (r : Result T E) → P → OnErr r P
on_err (Ok x) p = tt
on_err (Err e) p = p

-- two pushes in a row are one
pub Appends-append : (old mid new : Option (List ℕ)) (xs ys : List ℕ) → Appends old xs mid → Appends mid ys new → Appends old (xs ++ ys) new
Appends-append old mid new xs ys a b = b ∙ ap (λ m. grown m ys) a ∙ grown-grown old xs ys

-- what is cut off is cut off of more
pub IsCut-append : (old new : Option (List ℕ)) (xs ys : List ℕ) → IsCut old xs new → IsCut old (xs ++ ys) new
IsCut-append old new xs ys (k, less, part) =
    let long = length-append xs ys in
    (k, omega (arith, long, less), part ∙ ap (grown old) (sym (take-append-le k xs ys (omega (arith, less)))))

-- a push is cut off behind a whole one
pub IsCut-after : (old mid new : Option (List ℕ)) (xs ys : List ℕ) → Appends old xs mid → IsCut mid ys new → IsCut old (xs ++ ys) new
IsCut-after old mid new xs ys a (k, less, part) =
    let long = length-append xs ys in (
      length xs + k,
      omega (arith, long, less),
      part ∙ ap (λ m. grown m (take k ys)) a ∙ grown-grown old xs (take k ys) ∙ ap (grown old) (sym (take-append-add xs ys k)),
    )
