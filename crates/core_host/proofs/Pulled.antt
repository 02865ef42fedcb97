use Rattle.std.proofs.Common.{◌≡◌, ◌≤◌, ℕ, List, [], ◌++◌, Option, Some, None, take, drop, length, ◌+◌, sym, ◌∙◌, ap, append_assoc, arith}
use Rattle.std.proofs.lemmas.Grind.{common_steps}
use Rattle.std.proofs.lemmas.List.{take-append-drop}
use Rattle.core_host.specs.Outside.{Files, Splits, Pulls, TakesAtMost}

-- one pull more, whose bytes found no place
pub TakesAtMost-pull : (files files' : Option Files) (left read left1 left2 : List ℕ) (count most : ℕ) (into into' : List ℕ) → files' ≡ files
    → Splits files left read left1 → Pulls files' left1 left2 count into into' → length read + count ≤ most → TakesAtMost most files left left2
TakesAtMost-pull None None left read left1 left2 count most into into' same split pull few = ([], grind arith, tt)
TakesAtMost-pull None (Some fs) left read left1 left2 count most into into' same split pull few = ([], grind arith, tt)
TakesAtMost-pull (Some fs) None left read left1 left2 count most into into' same split pull few = absurd (cc)
TakesAtMost-pull (Some fs) (Some gs) left read left1 left2 count most into into' same split pull few =
    let whole : take count left1 ++ drop count left1 ≡ left1 = take-append-drop count left1 in
    let told : left2 ≡ drop count left1 = pull.0 in
    let within : count ≤ length left1 = pull.2 in
    (read ++ take count left1, grind (arith, common_steps), split ∙ (ap (λ xs. read ++ xs) (sym whole) ∙ (sym (append_assoc read (take count left1) (drop count left1)) ∙ ap (λ xs. (read ++ take count left1) ++ xs) (sym told))))
