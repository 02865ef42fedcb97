-- What gives names their values, as the code notes it.
use Rattle.std.proofs.Common.{◌≡◌, ℕ, Bool, true, false, cond, List, refl, ap, sym, ◌∙◌, Option, Some, None}
use Rattle.std.specs.Cmp.Lexicographic.{same_text}
use Rattle.core_words.specs.Names.{same_name}
use Rattle.verilog_mean.specs.Look.{pick_if}
use Rattle.verilog_rules.specs.Sources.{or_next}

note : (b : Bool) (number : Option ℕ) (old new : Option (Option ℕ)) → (b ≡ true → old ≡ None) → new ≡ cond b (Some number) old → new ≡ or_next old (pick_if b number None)
note true number old new none e = e ∙ sym (ap (λ o. or_next o (Some number)) (none refl))
note false number None new none e = e
note false number (Some g) new none e = e

-- a name that nothing gave a value before
pub noted : (n name x : List ℕ) (number : Option ℕ) (old : List ℕ → Option (Option ℕ)) (new : Option (Option ℕ)) → n ≡ name → None ≡ old n
    → new ≡ cond (same_name n x) (Some number) (old x) → new ≡ or_next (old x) (pick_if (same_name name x) number None)
noted n name x number old new e none h =
    note (same_name name x) number (old x) new (λ t. sym (none ∙ ap old (e ∙ same_text name x (sym t)))) (h ∙ ap (λ m. cond (same_name m x) (Some number) (old x)) e)
