-- What an answer is that cannot be none.
use Rattle.std.proofs.Common.{◌≡◌, Option, None, Some, refl, subst}
use Rattle.std.specs.Option.{IsSome, MatchOption}
use Rattle.plug_kit.proofs.Rows.{some_eq}

pub some_if : {A : Type 0} (o : Option A) (P : Type 0) (Q : A → Type 0) → MatchOption o P Q → (P → ⊥) → IsSome o
some_if None P Q m absent = absurd (absent m)
some_if (Some x) P Q m absent = refl

pub at_some : {A : Type 0} (o : Option A) (x : A) (P : Type 0) (Q : A → Type 0) → MatchOption o P Q → o ≡ Some x → Q x
at_some None x P Q m e = absurd (let n : ◌≡◌ {A = Option _} None (Some x) = e in cc)
at_some (Some y) x P Q m e = subst Q (some_eq e) m
