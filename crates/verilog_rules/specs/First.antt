-- The first of a rule's refusals.
use Rattle.std.specs.Prelude.{◌≡◌, ◌⊎◌, List, [], ◌∷◌, ◌++◌, Option, Some, None}
use Rattle.verilog_mean.specs.declared.refusal.MeanRefusal.{MeanRefusal}
use Rattle.verilog_mean.specs.declared.refusal.MeanRefusal.TheVariants.{NoMemory}

abbrev pub first : {A : Type 0} → List A → Option A
first [] = None
first (x ∷ xs) = Some x

-- a refusal is the first of a list, or memory ran out
abbrev pub Refuses : MeanRefusal → List MeanRefusal → Type 0
Refuses r rs = (r ≡ NoMemory) ⊎ (first rs ≡ Some r)

-- the lists of each of some things, one after another
abbrev pub in_each : {A B : Type 0} → (A → List B) → List A → List B
in_each f [] = []
in_each f (x ∷ xs) = f x ++ in_each f xs
