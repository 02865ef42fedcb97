-- Looking up a name in a list of things that give names something.
use Rattle.std.specs.Prelude.{ℕ, Bool, true, false, List, [], ◌∷◌, Option, Some, None}
use Rattle.core_words.specs.Names.{same_name}

abbrev pub pick_if : {B : Type 0} → Bool → B → Option B → Option B
pick_if true b rest = Some b
pick_if false b rest = rest

abbrev pub pick : {B : Type 0} → Option (List ℕ × B) → List ℕ → Option B → Option B
pick None x rest = rest
pick (Some p) x rest = pick_if (same_name p.0 x) p.1 rest

-- what the first thing that gives the name x something gives it
abbrev pub look : {A : Type 0} {B : Type 0} → (A → Option (List ℕ × B)) → List A → List ℕ → Option B
look gives [] x = None
look gives (a ∷ rest) x = pick (gives a) x (look gives rest x)

abbrev pub or_else : {B : Type 0} → Option B → B → B
or_else None b = b
or_else (Some a) b = a

-- a thing before a list, where there is one
abbrev pub put : {A : Type 0} → Option A → List A → List A
put None rest = rest
put (Some a) rest = a ∷ rest

abbrev pub put_if : {A : Type 0} → Bool → A → List A → List A
put_if true a rest = a ∷ rest
put_if false a rest = rest
