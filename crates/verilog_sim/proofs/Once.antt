-- Where no name is given something twice, each thing that gives a name something is the one that is found.
use Rattle.std.proofs.Common.{◌≡◌, ℕ, Bool, true, false, ◌||◌, List, [], ◌∷◌, Option, Some, None, refl, ap, sym, ◌∙◌, subst, arith}
use Rattle.std.specs.Cmp.Lexicographic.{bytes_decides}
use Rattle.core_words.specs.Names.{same_name}
use Rattle.verilog_mean.specs.Look.{look, pick, pick_if}
use Rattle.verilog_mean.specs.Names.{is_among}

-- the name that a thing gives something is new
abbrev pub IsNew : (seen : List (List ℕ)) → Option (List ℕ) → Type 0
IsNew seen None = Unit {0}
IsNew seen (Some x) = is_among x seen ≡ false

abbrev pub after : (seen : List (List ℕ)) → Option (List ℕ) → List (List ℕ)
after seen None = seen
after seen (Some x) = x ∷ seen

-- no name comes twice, where each thing of a list may have one
abbrev pub AreNew : {A : Type 0} → (name : A → Option (List ℕ)) → (seen : List (List ℕ)) → List A → Type 0
AreNew name seen [] = Unit {0}
AreNew name seen (a ∷ rest) = IsNew seen (name a) × AreNew name (after seen (name a)) rest

-- what a thing gives, it gives to its own name
abbrev pub GivesOwn : {B : Type 0} → Option (List ℕ) → Option (List ℕ × B) → Type 0
GivesOwn name None = Unit {0}
GivesOwn name (Some p) = name ≡ Some p.0

-- what each thing gives is what is found among all
abbrev pub Finds : {B : Type 0} → (List ℕ → Option B) → Option (List ℕ × B) → Type 0
Finds found None = Unit {0}
Finds found (Some p) = found p.0 ≡ Some p.1

abbrev pub AllFind : {A : Type 0} {B : Type 0} → (List ℕ → Option B) → (A → Option (List ℕ × B)) → List A → Type 0
AllFind found gives [] = Unit {0}
AllFind found gives (a ∷ rest) = Finds found (gives a) × AllFind found gives rest

pub same_self : (x : List ℕ) → same_name x x ≡ true
same_self x = (bytes_decides x x).1 refl

pub or_first : (a b : Bool) → (a || b) ≡ false → a ≡ false
or_first true b h = cc
or_first false b h = refl

pub or_second : (a b : Bool) → (a || b) ≡ false → b ≡ false
or_second true b h = cc
or_second false b h = h

module _ {A : Type 0} {B : Type 0} (name : A → Option (List ℕ)) (gives : A → Option (List ℕ × B)) (own : (a : A) → GivesOwn (name a) (gives a)) (found : List ℕ → Option B) where
  here : (seen : List (List ℕ)) (n : Option (List ℕ)) (g : Option (List ℕ × B)) (rest : List ℕ → Option B) → GivesOwn n g → IsNew seen n
      → ((y : List ℕ) → is_among y seen ≡ false → found y ≡ pick g y (rest y)) → Finds found g
  here seen n None rest o i h = tt
  here seen n (Some p) rest o i h = h p.0 (subst (IsNew seen) o i) ∙ ap (λ b. pick_if b p.1 (rest p.0)) (same_self p.0)

  missed : (n : Option (List ℕ)) (g : Option (List ℕ × B)) (rest : Option B) (x y : List ℕ) → n ≡ Some x → GivesOwn n g → same_name x y ≡ false → pick g y rest ≡ rest
  missed n None rest x y e o s = refl
  missed n (Some p) rest x y e o s = ap (λ b. pick_if b p.1 rest) (ap (λ z. same_name z y) (the_same p.0 x (sym o ∙ e)) ∙ s)
    where
      the_same : (a b : List ℕ) → ◌≡◌ {A = Option (List ℕ)} (Some a) (Some b) → a ≡ b
      the_same a b h = cc

  nameless : (g : Option (List ℕ × B)) (rest : Option B) (y : List ℕ) → GivesOwn None g → pick g y rest ≡ rest
  nameless None rest y o = refl
  nameless (Some p) rest y o = absurd (grind arith)

  behind : (seen : List (List ℕ)) (n : Option (List ℕ)) (g : Option (List ℕ × B)) (rest : List ℕ → Option B) → GivesOwn n g
      → ((y : List ℕ) → is_among y seen ≡ false → found y ≡ pick g y (rest y)) → (y : List ℕ) → is_among y (after seen n) ≡ false → found y ≡ rest y
  behind seen None g rest o h y q = h y q ∙ nameless g (rest y) y o
  behind seen (Some x) g rest o h y q =
      h y (or_second (same_name x y) (is_among y seen) q) ∙ missed (Some x) g (rest y) x y refl o (or_first (same_name x y) (is_among y seen) q)

  pub find_all : (seen : List (List ℕ)) (rest : List A) → AreNew name seen rest → ((y : List ℕ) → is_among y seen ≡ false → found y ≡ look gives rest y) → AllFind found gives rest
  find_all seen [] n h = tt
  find_all seen (a ∷ rest) n h = (
    here seen (name a) (gives a) (look gives rest) (own a) n.0 h,
    find_all (after seen (name a)) rest n.1 (behind seen (name a) (gives a) (look gives rest) (own a) h),
  )

pub once_found : {A : Type 0} {B : Type 0} (name : A → Option (List ℕ)) (gives : A → Option (List ℕ × B)) → ((a : A) → GivesOwn (name a) (gives a)) → (all : List A)
    → AreNew name [] all → AllFind (look gives all) gives all
once_found name gives own all n = find_all name gives own (look gives all) [] all n (λ y q. refl)
