-- Looking up names in spread lists.
use Rattle.std.proofs.Common.{◌≡◌, ℕ, zero, suc, ◌+◌, ◌<◌, ◌≤◌, Bool, true, false, eqb, List, [], ◌∷◌, Option, Some, None, refl, ap, ◌∙◌, arith}
use Rattle.std.proofs.lemmas.Bool.Decides.{nat_tests}
use Rattle.core_words.specs.Names.{same_name}
use Rattle.verilog_mean.specs.Look.{pick, pick_if, look, put}
use Rattle.verilog_mean.specs.Plain.{Item}
use Rattle.verilog_netlist.specs.Netlist.{Line}
use Rattle.verilog_netlist.specs.Meaning.{line_item, lines_items}
use Rattle.module_netlist.specs.Lines.{spread}

-- what a thing gives, where there is one
abbrev pub given : {A : Type 0} {B : Type 0} → (A → Option (List ℕ × B)) → Option A → Option (List ℕ × B)
given g None = None
given g (Some a) = g a

-- what is given is given to another name
abbrev pub Misses : {B : Type 0} → Option (List ℕ × B) → List ℕ → Type 0
Misses None x = Unit {0}
Misses (Some p) x = same_name p.0 x ≡ false

-- b is given to the name x
abbrev pub Gives : {B : Type 0} → Option (List ℕ × B) → List ℕ → B → Type 0
Gives None x b = ⊥
Gives (Some p) x b = (same_name p.0 x ≡ true) × (p.1 ≡ b)

pick_miss : {B : Type 0} (o : Option (List ℕ × B)) (x : List ℕ) (rest : Option B) → Misses o x → pick o x rest ≡ rest
pick_miss None x rest h = refl
pick_miss (Some p) x rest h = ap (λ v. pick_if v p.1 rest) h

pick_hit : {B : Type 0} (o : Option (List ℕ × B)) (x : List ℕ) (rest : Option B) (b : B) → Gives o x b → pick o x rest ≡ Some b
pick_hit None x rest b h = absurd h
pick_hit (Some p) x rest b h = ap (λ v. pick_if v p.1 rest) (h.0) ∙ ap (λ v. Some v) (h.1)

pub look_put : {A : Type 0} {B : Type 0} (g : A → Option (List ℕ × B)) (o : Option A) (rest : List A) (x : List ℕ) → look g (put o rest) x ≡ pick (given g o) x (look g rest x)
look_put g None rest x = refl
look_put g (Some a) rest x = refl

-- looking among the items of lines is looking among the lines
pub look_lines : {B : Type 0} (g : Item → Option (List ℕ × B)) (ls : List Line) (x : List ℕ) → look g (lines_items ls) x ≡ look (λ l. g (line_item l)) ls x
look_lines g [] x = refl
look_lines g (l ∷ ls) x = ap (λ o. pick (g (line_item l)) x o) (look_lines g ls x)

module _ {A : Type 0} {B : Type 0} (g : A → Option (List ℕ × B)) (f : ℕ → Option A) (rest : List A) (x : List ℕ) where
  pub skip_from : (n k : ℕ) → ((i : ℕ) → k ≤ i → i < k + n → Misses (given g (f i)) x) → look g (spread f k n rest) x ≡ look g rest x
  skip_from zero k all = refl
  skip_from (suc n) k all =
      look_put g (f k) (spread f (suc k) n rest) x
      ∙ pick_miss (given g (f k)) x (look g (spread f (suc k) n rest) x) (all k (omega arith) (omega arith))
      ∙ skip_from n (suc k) (λ i a b. all i (omega arith) (omega arith))

  hit_case : (k i : ℕ) (b : B) (r : Option B) → k ≤ i → Gives (given g (f i)) x b → (eqb k i ≡ false → Misses (given g (f k)) x) → (suc k ≤ i → r ≡ Some b)
      → (t : Bool) → eqb k i ≡ t → pick (given g (f k)) x r ≡ Some b
  hit_case k i b r low here others later true e =
      let p : k ≡ i = grind (arith, nat_tests) in
      ap (λ v. pick (given g (f v)) x r) p ∙ pick_hit (given g (f i)) x r b here
  hit_case k i b r low here others later false e =
      pick_miss (given g (f k)) x r (others e) ∙ later (grind (arith, nat_tests))

  hit_from : (n k i : ℕ) (b : B) → k ≤ i → i < k + n → Gives (given g (f i)) x b → ((j : ℕ) → k ≤ j → j < k + n → eqb j i ≡ false → Misses (given g (f j)) x)
      → look g (spread f k n rest) x ≡ Some b
  hit_from zero k i b low high here others = absurd (omega arith)
  hit_from (suc n) k i b low high here others =
      look_put g (f k) (spread f (suc k) n rest) x
      ∙ hit_case k i b (look g (spread f (suc k) n rest) x) low here (others k (omega arith) (omega arith))
      (λ l. hit_from n (suc k) i b l (omega arith) here (λ j a c. others j (omega arith) (omega arith)))
      (eqb k i) refl

  -- none of the spread things gives the name anything
  pub skip : (n : ℕ) → ((i : ℕ) → i < n → Misses (given g (f i)) x) → look g (spread f 0 n rest) x ≡ look g rest x
  skip n all = skip_from n 0 (λ i a b. all i (omega arith))

  -- one of them gives it something
  pub hit : (n i : ℕ) (b : B) → i < n → Gives (given g (f i)) x b → ((j : ℕ) → j < n → eqb j i ≡ false → Misses (given g (f j)) x) → look g (spread f 0 n rest) x ≡ Some b
  hit n i b high here others = hit_from n 0 i b (omega arith) (omega arith) here (λ j a c. others j (omega arith))
