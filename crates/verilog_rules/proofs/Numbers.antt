-- A name's number is that of the item which is its source.
use Rattle.std.proofs.Common.{◌≡◌, ℕ, suc, ◌+◌, ◌<◌, Bool, true, false, List, [], ◌∷◌, length, refl, ap, sym, ◌∙◌, subst, arith, Option, Some, None}
use Rattle.std.specs.Cmp.Lexicographic.{same_text}
use Rattle.core_words.specs.Names.{same_name}
use Rattle.verilog_mean.specs.Look.{pick, pick_if, look, or_else}
use Rattle.verilog_mean.specs.Plain.{Expr, Item, Port, Plain}
use Rattle.verilog_mean.specs.Plain.Item.{Wire, Reg, Array, Assign, Next, Reset, Write}
use Rattle.verilog_mean.specs.Plain.Port.{In, Out}
use Rattle.verilog_mean.specs.Cycle.{Source, item_source, port_source, source_of}
use Rattle.verilog_mean.specs.Cycle.Source.{Nowhere, Outside, Held, Driven}
use Rattle.verilog_mean.specs.Order.{drive_of, drive_at}
use Rattle.verilog_rules.specs.Sources.{with_giver, port_giver, giver_from, or_next, number_of, item_number}

-- what drives a name with a source
abbrev drive_with : List ℕ → Source → Option (List ℕ × Expr)
drive_with x Nowhere = None
drive_with x Outside = None
drive_with x Held = None
drive_with x (Driven e) = Some (x, e)

abbrev drive_given : Option (List ℕ × Source) → Option (List ℕ × Expr)
drive_given None = None
drive_given (Some p) = drive_with p.0 p.1

drive_is : (i : Item) → drive_of i ≡ drive_given (item_source i)
drive_is (Wire width name None) = refl
drive_is (Wire width name (Some e)) = refl
drive_is (Reg width name) = refl
drive_is (Array width name cells) = refl
drive_is (Assign target e) = refl
drive_is (Next target e) = refl
drive_is (Reset target start e) = refl
drive_is (Write enable target index e) = refl

-- ---- among the items

data Found (items : List Item) (x : List ℕ) (at : ℕ) : Type 0 where
  missing : look item_source items x ≡ None → giver_from at items x ≡ None → Found items x at
  found : (k : ℕ) (s : Source) → k < length items → look item_source items x ≡ Some s → giver_from at items x ≡ Some (Some (at + k)) → drive_at items k ≡ drive_with x s → Found items x at

skipped : (i : Item) (is : List Item) (x : List ℕ) (at : ℕ) → look item_source (i ∷ is) x ≡ look item_source is x → giver_from at (i ∷ is) x ≡ giver_from (suc at) is x
    → Found is x (suc at) → Found (i ∷ is) x at
skipped i is x at a b (missing p q) = missing (a ∙ p) (b ∙ q)
skipped i is x at a b (found k s l p q d) =
    let e : suc at + k ≡ at + suc k = omega arith in
    found (suc k) s (omega arith) (a ∙ p) (b ∙ q ∙ ap (λ n. Some (Some n)) e) d

found_in : (i : Item) (is : List Item) (x : List ℕ) (at : ℕ) (o : Option (List ℕ × Source)) → item_source i ≡ o → drive_of i ≡ drive_given o
    → Found is x (suc at) → Found (i ∷ is) x at
found_in i is x at None e d f =
    skipped i is x at (ap (λ o. pick o x (look item_source is x)) e) (ap (λ o. pick (with_giver o (Some at)) x (giver_from (suc at) is x)) e) f
found_in i is x at (Some p) e d f = by (same_name p.0 x) refl
  where
    a : look item_source (i ∷ is) x ≡ pick (Some p) x (look item_source is x)
    a = ap (λ o. pick o x (look item_source is x)) e

    b : giver_from at (i ∷ is) x ≡ pick (with_giver (Some p) (Some at)) x (giver_from (suc at) is x)
    b = ap (λ o. pick (with_giver o (Some at)) x (giver_from (suc at) is x)) e

    by : (t : Bool) → same_name p.0 x ≡ t → Found (i ∷ is) x at
    by false h = skipped i is x at (a ∙ ap (λ t. pick_if t p.1 (look item_source is x)) h) (b ∙ ap (λ t. pick_if t (Some at) (giver_from (suc at) is x)) h) f
    by true h =
        let z : at ≡ at + 0 = omega arith in
        found 0 p.1 (omega arith) (a ∙ ap (λ t. pick_if t p.1 (look item_source is x)) h)
        (b ∙ ap (λ t. pick_if t (Some at) (giver_from (suc at) is x)) h ∙ ap (λ n. Some (Some n)) z) (d ∙ ap (λ n. drive_with n p.1) (same_text p.0 x (sym h)))

find : (items : List Item) (x : List ℕ) (at : ℕ) → Found items x at
find [] x at = missing refl refl
find (i ∷ is) x at = found_in i is x at (item_source i) refl (drive_is i) (find is x (suc at))

-- ---- among the ports

data Port_found (ports : List Port) (x : List ℕ) : Type 0 where
  no_input : look port_source ports x ≡ None → look port_giver ports x ≡ None → Port_found ports x
  input : look port_source ports x ≡ Some Outside → look port_giver ports x ≡ Some None → Port_found ports x

find_port : (ports : List Port) (x : List ℕ) → Port_found ports x
find_port [] x = no_input refl refl
find_port (Out width name ∷ ps) x = by (find_port ps x)
  where
    by : Port_found ps x → Port_found (Out width name ∷ ps) x
    by (no_input a b) = no_input a b
    by (input a b) = input a b
find_port (In width name ∷ ps) x = by (same_name name x) refl (find_port ps x)
  where
    by : (t : Bool) → same_name name x ≡ t → Port_found ps x → Port_found (In width name ∷ ps) x
    by true h f = input (ap (λ t. pick_if t Outside (look port_source ps x)) h) (ap (λ t. pick_if t None (look port_giver ps x)) h)
    by false h (no_input a b) = no_input (ap (λ t. pick_if t Outside (look port_source ps x)) h ∙ a) (ap (λ t. pick_if t None (look port_giver ps x)) h ∙ b)
    by false h (input a b) = input (ap (λ t. pick_if t Outside (look port_source ps x)) h ∙ a) (ap (λ t. pick_if t None (look port_giver ps x)) h ∙ b)

-- ---- in the module

data Numbered (m : Plain) (x : List ℕ) : Type 0 where
  unnumbered : ((e : Expr) → source_of m x ≡ Driven e → ⊥) → item_number m x ≡ None → Numbered m x
  numbered : (k : ℕ) (s : Source) → k < length m.items → source_of m x ≡ s → item_number m x ≡ Some k → drive_at m.items k ≡ drive_with x s → Numbered m x

number_it : (m : Plain) (x : List ℕ) → Numbered m x
number_it m x = by (find_port m.ports x) (find m.items x 0)
  where
    by : Port_found m.ports x → Found m.items x 0 → Numbered m x
    by (input a b) f =
        let p : source_of m x ≡ Outside = ap (λ o. or_else o (or_else (look item_source m.items x) Nowhere)) a in
        unnumbered (λ e h. cc) (ap (λ o. number_of (or_next o (giver_from 0 m.items x))) b)
    by (no_input a b) (missing c d) =
        let p : source_of m x ≡ Nowhere = ap (λ o. or_else o (or_else (look item_source m.items x) Nowhere)) a ∙ ap (λ o. or_else o Nowhere) c in
        unnumbered (λ e h. cc) (ap (λ o. number_of (or_next o (giver_from 0 m.items x))) b ∙ ap number_of d)
    by (no_input a b) (found k s l c d e) =
        let z : 0 + k ≡ k = omega arith in
        numbered k s l (ap (λ o. or_else o (or_else (look item_source m.items x) Nowhere)) a ∙ ap (λ o. or_else o Nowhere) c)
        (ap (λ o. number_of (or_next o (giver_from 0 m.items x))) b ∙ ap number_of d ∙ ap Some z) e

-- a name that is driven has the number of the item that drives it
pub record IsDriver (m : Plain) (x : List ℕ) (e : Expr) (k : ℕ) : Type 0 where
  pub within : k < length m.items
  pub number : item_number m x ≡ Some k
  pub drive : drive_at m.items k ≡ Some (x, e)

pub driven : (m : Plain) (x : List ℕ) (e : Expr) → source_of m x ≡ Driven e → (k : ℕ) × IsDriver m x e k
driven m x e h = by (number_it m x)
  where
    by : Numbered m x → (k : ℕ) × IsDriver m x e k
    by (unnumbered none n) = absurd (none e h)
    by (numbered k s l p n d) = (k, record { within = l; number = n; drive = d ∙ ap (drive_with x) (sym p ∙ h) })

drives : (x : List ℕ) (s : Source) (d : List ℕ × Expr) → drive_with x s ≡ Some d → (d.0 ≡ x) × (s ≡ Driven d.1)
drives x Nowhere d h = cc
drives x Outside d h = cc
drives x Held d h = cc
drives x (Driven e) d h = let p : (x, e) ≡ d = cc in (ap (λ q. q.0) (sym p), ap (λ q. Driven q.1) p)

-- a name with a number of an item that drives something is driven by that item
pub number_within : (m : Plain) (x : List ℕ) (k : ℕ) → item_number m x ≡ Some k → k < length m.items
number_within m x k h = by (number_it m x)
  where
    by : Numbered m x → k < length m.items
    by (unnumbered none n) = absurd (let c : None ≡ Some k = sym n ∙ h in cc)
    by (numbered j s l p n d) = let e : j ≡ k = cc in subst (λ i. i < length m.items) e l

pub number_drives : (m : Plain) (x : List ℕ) (k : ℕ) (d : List ℕ × Expr) → item_number m x ≡ Some k → drive_at m.items k ≡ Some d → (d.0 ≡ x) × (source_of m x ≡ Driven d.1)
number_drives m x k d h g = by (number_it m x)
  where
    by : Numbered m x → (d.0 ≡ x) × (source_of m x ≡ Driven d.1)
    by (unnumbered none n) = absurd (let c : None ≡ Some k = sym n ∙ h in cc)
    by (numbered j s l p n q) =
        let e : j ≡ k = cc in
        let r = drives x s d (sym q ∙ ap (drive_at m.items) e ∙ g) in
        (r.0, p ∙ r.1)
