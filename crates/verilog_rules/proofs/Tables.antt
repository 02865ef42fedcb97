-- Declarations in a table.
use Rattle.std.proofs.Common.{◌≡◌, ℕ, Bool, true, false, List, [], ◌∷◌, ◌++◌, ◌∙◌, sym, refl, ap, map, nat_eq, cond, Option, Some, None, is_some, ◌||◌}
use Rattle.std.specs.Map.{lookup}
use Rattle.std.specs.Cmp.Lexicographic.{pointwise}
use Rattle.std.proofs.lemmas.Cmp.{nat_list_eq_equiv}
use Rattle.indexmap.specs.IndexMap.{insert_entry}
use Rattle.verilog_rules.specs.declared.declare.Declared.{Declared}
use Rattle.verilog_rules.specs.declared.declare.Shape.{Shape}
use Rattle.verilog_mean.specs.Look.{pick_if}
use Rattle.verilog_mean.specs.Declarations.{Declaration, declaration_of}
use Rattle.verilog_rules.specs.Collected.{declaration, entry_declaration, maybe_shape, shape_in, names_of}
use Rattle.verilog_mean.specs.Names.{is_among}
use denote.Bor.{Bor}

picked : (b : Bool) (d : Declared) (e : Declaration) (s : Shape) → maybe_shape (Some e) ≡ Some s → d.shape ≡ s → (o : Option Declared) (p : Option Declaration) → shape_in o ≡ maybe_shape p
    → shape_in (cond b (Some d) o) ≡ maybe_shape (pick_if b e p)
picked true d e s h k o p ih = ap Some k ∙ sym h
picked false d e s h k o p ih = ih

looked : (x : List ℕ) (es : List (Bor (List ℕ) × Declared)) → shape_in (lookup (λ k. pointwise nat_eq x k.now) es) ≡ maybe_shape (declaration_of (map entry_declaration es) x)
looked x [] = refl
looked x (e ∷ es) = ap (λ b. shape_in (cond b (Some e.1) (lookup (λ k. pointwise nat_eq x k.now) es))) (nat_list_eq_equiv.symm x e.0.now)
    ∙ picked (pointwise nat_eq e.0.now x) e.1 (entry_declaration e) e.1.shape refl refl _ _ (looked x es)

pub found : (n name : List ℕ) (es : List (Bor (List ℕ) × Declared)) (ds : List Declaration) → n ≡ name → map entry_declaration es ≡ ds
    → shape_in (lookup (λ k. pointwise nat_eq n k.now) es) ≡ maybe_shape (declaration_of ds name)
found n name es ds e v = looked n es ∙ (λ i. maybe_shape (declaration_of (v i) (e i)))

step : (b : Bool) (e n : Bor (List ℕ) × Declared) (es ys : List (Bor (List ℕ) × Declared)) (o : Option Declaration) (ds : List Declaration)
    → (maybe_shape o ≡ None → map entry_declaration ys ≡ ds) → maybe_shape (pick_if b (entry_declaration e) o) ≡ None
    → map entry_declaration (cond b (n ∷ es) (e ∷ ys)) ≡ entry_declaration e ∷ ds
step true e n es ys o ds ih h = cc
step false e n es ys o ds ih h = ap (λ t. entry_declaration e ∷ t) (ih h)

inserted : (k : Bor (List ℕ)) (v : Declared) (es : List (Bor (List ℕ) × Declared)) → maybe_shape (declaration_of (map entry_declaration es) k.now) ≡ None
    → map entry_declaration (insert_entry (λ a b. pointwise nat_eq a.now b.now) es k v) ≡ map entry_declaration es ++ (entry_declaration (k, v) ∷ [])
inserted k v [] h = refl
inserted k v (e ∷ es) h = step (pointwise nat_eq k.now e.0.now) e (e.0, v) es _ (declaration_of (map entry_declaration es) k.now) _ (inserted k v es)
    (ap (λ b. maybe_shape (pick_if b (entry_declaration e) (declaration_of (map entry_declaration es) k.now))) (nat_list_eq_equiv.symm k.now e.0.now) ∙ h)

some_picked : (b : Bool) (d : Declaration) (o : Option Declaration) → is_some (maybe_shape (pick_if b d o)) ≡ (b || is_some (maybe_shape o))
some_picked true d o = refl
some_picked false d o = refl

pub has : (ds : List Declaration) (x : List ℕ) → is_some (maybe_shape (declaration_of ds x)) ≡ is_among x (names_of ds)
has [] x = refl
has (d ∷ ds) x = some_picked (pointwise nat_eq d.name.text x) d _ ∙ ap (λ b. pointwise nat_eq d.name.text x || b) (has ds x)

no_shape : (o : Option Shape) → is_some o ≡ false → o ≡ None
no_shape None h = refl
no_shape (Some s) h = cc

-- one declaration more
pub added : (k : Bor (List ℕ)) (d : Declared) (es new : List (Bor (List ℕ) × Declared)) (ds : List Declaration) → k.now ≡ d.name.now.text → map entry_declaration es ≡ ds
    → new ≡ insert_entry (λ a b. pointwise nat_eq a.now b.now) es k d
    → is_among d.name.now.text (names_of ds) ≡ false → map entry_declaration new ≡ ds ++ (declaration d ∷ [])
added k d es new ds e v n h = ap (λ es. map entry_declaration es) n
    ∙ inserted k d es ((λ i. maybe_shape (declaration_of (v i) (e i))) ∙ no_shape _ (has ds d.name.now.text ∙ h))
    ∙ (λ i. v i ++ (record { name = record { at = d.name.now.at; text = e i }; range = d.shape.range; class = d.shape.class } ∷ []))
