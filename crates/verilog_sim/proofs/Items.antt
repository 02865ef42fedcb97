-- What the items of a sound tree are like.
use Rattle.std.proofs.Common.{◌≡◌, ℕ, ◌^◌, ◌<◌, ◌≤◌, Bool, true, false, not, eqb, ◌&&◌, ◌||◌, List, [], ◌∷◌, Option, Some, None, is_some, refl, ap, sym, ◌∙◌, subst, arith, inl, inr, ◌⊎◌}
use Rattle.std.proofs.lemmas.Bool.Decides.{nat_tests}
use Rattle.std.specs.Cmp.Lexicographic.{same_text}
use Rattle.core_words.specs.Names.{same_name}
use Rattle.verilog_tree.specs.declared.expr.Ident.{Ident}
use Rattle.verilog_tree.specs.declared.tree.PortDecl.{PortDecl}
use Rattle.verilog_tree.specs.declared.tree.Stmt.TheVariants as stmt
use Rattle.verilog_tree.specs.declared.tree.Item as tree
use Rattle.verilog_tree.specs.declared.tree.Item.TheVariants.{Wire, Reg, Assign, Always}
use Rattle.verilog_mean.specs.declared.class.Class.{Class}
use Rattle.verilog_mean.specs.declared.class.Class.TheVariants as class
use Rattle.verilog_mean.specs.declared.refusal.MeanRefusal.TheVariants.{KindDiffers, NameUnknown, WidthDiffers}
use Rattle.verilog_mean.specs.Plain.{Expr}
use Rattle.verilog_mean.specs.Cycle.{width_of}
use Rattle.verilog_mean.specs.Look.{put, put_if}
use Rattle.verilog_mean.specs.Erase.{plain}
use Rattle.verilog_mean.specs.Bounds.{IsWrittenItem, AreWrittenItems}
use Rattle.verilog_mean.specs.Declarations.{Declaration, by_name, declaration_of, declared_items, declared_ports, item_declaration, width_among}
use Rattle.verilog_mean.specs.Names.{Refusals, is_among, known_after, port_names, unknown_in, unknown_in_item, unknown_in_items}
use Rattle.verilog_mean.specs.Kinds.{kinds_in, kinds_in_item, kinds_in_items, is_array, is_register, is_assignable, declared_passes}
use Rattle.verilog_mean.specs.Widths.{selects_in, selects_in_item, selects_in_items, widths_in, widths_in_item, widths_in_items, width, widths_at, index_width_of}
use Rattle.verilog_resolve.specs.Fine.{IsFine}
use Rattle.verilog_sim.specs.Targets.{target}
use Rattle.verilog_sim.proofs.Once.{AllFind, Finds}
use Rattle.verilog_sim.proofs.Sound.{both_empty, put_empty, not_false, and_first, and_second}
use Rattle.verilog_sim.proofs.FineExprs.{fine_expr}

-- ---- kinds of declarations

abbrev pub wire_class : Class → Bool
wire_class class.Input = false
wire_class class.Output = true
wire_class (class.Wired inline) = true
wire_class class.Register = false
wire_class (class.Array cells) = false

-- a declaration with a test
abbrev pub Has : (Class → Bool) → Option Declaration → Type 0
Has test None = ⊥
Has test (Some d) = test d.class ≡ true

pub has_of : (test : Class → Bool) (o : Option Declaration) → is_some o ≡ true → declared_passes (λ d. test d.class) o ≡ true → Has test o
has_of test None s h = absurd cc
has_of test (Some d) s h = h

pub has_more : (a b : Class → Bool) → ((c : Class) → a c ≡ true → b c ≡ true) → (o : Option Declaration) → Has a o → Has b o
has_more a b f None h = h
has_more a b f (Some d) h = f d.class h

pub has_not : (a b : Class → Bool) → ((c : Class) → a c ≡ true → b c ≡ false) → (o : Option Declaration) → Has a o → Has b o → ⊥
has_not a b f None h k = h
has_not a b f (Some d) h k = cross (b d.class) (f d.class h) k
  where
    cross : (t : Bool) → t ≡ false → t ≡ true → ⊥
    cross true h k = cc
    cross false h k = cc

pub assignable_wire : (c : Class) → is_assignable c ≡ true → wire_class c ≡ true
assignable_wire class.Input h = h
assignable_wire class.Output h = refl
assignable_wire (class.Wired inline) h = refl
assignable_wire class.Register h = h
assignable_wire (class.Array cells) h = h

pub register_no_wire : (c : Class) → is_register c ≡ true → wire_class c ≡ false
register_no_wire class.Input h = refl
register_no_wire class.Output h = cc
register_no_wire (class.Wired inline) h = cc
register_no_wire class.Register h = refl
register_no_wire (class.Array cells) h = refl

pub register_no_array : (c : Class) → is_register c ≡ true → is_array c ≡ false
register_no_array class.Input h = refl
register_no_array class.Output h = refl
register_no_array (class.Wired inline) h = refl
register_no_array class.Register h = refl
register_no_array (class.Array cells) h = cc

pub array_no_wire : (c : Class) → is_array c ≡ true → wire_class c ≡ false
array_no_wire class.Input h = refl
array_no_wire class.Output h = cc
array_no_wire (class.Wired inline) h = cc
array_no_wire class.Register h = refl
array_no_wire (class.Array cells) h = refl

-- ---- items

module _ (ds : List Declaration) where
  abbrev pub FineDrive : List ℕ → Expr → Type 0
  FineDrive x e = IsFine (target ds) e × ((width_among ds x ≡ width_of (width_among ds) e) × Has wire_class (declaration_of ds x))

  abbrev pub FineNext : List ℕ → Expr → Type 0
  FineNext x e = IsFine (target ds) e × ((width_among ds x ≡ width_of (width_among ds) e) × Has is_register (declaration_of ds x))

  abbrev pub FineItem : tree.Item → Type 0
  FineItem (Wire at range name None) = Unit {0}
  FineItem (Wire at range name (Some d)) = FineDrive name.text (plain d.value)
  FineItem (Reg at range name cells) = Unit {0}
  FineItem (Assign at t d) = FineDrive t.text (plain d.value)
  FineItem (Always at (stmt.Next t d)) = FineNext t.text (plain d.value)
  FineItem (Always at (stmt.Reset at' first first_sign_at start t d)) = FineNext t.text (plain d.value) × (start.value < 2 ^ width_among ds t.text)
  FineItem (Always at (stmt.Write at' paren_at enable t bracket_at index d)) = IsFine (target ds) (plain enable) × (IsFine (target ds) (plain index) × (IsFine (target ds) (plain d.value)
      × ((width_among ds t.text ≡ width_of (width_among ds) (plain d.value)) × Has is_array (declaration_of ds t.text))))

  abbrev pub AreFineItems : List tree.Item → Type 0
  AreFineItems [] = Unit {0}
  AreFineItems (i ∷ is) = FineItem i × AreFineItems is

  -- known names are declared
  abbrev pub AreDeclared : List (List ℕ) → Type 0
  AreDeclared known = (x : List ℕ) → is_among x known ≡ true → is_some (declaration_of ds x) ≡ true

  or_cases : (a b : Bool) → (a || b) ≡ true → (a ≡ true) ⊎ (b ≡ true)
  or_cases true b h = inl refl
  or_cases false b h = inr h

  pub one_declared : (known : List (List ℕ)) (n : List ℕ) → is_some (declaration_of ds n) ≡ true → AreDeclared known → AreDeclared (n ∷ known)
  one_declared known n s h x q = elim (or_cases (same_name n x) (is_among x known) q) [
    | inl e ↦ subst (λ y. is_some (declaration_of ds y) ≡ true) (same_text n x (sym e)) s
    | inr e ↦ h x e
  ]

  some_of : (x : List ℕ) (d : Declaration) → declaration_of ds x ≡ Some d → is_some (declaration_of ds x) ≡ true
  some_of x d h = ap is_some h

  pub declared_after : (known : List (List ℕ)) (o : Option Declaration) → Finds (declaration_of ds) (elim o [ None ↦ None | Some d ↦ by_name d ]) → AreDeclared known → AreDeclared (known_after known o)
  declared_after known None f h = h
  declared_after known (Some d) f h = one_declared known d.name.text (some_of d.name.text d f) h

  found_of : (o : Option Declaration) (rest : List Declaration) → AllFind (declaration_of ds) by_name (put o rest)
      → Finds (declaration_of ds) (elim o [ None ↦ None | Some d ↦ by_name d ]) × AllFind (declaration_of ds) by_name rest
  found_of None rest h = (tt, h)
  found_of (Some d) rest h = (h.0, h.1)

  module _ (narrow : (x : List ℕ) → width_among ds x ≤ 64) where
    -- the two sides of a driver
    sides : (x : List ℕ) (at : ℕ) (e : _) → widths_at ds (width_among ds x) (record { sign_at = at; value = e }) ≡ [] → (width_among ds x ≡ width ds e) × (widths_in ds e ≡ [])
    sides x at e h =
        let p = put_empty (not (eqb (width_among ds x) (width ds e))) (WidthDiffers at (width_among ds x) (width ds e)) (widths_in ds e) h in
        let q : eqb (width_among ds x) (width ds e) ≡ true = not_false (eqb (width_among ds x) (width ds e)) p.0 in
        ((let r : width_among ds x ≡ width ds e = grind (arith, nat_tests) in r), p.1)

    known_ok : (known : List (List ℕ)) → AreDeclared known → (i : Ident) (rest : Refusals) → put_if (not (is_among i.text known)) (NameUnknown i.at) rest ≡ []
        → (is_some (declaration_of ds i.text) ≡ true) × (rest ≡ [])
    known_ok known k i rest h =
        let p = put_empty (not (is_among i.text known)) (NameUnknown i.at) rest h in (k i.text (not_false (is_among i.text known) p.0), p.1)

    passes_ok : (t : Declaration → Bool) (i : Ident) (rest : Refusals) → put_if (not (declared_passes t (declaration_of ds i.text))) (KindDiffers i.at) rest ≡ []
        → (declared_passes t (declaration_of ds i.text) ≡ true) × (rest ≡ [])
    passes_ok t i rest h =
        let p = put_empty (not (declared_passes t (declaration_of ds i.text))) (KindDiffers i.at) rest h in (not_false (declared_passes t (declaration_of ds i.text)) p.0, p.1)

    reset_ok : (first t : Ident) (at start value : ℕ) → (eqb (width_among ds first.text) start) ≡ true → same_name first.text t.text ≡ true → value < 2 ^ start → value < 2 ^ width_among ds t.text
    reset_ok first t at start value e s v =
        let a : width_among ds first.text ≡ start = grind (arith, nat_tests) in
        subst (λ k. value < 2 ^ k) (sym a ∙ ap (width_among ds) (same_text first.text t.text (sym s))) v

    pub fine_item : (known : List (List ℕ)) → AreDeclared known → (i : tree.Item) → Finds (declaration_of ds) (elim (item_declaration i) [ None ↦ None | Some d ↦ by_name d ])
        → unknown_in_item known i ≡ [] → kinds_in_item ds i ≡ [] → selects_in_item ds i ≡ [] → widths_in_item ds i ≡ [] → IsWrittenItem i → FineItem i
    fine_item known k (Wire at range name None) f u q s w b = tt
    fine_item known k (Wire at range name (Some d)) f u q s w b =
        let e = sides name.text d.sign_at d.value w in
        (fine_expr ds narrow (name.text ∷ known) (one_declared known name.text (ap is_some f) k) d.value u q s e.1 b, (e.0, subst (Has wire_class) (sym f) refl))
    fine_item known k (Reg at range name cells) f u q s w b = tt
    fine_item known k (Assign at t d) f u q s w b =
        let e = sides t.text d.sign_at d.value w in
        let n = known_ok known k t (unknown_in known d.value) u in
        let p = passes_ok (λ c. is_assignable c.class) t (kinds_in ds d.value) q in
        (fine_expr ds narrow known k d.value n.1 p.1 s e.1 b, (e.0, has_more is_assignable wire_class assignable_wire (declaration_of ds t.text) (has_of is_assignable (declaration_of ds t.text) n.0 p.0)))
    fine_item known k (Always at (stmt.Next t d)) f u q s w b =
        let e = sides t.text d.sign_at d.value w in
        let n = known_ok known k t (unknown_in known d.value) u in
        let p = passes_ok (λ c. is_register c.class) t (kinds_in ds d.value) q in
        (fine_expr ds narrow known k d.value n.1 p.1 s e.1 b, (e.0, has_of is_register (declaration_of ds t.text) n.0 p.0))
    fine_item known k (Always at (stmt.Reset at' first first_sign_at start t d)) f u q s w b =
        let w0 = put_empty (not (eqb (width_among ds first.text) start.width)) (WidthDiffers first_sign_at (width_among ds first.text) start.width) (widths_at ds (width_among ds t.text) d) w in
        let e = sides t.text d.sign_at d.value w0.1 in
        let n0 = known_ok known k first _ u in
        let n = known_ok known k t (unknown_in known d.value) n0.1 in
        let p0 = passes_ok (λ c. is_register c.class) first _ q in
        let test = declared_passes (λ c. is_register c.class) (declaration_of ds t.text) in
        let same = same_name first.text t.text in
        let p = put_empty (not (test && same)) (KindDiffers t.at) (kinds_in ds d.value) p0.1 in
        let g = not_false (test && same) p.0 in (
          (fine_expr ds narrow known k d.value n.1 p.1 s e.1 b.1, (e.0, has_of is_register (declaration_of ds t.text) n.0 (and_first test same g))),
          reset_ok first t first_sign_at start.width start.value (not_false (eqb (width_among ds first.text) start.width) w0.0) (and_second test same g) b.0.1.1,
        )
    fine_item known k (Always at (stmt.Write at' paren_at enable t bracket_at index d)) f u q s w b =
        let u1 = both_empty (unknown_in known enable) _ u in
        let n = known_ok known k t _ u1.1 in
        let u2 = both_empty (unknown_in known index) (unknown_in known d.value) n.1 in
        let q1 = both_empty (kinds_in ds enable) _ q in
        let p = passes_ok (λ c. is_array c.class) t _ q1.1 in
        let q2 = both_empty (kinds_in ds index) (kinds_in ds d.value) p.1 in
        let s1 = both_empty (selects_in ds enable) _ s in
        let s2 = both_empty (selects_in ds index) (selects_in ds d.value) s1.1 in
        let w1 = put_empty (not (eqb (width ds enable) 1)) (WidthDiffers paren_at (width ds enable) 1) _ w in
        let w2 = both_empty (widths_in ds enable) _ w1.1 in
        let w3 = put_empty (not (eqb (width ds index) (index_width_of ds t))) (WidthDiffers bracket_at (width ds index) (index_width_of ds t)) _ w2.1 in
        let w4 = both_empty (widths_in ds index) _ w3.1 in
        let e = sides t.text d.sign_at d.value w4.1 in (
          fine_expr ds narrow known k enable u1.0 q1.0 s1.0 w2.0 b.0,
          (
            fine_expr ds narrow known k index u2.0 q2.0 s2.0 w4.0 b.1.0,
            (fine_expr ds narrow known k d.value u2.1 q2.1 s2.1 e.1 b.1.1, (e.0, has_of is_array (declaration_of ds t.text) n.0 p.0)),
          ),
        )

    pub fine_items : (known : List (List ℕ)) → AreDeclared known → (items : List tree.Item) → AllFind (declaration_of ds) by_name (declared_items items)
        → unknown_in_items known items ≡ [] → kinds_in_items ds items ≡ [] → selects_in_items ds items ≡ [] → widths_in_items ds items ≡ [] → AreWrittenItems items → AreFineItems items
    fine_items known k [] f u q s w b = tt
    fine_items known k (i ∷ is) f u q s w b =
        let g = found_of (item_declaration i) (declared_items is) f in
        let u1 = both_empty (unknown_in_item known i) _ u in
        let q1 = both_empty (kinds_in_item ds i) (kinds_in_items ds is) q in
        let s1 = both_empty (selects_in_item ds i) (selects_in_items ds is) s in
        let w1 = both_empty (widths_in_item ds i) (widths_in_items ds is) w in
        (fine_item known k i g.0 u1.0 q1.0 s1.0 w1.0 b.0, fine_items (known_after known (item_declaration i)) (declared_after known (item_declaration i) g.0 k) is g.1 u1.1 q1.1 s1.1 w1.1 b.1)

  -- the names of ports are declared
  pub ports_declared : (ports : List PortDecl) (rest : List Declaration) → AllFind (declaration_of ds) by_name (declared_ports ports rest)
      → AreDeclared (port_names ports) × AllFind (declaration_of ds) by_name rest
  ports_declared [] rest f = ((λ x h. absurd cc), f)
  ports_declared (p ∷ ps) rest f =
      let g = ports_declared ps rest f.1 in (one_declared (port_names ps) p.name.text (ap is_some f.0) g.0, g.1)
