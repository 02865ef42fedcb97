-- Input ports, registers and arrays are known as they are declared.
use Rattle.std.proofs.Common.{◌≡◌, ℕ, ◌^◌, ◌<◌, ◌≤◌, Bool, true, false, cond, ◌||◌, List, [], ◌∷◌, Option, Some, None, refl, ap, sym, ◌∙◌, subst, arith, inl, inr, ◌⊎◌}
use Rattle.std.specs.Cmp.Lexicographic.{same_text}
use Rattle.core_words.specs.Names.{same_name}
use Rattle.verilog_tree.specs.declared.tree.PortDecl.{PortDecl}
use Rattle.verilog_tree.specs.declared.tree.Stmt.TheVariants as stmt
use Rattle.verilog_tree.specs.declared.tree.Item as tree
use Rattle.verilog_tree.specs.declared.tree.Item.TheVariants.{Wire, Reg, Assign, Always}
use Rattle.verilog_mean.specs.declared.class.Class.{Class}
use Rattle.verilog_mean.specs.declared.class.Class.TheVariants as class
use Rattle.verilog_mean.specs.Plain.{Plain}
use Rattle.verilog_mean.specs.Cycle.{source_of, width_in, item_source}
use Rattle.verilog_mean.specs.Cycle.Source.{Nowhere, Held}
use Rattle.verilog_mean.specs.Look.{look, or_else, pick_if}
use Rattle.verilog_mean.specs.Erase.{plain_item, plain_items, plain_port, plain_ports, range_width}
use Rattle.verilog_mean.specs.Declarations.{Declaration, by_name, declaration_of, declared_items, declared_ports, declared_width, port_class, port_declaration, width_among}
use Rattle.verilog_mean.specs.Names.{is_among}
use Rattle.verilog_mean.specs.Kinds.{is_register}
use Rattle.verilog_resolve.specs.declared.names.Place.{Place}
use Rattle.verilog_resolve.specs.declared.names.Place.TheVariants.{Net, Array}
use Rattle.verilog_sim.specs.Layouts.{register_names}
use Rattle.verilog_sim.specs.Rooms.{cell_count}
use Rattle.verilog_sim.specs.Bindings.{AreHeld, AreInputs, AreNarrowPorts, AreSized, IsInput, IsNarrowPort, with_items, with_item, with_port, with_ports}
use Rattle.verilog_sim.specs.Targets.{class_place, declared_place, target}
use Rattle.verilog_sim.proofs.Once.{AllFind, same_self}
use Rattle.verilog_sim.proofs.Items.{Has, has_not, AreFineItems}
use Rattle.verilog_sim.proofs.Sources.{input_class, held_source, input_source, names_in, no_port, width_same}
use Rattle.verilog_sim.proofs.Orders.{base_class}

past_wire : (b : Bool) (d : Declaration) (o : Option Declaration) (P : Type 0) → base_class d.class ≡ false → Has base_class (pick_if b d o) → (Has base_class o → P) → P
past_wire true d o P e h more = absurd (let z : ◌≡◌ {A = Bool} false true = sym e ∙ h in cc)
past_wire false d o P e h more = more h

here_or : (b : Bool) (d : Declaration) (o : Option Declaration) (P : Type 0) → Has base_class (pick_if b d o) → (b ≡ true → P) → (Has base_class o → P) → P
here_or true d o P h there more = there refl
here_or false d o P h there more = more h

here_or_class : (b : Bool) (d : Declaration) (o : Option Declaration) (P : Type 0) → Has base_class (pick_if b d o) → (b ≡ true → base_class d.class ≡ true → P) → (Has base_class o → P) → P
here_or_class true d o P h there more = there refl h
here_or_class false d o P h there more = more h

register_no_input : (c : Class) → is_register c ≡ true → input_class c ≡ false
register_no_input class.Input h = cc
register_no_input class.Output h = refl
register_no_input (class.Wired inline) h = refl
register_no_input class.Register h = refl
register_no_input (class.Array cells) h = refl

module _ (ds : List Declaration) where
  -- a name that is bound as it is declared
  at_name : (k : List ℕ → Place) (x y : List ℕ) (place : Place) → target ds x ≡ place → (same_name x y ≡ false → k y ≡ target ds y) → cond (same_name x y) place (k y) ≡ target ds y
  at_name k x y place e h = split (same_name x y) refl
    where
      split : (b : Bool) → same_name x y ≡ b → cond b place (k y) ≡ target ds y
      split true q = sym e ∙ ap (target ds) (same_text x y (sym q))
      split false q = h q

  items_keep : (k : List ℕ → Place) (items : List tree.Item) (y : List ℕ) → AllFind (declaration_of ds) by_name (declared_items items) → k y ≡ target ds y → with_items k (plain_items items) y ≡ target ds y
  items_keep k [] y f h = h
  items_keep k (Wire at range name d ∷ is) y f h = items_keep k is y f.1 h
  items_keep k (Reg at range name None ∷ is) y f h = items_keep (with_item k (plain_item (Reg at range name None))) is y f.1 (at_name k name.text y (Net 0 (range_width range)) (ap declared_place f.0) (λ q. h))
  items_keep k (Reg at range name (Some cells) ∷ is) y f h =
      items_keep (with_item k (plain_item (Reg at range name (Some cells)))) is y f.1 (at_name k name.text y (Array 0 0 (range_width range)) (ap declared_place f.0) (λ q. h))
  items_keep k (Assign at t d ∷ is) y f h = items_keep k is y f h
  items_keep k (Always at (stmt.Next t d) ∷ is) y f h = items_keep k is y f h
  items_keep k (Always at (stmt.Reset at' first s start t d) ∷ is) y f h = items_keep k is y f h
  items_keep k (Always at (stmt.Write at' p e t b i d) ∷ is) y f h = items_keep k is y f h

  bound_here : (k : List ℕ → Place) (x y : List ℕ) (place : Place) → target ds x ≡ place → same_name x y ≡ true → cond (same_name x y) place (k y) ≡ target ds y
  bound_here k x y place e q = ap (λ b. cond b place (k y)) q ∙ sym e ∙ ap (target ds) (same_text x y (sym q))

  items_find : (k : List ℕ → Place) (items : List tree.Item) (y : List ℕ) → AllFind (declaration_of ds) by_name (declared_items items) → Has base_class (declaration_of (declared_items items) y)
      → with_items k (plain_items items) y ≡ target ds y
  items_find k [] y f h = absurd h
  items_find k (Wire at range name d ∷ is) y f h =
      past_wire (same_name name.text y) _ (declaration_of (declared_items is) y) (with_items k (plain_items is) y ≡ target ds y) refl h (items_find k is y f.1)
  items_find k (Reg at range name None ∷ is) y f h =
      let k' : List ℕ → Place = with_item k (plain_item (Reg at range name None)) in
      here_or (same_name name.text y) _ (declaration_of (declared_items is) y) (with_items k' (plain_items is) y ≡ target ds y) h
      (λ q. items_keep k' is y f.1 (bound_here k name.text y (Net 0 (range_width range)) (ap declared_place f.0) q)) (items_find k' is y f.1)
  items_find k (Reg at range name (Some cells) ∷ is) y f h =
      let k' : List ℕ → Place = with_item k (plain_item (Reg at range name (Some cells))) in
      here_or (same_name name.text y) _ (declaration_of (declared_items is) y) (with_items k' (plain_items is) y ≡ target ds y) h
      (λ q. items_keep k' is y f.1 (bound_here k name.text y (Array 0 0 (range_width range)) (ap declared_place f.0) q)) (items_find k' is y f.1)
  items_find k (Assign at t d ∷ is) y f h = items_find k is y f h
  items_find k (Always at (stmt.Next t d) ∷ is) y f h = items_find k is y f h
  items_find k (Always at (stmt.Reset at' first s start t d) ∷ is) y f h = items_find k is y f h
  items_find k (Always at (stmt.Write at' p e t b i d) ∷ is) y f h = items_find k is y f h

  -- ports
  port_at : (b : Bool) (k : List ℕ → Place) (p : PortDecl) (y : List ℕ) → p.input ≡ b → declaration_of ds p.name.text ≡ Some (port_declaration p) → k y ≡ target ds y
      → with_port k (plain_port b (range_width p.range) p.name.text) y ≡ target ds y
  port_at true k p y e f h = at_name k p.name.text y (Net 0 (range_width p.range)) (ap declared_place f ∙ ap (λ b. class_place (port_class b) (range_width p.range)) e) (λ q. h)
  port_at false k p y e f h = h

  ports_keep : (k : List ℕ → Place) (ports : List PortDecl) (rest : List Declaration) (y : List ℕ) → AllFind (declaration_of ds) by_name (declared_ports ports rest) → k y ≡ target ds y
      → with_ports k (plain_ports ports) y ≡ target ds y
  ports_keep k [] rest y f h = h
  ports_keep k (p ∷ ps) rest y f h =
      ports_keep (with_port k (plain_port p.input (range_width p.range) p.name.text)) ps rest y f.1 (port_at p.input k p y refl f.0 h)

  port_here : (b : Bool) (k : List ℕ → Place) (p : PortDecl) (y : List ℕ) → p.input ≡ b → declaration_of ds p.name.text ≡ Some (port_declaration p) → same_name p.name.text y ≡ true
      → base_class (port_class p.input) ≡ true → with_port k (plain_port b (range_width p.range) p.name.text) y ≡ target ds y
  port_here true k p y e f q c = bound_here k p.name.text y (Net 0 (range_width p.range)) (ap declared_place f ∙ ap (λ b. class_place (port_class b) (range_width p.range)) e) q
  port_here false k p y e f q c = absurd (let z : ◌≡◌ {A = Bool} false true = ap (λ b. base_class (port_class b)) (sym e) ∙ c in cc)

  ports_find : (k : List ℕ → Place) (ports : List PortDecl) (rest : List Declaration) (y : List ℕ) → AllFind (declaration_of ds) by_name (declared_ports ports rest)
      → Has base_class (declaration_of (declared_ports ports rest) y) → (with_ports k (plain_ports ports) y ≡ target ds y) ⊎ Has base_class (declaration_of rest y)
  ports_find k [] rest y f h = inr h
  ports_find k (p ∷ ps) rest y f h =
      let k' : List ℕ → Place = with_port k (plain_port p.input (range_width p.range) p.name.text) in
      here_or_class (same_name p.name.text y) (port_declaration p) (declaration_of (declared_ports ps rest) y) ((with_ports k' (plain_ports ps) y ≡ target ds y) ⊎ Has base_class (declaration_of rest y)) h
      (λ q c. inl (ports_keep k' ps rest y f.1 (port_here p.input k p y refl f.0 q c))) (ports_find k' ps rest y f.1)

  pub base_known : (ports : List PortDecl) (items : List tree.Item) → AllFind (declaration_of ds) by_name (declared_ports ports (declared_items items)) → AllFind (declaration_of ds) by_name (declared_items items)
      → (k : List ℕ → Place) (y : List ℕ) → Has base_class (declaration_of (declared_ports ports (declared_items items)) y) → with_items (with_ports k (plain_ports ports)) (plain_items items) y ≡ target ds y
  base_known ports items fp fi k y h = elim (ports_find k ports (declared_items items) y fp h) [
    | inl e ↦ items_keep (with_ports k (plain_ports ports)) items y fi e
    | inr r ↦ items_find (with_ports k (plain_ports ports)) items y fi r
  ]

-- ---- what the module knows of them

module _ (ports : List PortDecl) (items : List tree.Item) where
  abbrev ds : List Declaration
  ds = declared_ports ports (declared_items items)

  abbrev m : Plain
  m = record { ports = plain_ports ports; items = plain_items items }

  module _ (fp : AllFind (declaration_of ds) by_name (declared_ports ports (declared_items items))) (fi : AllFind (declaration_of ds) by_name (declared_items items)) (fine : AreFineItems ds items)
      (narrow : (x : List ℕ) → width_among ds x ≤ 64) where
    wide_of : (x : List ℕ) (d : Declaration) → declaration_of ds x ≡ Some d → width_in m x ≡ range_width d.range
    wide_of x d f = sym (width_same ports items x) ∙ ap declared_width f

    narrow_of : (x : List ℕ) (d : Declaration) → declaration_of ds x ≡ Some d → range_width d.range ≤ 64
    narrow_of x d f = subst (λ k. k ≤ 64) (ap declared_width f) (narrow x)

    one_input : (b : Bool) (p : PortDecl) → p.input ≡ b → declaration_of ds p.name.text ≡ Some (port_declaration p) → is_among p.name.text (names_in ds ports) ≡ true
        → IsInput m (plain_port b (range_width p.range) p.name.text)
    one_input false p e f q = tt
    one_input true p e f q = (
      wide_of p.name.text (port_declaration p) f,
      ap (λ o. or_else o (or_else (look item_source (plain_items items) p.name.text) Nowhere))
          (input_source ds ports (declared_items items) p.name.text fp (subst (Has input_class) (sym f) (ap (λ b. input_class (port_class b)) e)) q),
    )

    or_right : (a b : Bool) → b ≡ true → (a || b) ≡ true
    or_right true b h = refl
    or_right false b h = h

    inputs_of : (ps : List PortDecl) → AllFind (declaration_of ds) by_name (declared_ports ps (declared_items items)) → ((x : List ℕ) → is_among x (names_in ds ps) ≡ true → is_among x (names_in ds ports) ≡ true)
        → AreInputs m (plain_ports ps)
    inputs_of [] f q = tt
    inputs_of (p ∷ ps) f q = (
      one_input p.input p refl f.0 (q p.name.text (ap (λ b. b || is_among p.name.text (names_in ds ps)) (same_self p.name.text))),
      inputs_of ps f.1 (λ x h. q x (or_right (same_name p.name.text x) (is_among x (names_in ds ps)) h)),
    )

    pub are_inputs : AreInputs m (plain_ports ports)
    are_inputs = inputs_of ports fp (λ x h. h)

    one_narrow : (b : Bool) (p : PortDecl) → declaration_of ds p.name.text ≡ Some (port_declaration p) → IsNarrowPort (plain_port b (range_width p.range) p.name.text)
    one_narrow true p f = narrow_of p.name.text (port_declaration p) f
    one_narrow false p f = tt

    pub narrow_ports : (ps : List PortDecl) → AllFind (declaration_of ds) by_name (declared_ports ps (declared_items items)) → AreNarrowPorts (plain_ports ps)
    narrow_ports [] f = tt
    narrow_ports (p ∷ ps) f = (one_narrow p.input p f.0, narrow_ports ps f.1)

    pub sized_items : (is : List tree.Item) → AllFind (declaration_of ds) by_name (declared_items is) → cell_count (plain_items is) < 2 ^ 32 → AreSized (plain_items is)
    sized_items [] f c = tt
    sized_items (Wire at range name d ∷ is) f c = (tt, sized_items is f.1 c)
    sized_items (Reg at range name None ∷ is) f c = (narrow_of name.text _ f.0, sized_items is f.1 c)
    sized_items (Reg at range name (Some cells) ∷ is) f c = ((narrow_of name.text _ f.0, omega (arith, c)), sized_items is f.1 (omega (arith, c)))
    sized_items (Assign at t d ∷ is) f c = (tt, sized_items is f c)
    sized_items (Always at (stmt.Next t d) ∷ is) f c = (tt, sized_items is f c)
    sized_items (Always at (stmt.Reset at' first s start t d) ∷ is) f c = (tt, sized_items is f c)
    sized_items (Always at (stmt.Write at' p e t b i d) ∷ is) f c = (tt, sized_items is f c)

    register_source : (x : List ℕ) → Has is_register (declaration_of ds x) → is_among x (register_names (plain_items items)) ≡ true → source_of m x ≡ Held
    register_source x r q =
        ap (λ o. or_else o (or_else (look item_source (plain_items items) x) Nowhere)) (no_port ds ports (declared_items items) x fp (no_register (declaration_of ds x) r))
        ∙ ap (λ o. or_else o Nowhere) (held_source ds items x fine r q)
      where
        no_register : (o : Option Declaration) → Has is_register o → Has input_class o → ⊥
        no_register o h k = has_not is_register input_class register_no_input o h k

    held_of_items : (is : List tree.Item) → AllFind (declaration_of ds) by_name (declared_items is)
        → ((x : List ℕ) → is_among x (register_names (plain_items is)) ≡ true → is_among x (register_names (plain_items items)) ≡ true) → AreHeld m (plain_items is)
    held_of_items [] f q = tt
    held_of_items (Wire at range name d ∷ is) f q = (tt, held_of_items is f.1 q)
    held_of_items (Reg at range name None ∷ is) f q = (
      (
        wide_of name.text _ f.0,
        register_source name.text (subst (Has is_register) (sym f.0) refl)
            (q name.text (ap (λ b. b || is_among name.text (register_names (plain_items is))) (same_self name.text))),
      ),
      held_of_items is f.1 (λ x h. q x (or_right (same_name name.text x) (is_among x (register_names (plain_items is))) h)),
    )
    held_of_items (Reg at range name (Some cells) ∷ is) f q = (wide_of name.text _ f.0, held_of_items is f.1 q)
    held_of_items (Assign at t d ∷ is) f q = (tt, held_of_items is f q)
    held_of_items (Always at (stmt.Next t d) ∷ is) f q = (tt, held_of_items is f q)
    held_of_items (Always at (stmt.Reset at' first s start t d) ∷ is) f q = (tt, held_of_items is f q)
    held_of_items (Always at (stmt.Write at' p e t b i d) ∷ is) f q = (tt, held_of_items is f q)

    pub are_held : AreHeld m (plain_items items)
    are_held = held_of_items items fi (λ x h. h)
