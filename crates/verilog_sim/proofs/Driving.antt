-- The drivers of a sound tree.
use Rattle.std.proofs.Common.{◌≡◌, ℕ, zero, suc, Bool, true, false, not, ◌&&◌, ◌||◌, List, [], ◌∷◌, Option, Some, None, refl, ap, sym, ◌∙◌, subst}
use Rattle.std.specs.Cmp.Lexicographic.{same_text}
use Rattle.core_words.specs.Names.{same_name}
use Rattle.verilog_tree.specs.declared.tree.PortDecl.{PortDecl}
use Rattle.verilog_tree.specs.declared.tree.Stmt.TheVariants as stmt
use Rattle.verilog_tree.specs.declared.tree.Item as tree
use Rattle.verilog_tree.specs.declared.tree.Item.TheVariants.{Wire, Reg, Assign, Always}
use Rattle.verilog_mean.specs.declared.class.Class.{Class}
use Rattle.verilog_mean.specs.declared.class.Class.TheVariants as class
use Rattle.verilog_mean.specs.declared.refusal.MeanRefusal.TheVariants.{DriverMissing}
use Rattle.verilog_mean.specs.Plain.{Expr, Item, Plain}
use Rattle.verilog_mean.specs.Cycle.{source_of, item_source}
use Rattle.verilog_mean.specs.Cycle.Source.{Nowhere, Driven}
use Rattle.verilog_mean.specs.Look.{look, or_else, pick, pick_if}
use Rattle.verilog_mean.specs.Erase.{plain, plain_item, plain_items, plain_ports}
use Rattle.verilog_mean.specs.Order.{drive_of, drive_at}
use Rattle.verilog_mean.specs.Declarations.{Declaration, by_name, declaration_of, declared_items, declared_ports}
use Rattle.verilog_mean.specs.Names.{is_among}
use Rattle.verilog_mean.specs.Kinds.{is_array, is_register}
use Rattle.verilog_mean.specs.Drivers.{driven_again, item_target, targets, texts_of, undriven, wants_driver}
use Rattle.verilog_sim.proofs.Once.{AllFind, GivesOwn}
use Rattle.verilog_sim.proofs.Sound.{put_empty, text_in, each_driven, not_false}
use Rattle.verilog_sim.proofs.Items.{Has, has_not, wire_class, FineDrive, AreFineItems, register_no_wire, array_no_wire}
use Rattle.verilog_sim.proofs.Sources.{input_class, no_port, drive_source, maybe_driven}

-- ---- what wants a driver has one

unwanted : (d : Declaration) (driven : List (List ℕ)) → (wants_driver d.class && not (is_among d.name.text driven)) ≡ false → wants_driver d.class ≡ true → is_among d.name.text driven ≡ true
unwanted d driven h w = not_false (is_among d.name.text driven) (ap (λ b. b && not (is_among d.name.text driven)) (sym w) ∙ h)

pub wanted : (driven : List (List ℕ)) (ds : List Declaration) (x : List ℕ) → undriven driven ds ≡ [] → Has wants_driver (declaration_of ds x) → is_among x driven ≡ true
wanted driven [] x h w = absurd w
wanted driven (d ∷ ds) x h w =
    let p = put_empty (wants_driver d.class && not (is_among d.name.text driven)) (DriverMissing d.name.at) (undriven driven ds) h in
    split (same_name d.name.text x) refl (declaration_of ds x) (wanted driven ds x p.1) p.0 w
  where
    split : (b : Bool) → same_name d.name.text x ≡ b → (o : Option Declaration) → (Has wants_driver o → is_among x driven ≡ true)
        → (wants_driver d.class && not (is_among d.name.text driven)) ≡ false → Has wants_driver (pick_if b d o) → is_among x driven ≡ true
    split true q o more p w = subst (λ y. is_among y driven ≡ true) (same_text d.name.text x (sym q)) (unwanted d driven p w)
    split false q o more p w = more w

-- ---- looking over plain items

pub look_plain : {B : Type 0} (g : Item → Option (List ℕ × B)) (items : List tree.Item) (x : List ℕ) → look (λ i. g (plain_item i)) items x ≡ look g (plain_items items) x
look_plain g [] x = refl
look_plain g (i ∷ is) x = ap (pick (g (plain_item i)) x) (look_plain g is x)

drive_own : (i : tree.Item) → GivesOwn (text_in (item_target i)) (drive_of (plain_item i))
drive_own (Wire at range name None) = tt
drive_own (Wire at range name (Some d)) = refl
drive_own (Reg at range name None) = tt
drive_own (Reg at range name (Some cells)) = tt
drive_own (Assign at t d) = refl
drive_own (Always at (stmt.Next t d)) = tt
drive_own (Always at (stmt.Reset at' first s start t d)) = tt
drive_own (Always at (stmt.Write at' p e t b i d)) = tt

abbrev pub Found : {B : Type 0} → Option B → Type 0
Found {B = B} o = (e : B) × (o ≡ Some e)

module _ (ports : List PortDecl) (items : List tree.Item) where
  abbrev ds : List Declaration
  ds = declared_ports ports (declared_items items)

  abbrev m : Plain
  m = record { ports = plain_ports ports; items = plain_items items }

  wire_no_input : (c : Class) → wire_class c ≡ true → input_class c ≡ false
  wire_no_input class.Input h = cc
  wire_no_input class.Output h = refl
  wire_no_input (class.Wired inline) h = refl
  wire_no_input class.Register h = refl
  wire_no_input (class.Array cells) h = refl

  module _ (in_ports : AllFind (declaration_of ds) by_name (declared_ports ports (declared_items items))) (in_items : AllFind (declaration_of ds) by_name (declared_items items)) (fine : AreFineItems ds items) where
    pub source_from : (x : List ℕ) (e : Expr) → Has wire_class (declaration_of ds x) → look drive_of (plain_items items) x ≡ Some e → source_of m x ≡ Driven e
    source_from x e w h =
        ap (λ o. or_else o (or_else (look item_source (plain_items items) x) Nowhere))
        (no_port ds ports (declared_items items) x in_ports (λ i. has_not wire_class input_class wire_no_input (declaration_of ds x) w i))
        ∙ ap (λ o. or_else o Nowhere) (drive_source ds items x in_items w ∙ ap (maybe_driven ds) h)

    -- a driver among items
    no_always : (t x : List ℕ) (test : Class → Bool) → ((c : Class) → test c ≡ true → wire_class c ≡ false) → Has test (declaration_of ds t) → Has wire_class (declaration_of ds x) → (among : Bool)
        → (same_name t x || among) ≡ true → among ≡ true
    no_always t x test differ h w among q = split (same_name t x) refl q
      where
        split : (b : Bool) → same_name t x ≡ b → (b || among) ≡ true → among ≡ true
        split false e q = q
        split true e q = absurd (has_not test wire_class differ (declaration_of ds x) (subst (λ y. Has test (declaration_of ds y)) (same_text t x (sym e)) h) w)

    one_found : (b : Bool) (e : Expr) (o : Option Expr) (among : Bool) → (b || among) ≡ true → (among ≡ true → Found o) → Found (pick_if b e o)
    one_found true e o among q h = (e, refl)
    one_found false e o among q h = h q

    driver_found : (is : List tree.Item) (x : List ℕ) → AreFineItems ds is → Has wire_class (declaration_of ds x) → is_among x (texts_of (targets is)) ≡ true → Found (look drive_of (plain_items is) x)
    driver_found [] x f w q = absurd cc
    driver_found (Wire at range name None ∷ is) x f w q = driver_found is x f.1 w q
    driver_found (Wire at range name (Some d) ∷ is) x f w q = one_found (same_name name.text x) (plain d.value) (look drive_of (plain_items is) x) (is_among x (texts_of (targets is))) q (driver_found is x f.1 w)
    driver_found (Reg at range name None ∷ is) x f w q = driver_found is x f.1 w q
    driver_found (Reg at range name (Some cells) ∷ is) x f w q = driver_found is x f.1 w q
    driver_found (Assign at t d ∷ is) x f w q = one_found (same_name t.text x) (plain d.value) (look drive_of (plain_items is) x) (is_among x (texts_of (targets is))) q (driver_found is x f.1 w)
    driver_found (Always at (stmt.Next t d) ∷ is) x f w q =
        driver_found is x f.1 w (no_always t.text x is_register register_no_wire f.0.1.1 w (is_among x (texts_of (targets is))) q)
    driver_found (Always at (stmt.Reset at' first s start t d) ∷ is) x f w q =
        driver_found is x f.1 w (no_always t.text x is_register register_no_wire f.0.0.1.1 w (is_among x (texts_of (targets is))) q)
    driver_found (Always at (stmt.Write at' p e t b i d) ∷ is) x f w q =
        driver_found is x f.1 w (no_always t.text x is_array array_no_wire f.0.1.1.1.1 w (is_among x (texts_of (targets is))) q)

    wire_wants : (c : Class) → wire_class c ≡ true → wants_driver c ≡ true
    wire_wants class.Input h = h
    wire_wants class.Output h = refl
    wire_wants (class.Wired inline) h = refl
    wire_wants class.Register h = refl
    wire_wants (class.Array cells) h = refl

    has_wants : (o : Option Declaration) → Has wire_class o → Has wants_driver o
    has_wants None h = h
    has_wants (Some d) h = wire_wants d.class h

    pub wire_driven : undriven (texts_of (targets items)) ds ≡ [] → (x : List ℕ) → Has wire_class (declaration_of ds x) → (e : Expr) × (source_of m x ≡ Driven e)
    wire_driven u x w =
        let d = driver_found items x fine w (wanted (texts_of (targets items)) ds x u (has_wants (declaration_of ds x) w)) in
        (d.0, source_from x d.0 w d.1)

    -- the driver of an item drives its name
    abbrev pub IsDrive : Option (List ℕ × Expr) → Type 0
    IsDrive None = Unit {0}
    IsDrive (Some p) = (source_of m p.0 ≡ Driven p.1) × FineDrive ds p.0 p.1

    drive_facts : (is : List tree.Item) (n : ℕ) → AreFineItems ds is → AllFind (look drive_of (plain_items items)) (λ i. drive_of (plain_item i)) is → IsDrive (drive_at (plain_items is) n)
    drive_facts [] n f a = tt
    drive_facts (Wire at range name None ∷ is) zero f a = tt
    drive_facts (Wire at range name (Some d) ∷ is) zero f a = (source_from name.text (plain d.value) f.0.1.1 a.0, f.0)
    drive_facts (Reg at range name None ∷ is) zero f a = tt
    drive_facts (Reg at range name (Some cells) ∷ is) zero f a = tt
    drive_facts (Assign at t d ∷ is) zero f a = (source_from t.text (plain d.value) f.0.1.1 a.0, f.0)
    drive_facts (Always at (stmt.Next t d) ∷ is) zero f a = tt
    drive_facts (Always at (stmt.Reset at' first s start t d) ∷ is) zero f a = tt
    drive_facts (Always at (stmt.Write at' p e t b i d) ∷ is) zero f a = tt
    drive_facts (i ∷ is) (suc n) f a = drive_facts is n f.1 a.1

    pub each_drives : driven_again [] (targets items) ≡ [] → (n : ℕ) → IsDrive (drive_at (plain_items items) n)
    each_drives h n =
        drive_facts items n fine (subst (λ l. AllFind l (λ i. drive_of (plain_item i)) items) (λ i x. look_plain drive_of items x i) (each_driven (λ i. drive_of (plain_item i)) drive_own items h))
