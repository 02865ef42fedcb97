-- Where the values of a sound tree's names come from.
use Rattle.std.proofs.Common.{◌≡◌, ℕ, Bool, true, false, ◌||◌, List, [], ◌∷◌, Option, Some, None, refl, ap, sym, ◌∙◌, subst}
use Rattle.std.specs.Cmp.Lexicographic.{same_text}
use Rattle.core_words.specs.Names.{same_name}
use Rattle.verilog_tree.specs.declared.tree.PortDecl.{PortDecl}
use Rattle.verilog_tree.specs.declared.tree.Stmt.TheVariants as stmt
use Rattle.verilog_tree.specs.declared.tree.Item as tree
use Rattle.verilog_tree.specs.declared.tree.Item.TheVariants.{Wire, Reg, Assign, Always}
use Rattle.verilog_mean.specs.declared.class.Class.{Class}
use Rattle.verilog_mean.specs.declared.class.Class.TheVariants as class
use Rattle.verilog_mean.specs.Plain.{Expr}
use Rattle.verilog_mean.specs.Cycle.{Source, item_source, port_source, item_width, port_width, width_in}
use Rattle.verilog_mean.specs.Cycle.Source.{Outside, Held, Driven}
use Rattle.verilog_mean.specs.Look.{look, or_else, pick, pick_if}
use Rattle.verilog_mean.specs.Erase.{plain, plain_items, plain_port, plain_ports, range_width}
use Rattle.verilog_mean.specs.Order.{drive_of}
use Rattle.verilog_mean.specs.Declarations.{Declaration, by_name, declaration_of, declared_items, declared_ports, declared_width, port_declaration, port_class, width_among}
use Rattle.verilog_mean.specs.Names.{is_among}
use Rattle.verilog_mean.specs.Kinds.{is_register}
use Rattle.verilog_sim.specs.Layouts.{register_names}
use Rattle.verilog_sim.proofs.Once.{AllFind}
use Rattle.verilog_sim.proofs.Items.{Has, has_not, wire_class, AreFineItems, register_no_wire}

-- ---- the width of a name

abbrev maybe_width : Option Declaration → Option ℕ
maybe_width None = None
maybe_width (Some d) = Some (range_width d.range)

width_of_maybe : (o : Option Declaration) → declared_width o ≡ or_else (maybe_width o) 0
width_of_maybe None = refl
width_of_maybe (Some d) = refl

pick_width : (b : Bool) (d : Declaration) (o : Option Declaration) → maybe_width (pick_if b d o) ≡ pick_if b (range_width d.range) (maybe_width o)
pick_width true d o = refl
pick_width false d o = refl

over : {B : Type 0} (b : Bool) (v : B) (o : Option B) (z : B) → or_else (pick_if b v o) z ≡ or_else (pick_if b v (Some (or_else o z))) z
over true v o z = refl
over false v None z = refl
over false v (Some o) z = refl

items_width : (items : List tree.Item) (x : List ℕ) → maybe_width (declaration_of (declared_items items) x) ≡ look item_width (plain_items items) x
items_width [] x = refl
items_width (Wire at range name d ∷ is) x =
    pick_width (same_name name.text x) _ (declaration_of (declared_items is) x) ∙ ap (pick_if (same_name name.text x) (range_width range)) (items_width is x)
items_width (Reg at range name None ∷ is) x =
    pick_width (same_name name.text x) _ (declaration_of (declared_items is) x) ∙ ap (pick_if (same_name name.text x) (range_width range)) (items_width is x)
items_width (Reg at range name (Some cells) ∷ is) x =
    pick_width (same_name name.text x) _ (declaration_of (declared_items is) x) ∙ ap (pick_if (same_name name.text x) (range_width range)) (items_width is x)
items_width (Assign at t d ∷ is) x = items_width is x
items_width (Always at (stmt.Next t d) ∷ is) x = items_width is x
items_width (Always at (stmt.Reset at' first s start t d) ∷ is) x = items_width is x
items_width (Always at (stmt.Write at' p e t b i d) ∷ is) x = items_width is x

port_step : (b : Bool) (w : ℕ) (d : Declaration) (o : Option Declaration) (u : Option ℕ) (z : ℕ) → range_width d.range ≡ w
    → or_else (maybe_width o) 0 ≡ or_else u z → or_else (maybe_width (pick_if b d o)) 0 ≡ or_else (pick_if b w u) z
port_step true w d o u z e h = e
port_step false w d o u z e h = h

port_one : (b : Bool) (p : PortDecl) (x : List ℕ) (o : Option Declaration) (u : Option ℕ) (z : ℕ) → or_else (maybe_width o) 0 ≡ or_else u z
    → or_else (maybe_width (pick_if (same_name p.name.text x) (port_declaration p) o)) 0 ≡ or_else (pick (port_width (plain_port b (range_width p.range) p.name.text)) x u) z
port_one true p x o u z h = port_step (same_name p.name.text x) (range_width p.range) (port_declaration p) o u z refl h
port_one false p x o u z h = port_step (same_name p.name.text x) (range_width p.range) (port_declaration p) o u z refl h

ports_width : (ports : List PortDecl) (rest : List Declaration) (x : List ℕ) (z : ℕ) → or_else (maybe_width (declaration_of rest x)) 0 ≡ z
    → or_else (maybe_width (declaration_of (declared_ports ports rest) x)) 0 ≡ or_else (look port_width (plain_ports ports) x) z
ports_width [] rest x z h = h
ports_width (p ∷ ps) rest x z h =
    port_one p.input p x (declaration_of (declared_ports ps rest) x) (look port_width (plain_ports ps) x) z (ports_width ps rest x z h)

pub width_same : (ports : List PortDecl) (items : List tree.Item) (x : List ℕ)
    → width_among (declared_ports ports (declared_items items)) x ≡ width_in (record { ports = plain_ports ports; items = plain_items items }) x
width_same ports items x =
    width_of_maybe (declaration_of (declared_ports ports (declared_items items)) x)
    ∙ ports_width ports (declared_items items) x _ (ap (λ o. or_else o 0) (items_width items x))

-- ---- sources

-- what two findings of one name say
finds_same : (found : Option Declaration) (a b : Declaration) → found ≡ Some a → found ≡ Some b → a ≡ b
finds_same found a b h k = some_same a b (sym h ∙ k)
  where
    some_same : (a b : Declaration) → ◌≡◌ {A = Option Declaration} (Some a) (Some b) → a ≡ b
    some_same a b h = cc

abbrev pub input_class : Class → Bool
input_class class.Input = true
input_class class.Output = false
input_class (class.Wired inline) = false
input_class class.Register = false
input_class (class.Array cells) = false

module _ (ds : List Declaration) where
  D : List ℕ → Option Declaration
  D = declaration_of ds

  -- no input port has the name of what is no input
  no_input : (b : Bool) (p : PortDecl) (x : List ℕ) (u : Option Source) → p.input ≡ b → declaration_of ds p.name.text ≡ Some (port_declaration p) → (Has input_class (declaration_of ds x) → ⊥)
      → u ≡ None → pick (port_source (plain_port b (range_width p.range) p.name.text)) x u ≡ None
  no_input false p x u e f n h = h
  no_input true p x u e f n h = split (same_name p.name.text x) refl
    where
      split : (c : Bool) → same_name p.name.text x ≡ c → pick_if c Outside u ≡ None
      split false q = h
      split true q = absurd (n (subst (λ y. Has input_class (declaration_of ds y)) (same_text p.name.text x (sym q)) (subst (Has input_class) (sym f) (subst (λ i. input_class (port_class i) ≡ true) (sym e) refl))))

  pub no_port : (ports : List PortDecl) (rest : List Declaration) (x : List ℕ) → AllFind (declaration_of ds) by_name (declared_ports ports rest) → (Has input_class (declaration_of ds x) → ⊥)
      → look port_source (plain_ports ports) x ≡ None
  no_port [] rest x f n = refl
  no_port (p ∷ ps) rest x f n = no_input p.input p x (look port_source (plain_ports ps) x) refl f.0 n (no_port ps rest x f.1 n)

  -- the source of what an item drives
  abbrev pub maybe_driven : Option Expr → Option Source
  maybe_driven None = None
  maybe_driven (Some e) = Some (Driven e)

  picked_driven : (b : Bool) (e : Expr) (o : Option Expr) → pick_if b (Driven e) (maybe_driven o) ≡ maybe_driven (pick_if b e o)
  picked_driven true e o = refl
  picked_driven false e o = refl

  -- a register's name is no wire's
  skip_register : (name x : List ℕ) (d : Declaration) (u v : Option Source) → declaration_of ds name ≡ Some d → is_register d.class ≡ true → Has wire_class (declaration_of ds x) → u ≡ v
      → pick_if (same_name name x) Held u ≡ v
  skip_register name x d u v f r w h = split (same_name name x) refl
    where
      split : (c : Bool) → same_name name x ≡ c → pick_if c Held u ≡ v
      split false q = h
      split true q = absurd (has_not is_register wire_class register_no_wire (declaration_of ds x)
          (subst (λ y. Has is_register (declaration_of ds y)) (same_text name x (sym q)) (subst (Has is_register) (sym f) r)) w)

  pub drive_source : (items : List tree.Item) (x : List ℕ) → AllFind (declaration_of ds) by_name (declared_items items) → Has wire_class (declaration_of ds x)
      → look item_source (plain_items items) x ≡ maybe_driven (look drive_of (plain_items items) x)
  drive_source [] x f w = refl
  drive_source (Wire at range name None ∷ is) x f w = drive_source is x f.1 w
  drive_source (Wire at range name (Some d) ∷ is) x f w =
      ap (pick_if (same_name name.text x) (Driven (plain d.value))) (drive_source is x f.1 w) ∙ picked_driven (same_name name.text x) (plain d.value) (look drive_of (plain_items is) x)
  drive_source (Reg at range name None ∷ is) x f w = skip_register name.text x _ (look item_source (plain_items is) x) _ f.0 refl w (drive_source is x f.1 w)
  drive_source (Reg at range name (Some cells) ∷ is) x f w = drive_source is x f.1 w
  drive_source (Assign at t d ∷ is) x f w =
      ap (pick_if (same_name t.text x) (Driven (plain d.value))) (drive_source is x f w) ∙ picked_driven (same_name t.text x) (plain d.value) (look drive_of (plain_items is) x)
  drive_source (Always at (stmt.Next t d) ∷ is) x f w = drive_source is x f w
  drive_source (Always at (stmt.Reset at' first s start t d) ∷ is) x f w = drive_source is x f w
  drive_source (Always at (stmt.Write at' p e t b i d) ∷ is) x f w = drive_source is x f w

  -- a wire's name is no register's
  skip_wire : (name x : List ℕ) (e : Expr) (u v : Option Source) → Has wire_class (declaration_of ds name) → Has is_register (declaration_of ds x) → u ≡ v
      → pick_if (same_name name x) (Driven e) u ≡ v
  skip_wire name x e u v w r h = split (same_name name x) refl
    where
      split : (c : Bool) → same_name name x ≡ c → pick_if c (Driven e) u ≡ v
      split false q = h
      split true q = absurd (has_not is_register wire_class register_no_wire (declaration_of ds x) r (subst (λ y. Has wire_class (declaration_of ds y)) (same_text name x (sym q)) w))

  held_here : (name x : List ℕ) (u : Option Source) (among : Bool) → (among ≡ true → u ≡ Some Held) → (same_name name x || among) ≡ true → pick_if (same_name name x) Held u ≡ Some Held
  held_here name x u among h q = split (same_name name x) q
    where
      split : (c : Bool) → (c || among) ≡ true → pick_if c Held u ≡ Some Held
      split true q = refl
      split false q = h q

  -- the source of a register
  pub held_source : (items : List tree.Item) (x : List ℕ) → AreFineItems ds items → Has is_register (declaration_of ds x) → is_among x (register_names (plain_items items)) ≡ true
      → look item_source (plain_items items) x ≡ Some Held
  held_source [] x f r q = absurd cc
  held_source (Wire at range name None ∷ is) x f r q = held_source is x f.1 r q
  held_source (Wire at range name (Some d) ∷ is) x f r q = skip_wire name.text x (plain d.value) (look item_source (plain_items is) x) (Some Held) f.0.1.1 r (held_source is x f.1 r q)
  held_source (Reg at range name None ∷ is) x f r q = held_here name.text x (look item_source (plain_items is) x) (is_among x (register_names (plain_items is))) (held_source is x f.1 r) q
  held_source (Reg at range name (Some cells) ∷ is) x f r q = held_source is x f.1 r q
  held_source (Assign at t d ∷ is) x f r q = skip_wire t.text x (plain d.value) (look item_source (plain_items is) x) (Some Held) f.0.1.1 r (held_source is x f.1 r q)
  held_source (Always at (stmt.Next t d) ∷ is) x f r q = held_source is x f.1 r q
  held_source (Always at (stmt.Reset at' first s start t d) ∷ is) x f r q = held_source is x f.1 r q
  held_source (Always at (stmt.Write at' p e t b i d) ∷ is) x f r q = held_source is x f.1 r q

  -- the source of an input port
  input_one : (b : Bool) (p : PortDecl) (x : List ℕ) (u : Option Source) → (same_name p.name.text x ≡ true → b ≡ true) → (same_name p.name.text x ≡ false → u ≡ Some Outside)
      → pick (port_source (plain_port b (range_width p.range) p.name.text)) x u ≡ Some Outside
  input_one true p x u h k = split (same_name p.name.text x) refl
    where
      split : (c : Bool) → same_name p.name.text x ≡ c → pick_if c Outside u ≡ Some Outside
      split true q = refl
      split false q = k q
  input_one false p x u h k = split (same_name p.name.text x) refl
    where
      split : (c : Bool) → same_name p.name.text x ≡ c → u ≡ Some Outside
      split true q = absurd (let e = h q in cc)
      split false q = k q

  abbrev pub names_in : List PortDecl → List (List ℕ)
  names_in [] = []
  names_in (p ∷ ps) = p.name.text ∷ names_in ps

  class_input : (b : Bool) → input_class (port_class b) ≡ true → b ≡ true
  class_input true h = refl
  class_input false h = cc

  or_rest : (a b : Bool) → (a || b) ≡ true → a ≡ false → b ≡ true
  or_rest true b h k = cc
  or_rest false b h k = h

  pub input_source : (ports : List PortDecl) (rest : List Declaration) (x : List ℕ) → AllFind (declaration_of ds) by_name (declared_ports ports rest) → Has input_class (declaration_of ds x)
      → is_among x (names_in ports) ≡ true → look port_source (plain_ports ports) x ≡ Some Outside
  input_source [] rest x f i q = absurd cc
  input_source (p ∷ ps) rest x f i q =
      input_one p.input p x (look port_source (plain_ports ps) x)
      (λ e. class_input p.input (subst (Has input_class) (ap (declaration_of ds) (sym (same_text p.name.text x (sym e))) ∙ f.0) i))
      (λ e. input_source ps rest x f.1 i (or_rest (same_name p.name.text x) (is_among x (names_in ps)) q e))
