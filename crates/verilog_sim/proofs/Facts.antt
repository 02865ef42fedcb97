-- What the parts of the simulator ask of a checked tree.
use Rattle.std.proofs.Common.{◌≡◌, ℕ, suc, ◌^◌, ◌<◌, ◌≤◌, Bool, true, false, not, eqb, ◌&&◌, ◌||◌, All, List, [], ◌∷◌, Option, Some, None, length, map, codes, refl, ap, sym, subst, inl, inr, ◌⊎◌}
use Rattle.std.specs.Cmp.Lexicographic.{same_text}
use Rattle.core_words.specs.Names.{same_name}
use Rattle.verilog_tree.specs.declared.tree.PortDecl.{PortDecl}
use Rattle.verilog_tree.specs.declared.tree.Item as tree
use Rattle.verilog_mean.specs.declared.checked.Checked.{Checked}
use Rattle.verilog_mean.specs.declared.class.Class.{Class}
use Rattle.verilog_mean.specs.declared.class.Class.TheVariants as class
use Rattle.verilog_mean.specs.declared.refusal.MeanRefusal.TheVariants.{NameUnknown}
use Rattle.verilog_mean.specs.Checked.{IsChecked}
use Rattle.verilog_mean.specs.Plain.{Expr, Plain}
use Rattle.verilog_mean.specs.Cycle.{State, source_of, value, width_in, reset_name, item_source}
use Rattle.verilog_mean.specs.Cycle.Source.{Nowhere, Outside, Driven}
use Rattle.verilog_mean.specs.Look.{look, or_else}
use Rattle.verilog_mean.specs.Erase.{plain_items, plain_ports, plain_tree, range_width}
use Rattle.verilog_mean.specs.Declarations.{Declaration, by_name, declaration_of, declarations, declared_items, declared_ports, port_class, port_declaration, width_among}
use Rattle.verilog_mean.specs.Names.{is_among, is_bit_input, port_names, unknown_in_items}
use Rattle.verilog_mean.specs.Order.{IsRanked}
use Rattle.verilog_flat.specs.declared.node.Node.{Node}
use Rattle.verilog_resolve.specs.declared.driver.WireDriver.{WireDriver}
use Rattle.verilog_resolve.specs.declared.names.Place.{Place}
use Rattle.verilog_resolve.specs.declared.names.Place.TheVariants.{Absent}
use Rattle.verilog_resolve.specs.Means.{Matches}
use Rattle.verilog_resolve.specs.Wires.{AllMatch, AreDriven, AreOrdered, with_nets}
use Rattle.verilog_sim.specs.Layouts.{input_names}
use Rattle.verilog_sim.specs.Rooms.{cell_count}
use Rattle.verilog_sim.specs.Bindings.{AreNarrowPorts, AreSized, BindsItems, BindsPorts, with_items, with_ports}
use Rattle.verilog_sim.specs.Drives.{drive, drives_by}
use Rattle.verilog_sim.specs.Targets.{declared_place, target}
use Rattle.verilog_sim.specs.Matched.{IsPlace, Knows, MatchesAll}
use Rattle.verilog_sim.proofs.Once.{AllFind}
use Rattle.verilog_sim.proofs.Sound.{each_declared, narrow_among, put_empty, not_false, and_second}
use Rattle.verilog_sim.proofs.Items.{Has, AreFineItems, fine_items, ports_declared, wire_class}
use Rattle.verilog_sim.proofs.Sources.{input_class, input_source, names_in, width_same}
use Rattle.verilog_sim.proofs.Driving.{each_drives, wire_driven}
use Rattle.verilog_sim.proofs.Orders.{base_class, drivers_driven, drivers_known, drivers_ordered}
use Rattle.verilog_sim.proofs.Bases.{are_held, are_inputs, base_known, narrow_ports, sized_items}

length_items : (is : List tree.Item) → length (plain_items is) ≡ length is
length_items [] = refl
length_items (i ∷ is) = ap suc (length_items is)

class_either : (c : Class) → (base_class c ≡ true) ⊎ (wire_class c ≡ true)
class_either class.Input = inl refl
class_either class.Output = inr refl
class_either (class.Wired inline) = inr refl
class_either class.Register = inl refl
class_either (class.Array cells) = inl refl

either_of : (o : Option Declaration) → IsPlace (declared_place o) → Has base_class o ⊎ Has wire_class o
either_of None h = absurd h
either_of (Some d) h = class_either d.class

or_right : (a b : Bool) → b ≡ true → (a || b) ≡ true
or_right true b h = refl
or_right false b h = h

module _ (c : Checked) (h : IsChecked c) where
  abbrev ds : List Declaration
  ds = declarations c.tree

  abbrev m : Plain
  m = plain_tree c.tree

  pub found : AllFind (declaration_of ds) by_name (declared_ports c.tree.ports (declared_items c.tree.items))
  found = each_declared ds h.sound.names_once

  pub found_items : AllFind (declaration_of ds) by_name (declared_items c.tree.items)
  found_items = (ports_declared ds c.tree.ports (declared_items c.tree.items) found).1

  pub narrow : (x : List ℕ) → width_among ds x ≤ 64
  narrow = narrow_among ds h.sound.sizes

  pub fine : AreFineItems ds c.tree.items
  fine =
      fine_items ds narrow (port_names c.tree.ports) (ports_declared ds c.tree.ports (declared_items c.tree.items) found).0 c.tree.items found_items
      (put_empty (not (is_bit_input c.tree.ports (codes "clk") && is_bit_input c.tree.ports (codes "reset"))) (NameUnknown c.tree.name.at) (unknown_in_items (port_names c.tree.ports) c.tree.items) h.sound.names_known).1
      h.sound.kinds h.sound.selects h.sound.widths h.bounded.written

  pub wide : ◌≡◌ {A = List ℕ → ℕ} (width_among ds) (width_in m)
  wide = λ i x. width_same c.tree.ports c.tree.items x i

  -- ---- binding

  pub inputs_narrow : AreNarrowPorts (plain_ports c.tree.ports)
  inputs_narrow = narrow_ports c.tree.ports c.tree.items found found_items fine narrow c.tree.ports found

  pub held_sized : cell_count (plain_items c.tree.items) < 2 ^ 32 → AreSized (plain_items c.tree.items)
  held_sized l = sized_items c.tree.ports c.tree.items found found_items fine narrow c.tree.items found_items l

  pub order_within : All (λ n. n < length c.tree.items) c.order.items
  order_within = subst (λ k. All (λ n. n < k) c.order.items) (length_items c.tree.items) h.ordered.within

  driven : (x : List ℕ) → Has wire_class (declaration_of ds x) → (e : Expr) × (source_of m x ≡ Driven e)
  driven = wire_driven c.tree.ports c.tree.items found found_items fine h.sound.driven

  abbrev K : (List ℕ → Place) → List ℕ → Place
  K k = with_items (with_ports k (plain_ports c.tree.ports)) (plain_items c.tree.items)

  base : (k : List ℕ → Place) (y : List ℕ) → Has base_class (declaration_of ds y) → K k y ≡ target ds y
  base k y b = base_known ds c.tree.ports c.tree.items found found_items k y b

  pub order_fine : (k : List ℕ → Place) (all : List WireDriver) → map drive all ≡ drives_by m.items c.order.items → AreOrdered (K k) all
  order_fine k all e = drivers_ordered ds m (each_drives c.tree.ports c.tree.items found found_items fine h.sound.drivers_once) driven (K k) c.order.items all e (base k) h.ordered.ready

  pub knows_after : (k : List ℕ → Place) (all : List WireDriver) → map drive all ≡ drives_by m.items c.order.items → Knows c.tree (with_nets (K k) all)
  knows_after k all e y p =
      drivers_known ds m (each_drives c.tree.ports c.tree.items found found_items fine h.sound.drivers_once) driven (K k) c.order.items all e (base k) h.ordered.ready h.ordered.complete y (either_of (declaration_of ds y) p)

  are_driven : (all : List WireDriver) → map drive all ≡ drives_by m.items c.order.items → AreDriven m all
  are_driven all e = drivers_driven ds m (each_drives c.tree.ports c.tree.items found found_items fine h.sound.drivers_once) driven wide c.order.items all e

  no_places : (p : List ℕ → Place) (s : State) (inputs : List ℕ → ℕ) (regs cells ins : List ℕ) (ns : List Node) → ((x : List ℕ) → p x ≡ Absent) → AllMatch m s inputs regs cells ins ns p
  no_places p s inputs regs cells ins ns a x =
      subst (λ u. Matches regs cells ins (width_in m) s.cells (value m s inputs) ns x u) (sym (a x)) tt

  pub matches_after : (ns a b nodes : List Node) (p q r places : List ℕ → Place) (at reg base' : ℕ) (all : List WireDriver) → map drive all ≡ drives_by m.items c.order.items
      → ((x : List ℕ) → p x ≡ Absent) → BindsPorts (plain_ports c.tree.ports) [] at ns a p q → BindsItems (plain_items c.tree.items) [] reg base' a b q r
      → ((m : Plain) (rank : List ℕ → ℕ) → IsRanked m rank → AreDriven m all → (s : State) (ins : List ℕ → ℕ) (regs cells inputs : List ℕ)
      → AllMatch m s ins regs cells inputs b r → AllMatch m s ins regs cells inputs nodes places)
      → MatchesAll c.tree nodes places
  matches_after ns a b nodes p q r places at reg base' all e empty ports held wires s inputs regs cells shows fit =
      let ins : List ℕ = map inputs (input_names (plain_ports c.tree.ports)) in
      let x = ports m s inputs regs cells ins (are_inputs c.tree.ports c.tree.items found found_items fine narrow) (fit, refl) (no_places p s inputs regs cells ins ns empty) in
      let y = held m s inputs regs cells ins (are_held c.tree.ports c.tree.items found found_items fine narrow) (shows.0, (shows.1.0, shows.1.1)) x.1.1 in
      wires m h.ordered.rank h.ordered.ranked (are_driven all e) s inputs regs cells ins y.1.1

  -- ---- the reset

  bit_one : (p : PortDecl) (ps : List PortDecl) (x : List ℕ) (b e o : Bool) → p.input ≡ b → same_name p.name.text x ≡ e → declaration_of ds p.name.text ≡ Some (port_declaration p)
      → ((b && (e && o)) || is_bit_input ps x) ≡ true → (is_bit_input ps x ≡ true → Has input_class (declaration_of ds x) × (is_among x (names_in ds ps) ≡ true))
      → Has input_class (declaration_of ds x) × (is_among x (names_in ds (p ∷ ps)) ≡ true)
  bit_one p ps x true true o i n f q more = (
    subst (λ y. Has input_class (declaration_of ds y)) (same_text p.name.text x (sym n)) (subst (Has input_class) (sym f) (ap (λ b. input_class (port_class b)) i)),
    ap (λ b. b || is_among x (names_in ds ps)) n,
  )
  bit_one p ps x true false o i n f q more = let z = more q in (z.0, or_right (same_name p.name.text x) (is_among x (names_in ds ps)) z.1)
  bit_one p ps x false e o i n f q more = let z = more q in (z.0, or_right (same_name p.name.text x) (is_among x (names_in ds ps)) z.1)

  bit_input : (ps : List PortDecl) (rest : List Declaration) (x : List ℕ) → AllFind (declaration_of ds) by_name (declared_ports ps rest) → is_bit_input ps x ≡ true
      → Has input_class (declaration_of ds x) × (is_among x (names_in ds ps) ≡ true)
  bit_input [] rest x f q = absurd cc
  bit_input (p ∷ ps) rest x f q = bit_one p ps x p.input (same_name p.name.text x) (eqb (range_width p.range) 1) refl refl f.0 q (bit_input ps rest x f.1)

  reset_given : is_bit_input c.tree.ports (codes "reset") ≡ true
  reset_given =
      let a = is_bit_input c.tree.ports (codes "clk") in let b = is_bit_input c.tree.ports (codes "reset") in
      and_second a b (not_false (a && b) (put_empty (not (a && b)) (NameUnknown c.tree.name.at) (unknown_in_items (port_names c.tree.ports) c.tree.items) h.sound.names_known).0)

  pub reset_input : Has input_class (declaration_of ds reset_name)
  reset_input = (bit_input c.tree.ports (declared_items c.tree.items) reset_name found reset_given).0

  pub reset_source : source_of m reset_name ≡ Outside
  reset_source =
      let r = bit_input c.tree.ports (declared_items c.tree.items) reset_name found reset_given in
      ap (λ o. or_else o (or_else (look item_source (plain_items c.tree.items) reset_name) Nowhere)) (input_source ds c.tree.ports (declared_items c.tree.items) reset_name found r.0 r.1)
