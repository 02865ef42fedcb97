-- The circuit of a checked tree is its module's.
use Rattle.std.proofs.Common.{◌≡◌, ℕ, ◌^◌, ◌<◌, ◌≤◌, Bool, true, false, List, [], ◌∷◌, Option, Some, None, length, get_or, map, refl, ap, sym, ◌∙◌, subst, arith}
use Rattle.std.proofs.lemmas.List.{append-nil}
use Rattle.verilog_tree.specs.declared.tree.PortDecl.{PortDecl}
use Rattle.verilog_tree.specs.declared.tree.Stmt.{Stmt}
use Rattle.verilog_tree.specs.declared.tree.Stmt.TheVariants as stmt
use Rattle.verilog_tree.specs.declared.tree.Item as tree
use Rattle.verilog_tree.specs.declared.tree.Item.TheVariants.{Wire, Reg, Assign, Always}
use Rattle.verilog_mean.specs.declared.checked.Checked.{Checked}
use Rattle.verilog_mean.specs.declared.class.Class.{Class}
use Rattle.verilog_mean.specs.declared.class.Class.TheVariants as class
use Rattle.verilog_mean.specs.Checked.{IsChecked}
use Rattle.verilog_mean.specs.Plain.{Expr, Plain}
use Rattle.verilog_mean.specs.Plain.Expr.{Named}
use Rattle.verilog_mean.specs.Cycle.{value, next, width_in, reset_name}
use Rattle.verilog_mean.proofs.Driven.{value_outside}
use Rattle.verilog_mean.specs.Erase.{plain_items, plain_port, plain_ports, plain_tree, range_width}
use Rattle.verilog_mean.specs.Declarations.{Declaration, by_name, declaration_of, declarations, declared_items, declared_ports, declared_width, port_class}
use Rattle.verilog_mean.specs.Kinds.{is_array, is_register}
use Rattle.verilog_flat.specs.declared.node.Node.{Node}
use Rattle.verilog_flat.specs.declared.sweep.ArrayWrite.{ArrayWrite}
use Rattle.verilog_flat.specs.Flat.{values, picked, AllBelow}
use Rattle.verilog_resolve.specs.declared.names.Place.{Place}
use Rattle.verilog_resolve.specs.declared.names.Place.TheVariants.{Absent, Net, Array}
use Rattle.verilog_resolve.specs.Names.{node_of, IsNet, IsArray, IsIn}
use Rattle.verilog_resolve.specs.Fine.{IsFine}
use Rattle.verilog_resolve.specs.Means.{Matches}
use Rattle.verilog_resolve.specs.Wires.{bare}
use Rattle.verilog_resolve.proofs.Known.{known_fine}
use Rattle.verilog_sim.specs.Simulates.{AllFit, SimulatesBy, ShowsArrays}
use Rattle.verilog_sim.specs.Layouts.{input_names, layout_of, output_names, spans_from}
use Rattle.verilog_sim.specs.Stmts.{last_of}
use Rattle.verilog_sim.specs.Nexts.{HaveNext, NextsDone}
use Rattle.verilog_sim.specs.Puts.{HavePut, PutsDone}
use Rattle.verilog_sim.specs.Targets.{class_place, declared_place, target}
use Rattle.verilog_sim.specs.Matched.{IsPlace, Knows, MatchesAll}
use Rattle.verilog_sim.proofs.Once.{AllFind}
use Rattle.verilog_sim.proofs.Items.{Has}
use Rattle.verilog_sim.proofs.Sources.{input_class}
use Rattle.verilog_sim.proofs.Mentions.{fine_when, mention_net}
use Rattle.verilog_sim.proofs.StmtFacts.{next_fact, put_fact}
use Rattle.verilog_sim.proofs.Edges.{AllEdges, cells_next, have_next, have_put, regs_next, start_next}
use Rattle.verilog_sim.proofs.Done.{picked_same}
use Rattle.verilog_sim.proofs.Facts.{fine, found, found_items, reset_input, reset_source, wide}

net_place : (p : Place) → IsNet p → IsPlace p
net_place Absent h = absurd h
net_place (Net node width) h = tt
net_place (Array base size width) h = tt

array_place : (p : Place) → IsArray p → IsPlace p
array_place Absent h = absurd h
array_place (Net node width) h = tt
array_place (Array base size width) h = tt

input_net : (o : Option Declaration) → Has input_class o → IsNet (declared_place o)
input_net None h = absurd h
input_net (Some d) h = by_class d.class (range_width d.range) h
  where
    by_class : (c : Class) (w : ℕ) → input_class c ≡ true → IsNet (class_place c w)
    by_class class.Input w h = tt
    by_class class.Output w h = tt
    by_class (class.Wired inline) w h = tt
    by_class class.Register w h = tt
    by_class (class.Array cells) w h = absurd cc

-- ---- names that are nets

abbrev pub AllNet : (List ℕ → Place) → List (List ℕ) → Type 0
AllNet p [] = Unit {0}
AllNet p (x ∷ xs) = IsNet (p x) × AllNet p xs

net_value : (regs cells ins : List ℕ) (w : List ℕ → ℕ) (arrays : List ℕ → List ℕ) (val : List ℕ → ℕ) (ns : List Node) (x : List ℕ) (p : Place) → IsNet p → Matches regs cells ins w arrays val ns x p
    → (get_or (values regs cells ins ns) (node_of p) 0 ≡ val x) × (val x < 2 ^ w x)
net_value regs cells ins w arrays val ns x Absent n m = absurd n
net_value regs cells ins w arrays val ns x (Array base size width) n m = absurd n
net_value regs cells ins w arrays val ns x (Net node width) n m = (m.3, subst (λ k. val x < 2 ^ k) m.1 m.4)

pub outs_are : (regs cells ins : List ℕ) (w : List ℕ → ℕ) (arrays : List ℕ → List ℕ) (val : List ℕ → ℕ) (ns : List Node) (p : List ℕ → Place) (xs : List (List ℕ)) → AllNet p xs
    → ((x : List ℕ) → Matches regs cells ins w arrays val ns x (p x)) → picked (values regs cells ins ns) (map (λ x. node_of (p x)) xs) ≡ map val xs
outs_are regs cells ins w arrays val ns p [] n m = refl
outs_are regs cells ins w arrays val ns p (x ∷ xs) n m =
    λ i. (net_value regs cells ins w arrays val ns x (p x) n.0 (m x)).0 i ∷ outs_are regs cells ins w arrays val ns p xs n.1 m i

pub outs_fit : (m : Plain) (regs cells ins : List ℕ) (arrays : List ℕ → List ℕ) (val : List ℕ → ℕ) (ns : List Node) (p : List ℕ → Place) (xs : List (List ℕ)) → AllNet p xs
    → ((x : List ℕ) → Matches regs cells ins (width_in m) arrays val ns x (p x)) → AllFit m val xs
outs_fit m regs cells ins arrays val ns p [] n k = tt
outs_fit m regs cells ins arrays val ns p (x ∷ xs) n k =
    ((net_value regs cells ins (width_in m) arrays val ns x (p x) n.0 (k x)).1, outs_fit m regs cells ins arrays val ns p xs n.1 k)

net_below : (nodes cells : ℕ) (p : Place) → IsNet p → IsIn nodes cells p → node_of p < nodes
net_below nodes cells Absent n i = absurd n
net_below nodes cells (Array base size width) n i = absurd n
net_below nodes cells (Net node width) n i = i.0

pub outs_below : (nodes cells : ℕ) (p : List ℕ → Place) (xs : List (List ℕ)) → AllNet p xs → ((x : List ℕ) → IsIn nodes cells (p x)) → AllBelow nodes (map (λ x. node_of (p x)) xs)
outs_below nodes cells p [] n i = tt
outs_below nodes cells p (x ∷ xs) n i = (net_below nodes cells (p x) n.0 (i x), outs_below nodes cells p xs n.1 i)

pub below_more : (n m : ℕ) (ks : List ℕ) → n ≤ m → AllBelow n ks → AllBelow m ks
below_more n m [] l b = tt
below_more n m (k ∷ ks) l b = let q = b.0 in (omega (arith, q, l), below_more n m ks l b.1)

module _ (c : Checked) (h : IsChecked c) where
  abbrev ds : List Declaration
  ds = declarations c.tree

  abbrev m : Plain
  m = plain_tree c.tree

  abbrev table : List ℕ → Option Stmt
  table = last_of c.tree.items

  edges_of : (is : List tree.Item) → AllFind (declaration_of ds) by_name (declared_items is) → AllEdges ds m table (plain_items is)
  edges_of [] f = tt
  edges_of (Wire at range name d ∷ is) f = edges_of is f.1
  edges_of (Reg at range name None ∷ is) f = (
    (next_fact ds c.tree.items m refl (fine c h) h.sound.drivers_once h.sound.driven name.text (subst (Has is_register) (sym f.0) refl), ap declared_width f.0),
    edges_of is f.1,
  )
  edges_of (Reg at range name (Some cells) ∷ is) f = (
    (put_fact ds c.tree.items m refl (fine c h) h.sound.drivers_once h.sound.driven name.text (subst (Has is_array) (sym f.0) refl), ap declared_width f.0),
    edges_of is f.1,
  )
  edges_of (Assign at t d ∷ is) f = edges_of is f
  edges_of (Always at (stmt.Next t d) ∷ is) f = edges_of is f
  edges_of (Always at (stmt.Reset at' first s start t d) ∷ is) f = edges_of is f
  edges_of (Always at (stmt.Write at' p e t b i d) ∷ is) f = edges_of is f

  edges : AllEdges ds m table (plain_items c.tree.items)
  edges = edges_of c.tree.items (found_items c h)

  module _ (p : List ℕ → Place) (knows : Knows c.tree (λ x. bare (p x))) where
    fits : (e : Expr) → IsFine (target ds) e → IsFine p e
    fits e f =
        known_fine p e (fine_when (target ds) (λ x. bare (p x)) (λ y q. knows y (array_place (target ds y) q)) e
        (λ y q. knows y (net_place (target ds y) (mention_net (target ds) e y f q))) f)

    reset_net : IsNet (p reset_name)
    reset_net = fits (Named reset_name) (input_net (declaration_of ds reset_name) (reset_input c h))

    pub nexts_have : HaveNext p table (plain_items c.tree.items)
    nexts_have = have_next ds m table p fits reset_net (plain_items c.tree.items) edges

    pub puts_have : HavePut p table (plain_items c.tree.items)
    puts_have = have_put ds m table p fits reset_net (plain_items c.tree.items) edges

    port_net : (b : Bool) (w : ℕ) → IsNet (class_place (port_class b) w)
    port_net true w = tt
    port_net false w = tt

    out_one : (b : Bool) (q : PortDecl) (ps : List PortDecl) → IsNet (p q.name.text) → AllNet p (output_names (plain_ports ps))
        → AllNet p (output_names (plain_port b (range_width q.range) q.name.text ∷ plain_ports ps))
    out_one true q ps n a = a
    out_one false q ps n a = (n, a)

    outs_of : (ps : List PortDecl) (rest : List Declaration) → AllFind (declaration_of ds) by_name (declared_ports ps rest) → AllNet p (output_names (plain_ports ps))
    outs_of [] rest f = tt
    outs_of (q ∷ ps) rest f =
        out_one q.input q ps (fits (Named q.name.text) (subst IsNet (sym (ap declared_place f.0)) (port_net q.input (range_width q.range)))) (outs_of ps rest f.1)

    pub outs_nets : AllNet p (output_names (plain_ports c.tree.ports))
    outs_nets = outs_of c.tree.ports (declared_items c.tree.items) (found c h)

    pub simulated : (ns n1 n2 : List Node) (base : ℕ) (nexts : List ℕ) (writes : List ArrayWrite) → MatchesAll c.tree ns p
        → NextsDone table p (plain_items c.tree.items) [] ns n1 nexts → PutsDone table p (plain_items c.tree.items) [] base n1 n2 writes → AllBelow (length n1) nexts
        → SimulatesBy m (layout_of m) n2 nexts writes (map (λ x. node_of (p x)) (output_names (plain_ports c.tree.ports)))
    simulated ns n1 n2 base nexts writes matches done put below s inputs regs cells shows fit =
        let ins : List ℕ = map inputs (input_names (plain_ports c.tree.ports)) in
        let items = plain_items c.tree.items in
        let a = matches s inputs regs cells shows fit in
        let n = done regs cells ins (width_in m) s.cells (value m s inputs) s.regs a in
        let w = put regs cells ins (width_in m) s.cells (value m s inputs) n.0 in
        let xs = output_names (plain_ports c.tree.ports) in
        let start = start_next ds m table p fits reset_net (wide c h) s inputs regs cells ins n2 w.0 items edges shows.0 in
        let rs = picked_same (values regs cells ins n2) (values regs cells ins n1) (length n1) nexts (λ j l. (w.2 j l).1) below
        ∙ sym (append-nil (picked (values regs cells ins n1) nexts)) ∙ n.1
        ∙ regs_next ds m table p fits reset_net (wide c h) s inputs regs cells ins n2 w.0 items edges (value_outside m s inputs reset_name (reset_source c h)) in
        let cs = cells_next ds m table p fits reset_net (wide c h) s inputs regs cells ins n2 w.0 0 items cells edges shows.1.1 in (
          outs_are regs cells ins (width_in m) s.cells (value m s inputs) n2 p xs outs_nets w.0,
          outs_fit m regs cells ins s.cells (value m s inputs) n2 p xs outs_nets w.0,
          (start, (sym rs, subst (λ k. ShowsArrays (next m s inputs) k (spans_from 0 items)) (sym (w.1 cells)) cs)),
        )
