-- What the tree of a module gives to the name of each thing.
use Rattle.std.proofs.Common.{◌≡◌, ℕ, zero, suc, ◌<◌, Bool, true, false, eqb, List, [], ◌∷◌, Option, Some, None, get_or, length, refl, ap, ◌∙◌, arith}
use Rattle.std.proofs.lemmas.Bool.Decides.{nat_tests}
use Rattle.core_words.specs.Names.{same_name}
use Rattle.core_ports.specs.Ports.{CorePort, all_ports, name_of, is_input, width_of}
use Rattle.core_ports.specs.Ports.CorePort.{clk}
use Rattle.hw_pool.specs.declared.node.Node.{Node}
use Rattle.hw_pool.specs.Nodes.{node_at}
use Rattle.hw_expr.specs.declared.net.Net as net
use Rattle.hw_module.specs.declared.rows.ArrayWrite.{ArrayWrite}
use Rattle.hw_module.specs.Ports.{port_at}
use Rattle.hw_module.specs.Rows.{ModuleValue, wire_at, reg_at, array_at, out_at}
use Rattle.verilog_mean.specs.Look.{pick, pick_if, look, or_else}
use Rattle.verilog_mean.specs.Plain.{Expr, Plain}
use Rattle.verilog_mean.specs.Plain.Expr.{Named}
use Rattle.verilog_mean.specs.Cycle.{Source, Clocked, Writing, width_in, item_width, port_width, item_source, port_source, source_of, item_clocked, clocked_of, item_writing, writing_of}
use Rattle.verilog_mean.specs.Cycle.Source.{Nowhere, Outside, Held, Driven}
use Rattle.verilog_mean.specs.Cycle.Clocked.{Stays, Takes, Restarts}
use Rattle.verilog_mean.specs.Cycle.Writing.{Keeps, Puts}
use Rattle.verilog_netlist.specs.Netlist.{Value, Line}
use Rattle.verilog_netlist.specs.Netlist.Line.{Net}
use Rattle.verilog_netlist.specs.Meaning.{value_expr, line_item, port_of, ports_of, plain_of}
use Rattle.module_netlist.specs.Names.{Thing, ThingIn, name_in, same_thing, node_name, wire_name, reg_name, array_name, port_name}
use Rattle.module_netlist.specs.Names.Thing.{NodeAt, WireAt, RegAt, ArrayAt, PortAt}
use Rattle.module_netlist.specs.Lines.{assigned, clocked, written, line_if, node_value, wire_line, reg_line, array_line, drive_line, next_line, write_line, out_line, node_line, from_outs, from_writes, from_nexts, from_drives, from_nodes, from_arrays, from_regs, module_lines, ports_from, netlist_of}
use Rattle.module_netlist.proofs.Looks.{given, Misses, Gives, look_lines, skip, hit}

-- two things of a module have the same name where they are the same
abbrev pub IsNaming : ModuleValue → List Node → Type 0
IsNaming m nodes = (a b : Thing) → ThingIn m nodes a → ThingIn m nodes b → same_name (name_in m a) (name_in m b) ≡ same_thing a b

-- ---- lines

abbrev line_width : Line → Option (List ℕ × ℕ)
line_width l = item_width (line_item l)

abbrev line_source : Line → Option (List ℕ × Source)
line_source l = item_source (line_item l)

abbrev line_clocked : Line → Option (List ℕ × Clocked)
line_clocked l = item_clocked (line_item l)

abbrev line_writing : Line → Option (List ℕ × Writing)
line_writing l = item_writing (line_item l)

module _ (x y : List ℕ) where
  net_width_misses : (b : Bool) (width : ℕ) (v : Value) → same_name x y ≡ false → Misses (given line_width (line_if b (Net width x v))) y
  net_width_misses true width v h = h
  net_width_misses false width v h = tt

  net_width_gives : (b : Bool) (width : ℕ) (v : Value) → b ≡ true → same_name x y ≡ true → Gives (given line_width (line_if b (Net width x v))) y width
  net_width_gives true width v e h = (h, refl)
  net_width_gives false width v e h = absurd (grind arith)

  net_source_misses : (b : Bool) (width : ℕ) (v : Value) → same_name x y ≡ false → Misses (given line_source (line_if b (Net width x v))) y
  net_source_misses true width v h = h
  net_source_misses false width v h = tt

  net_source_gives : (b : Bool) (width : ℕ) (v : Value) → b ≡ true → same_name x y ≡ true → Gives (given line_source (line_if b (Net width x v))) y (Driven (value_expr v))
  net_source_gives true width v e h = (h, refl)
  net_source_gives false width v e h = absurd (grind arith)

  net_clocked_misses : (b : Bool) (width : ℕ) (v : Value) → Misses (given line_clocked (line_if b (Net width x v))) y
  net_clocked_misses true width v = tt
  net_clocked_misses false width v = tt

  net_writing_misses : (b : Bool) (width : ℕ) (v : Value) → Misses (given line_writing (line_if b (Net width x v))) y
  net_writing_misses true width v = tt
  net_writing_misses false width v = tt

  assigned_source_misses : (o : Option net.Net) → same_name x y ≡ false → Misses (given line_source (assigned x o)) y
  assigned_source_misses None h = tt
  assigned_source_misses (Some n) h = h

  assigned_source_gives : (o : Option net.Net) (n : net.Net) → o ≡ Some n → same_name x y ≡ true
      → Gives (given line_source (assigned x o)) y (Driven (Named (node_name n.id.0)))
  assigned_source_gives None n e h = absurd (grind arith)
  assigned_source_gives (Some k) n e h = let q : k ≡ n = cc in (h, ap (λ (v : net.Net). Driven (Named (node_name v.id.0))) q)

  assigned_clocked_misses : (o : Option net.Net) → Misses (given line_clocked (assigned x o)) y
  assigned_clocked_misses None = tt
  assigned_clocked_misses (Some n) = tt

  assigned_writing_misses : (o : Option net.Net) → Misses (given line_writing (assigned x o)) y
  assigned_writing_misses None = tt
  assigned_writing_misses (Some n) = tt

  clocked_source_misses : (width : ℕ) (reset : Option ℕ) (o : Option net.Net) → Misses (given line_source (clocked x width reset o)) y
  clocked_source_misses width reset None = tt
  clocked_source_misses width None (Some n) = tt
  clocked_source_misses width (Some start) (Some n) = tt

  clocked_writing_misses : (width : ℕ) (reset : Option ℕ) (o : Option net.Net) → Misses (given line_writing (clocked x width reset o)) y
  clocked_writing_misses width reset None = tt
  clocked_writing_misses width None (Some n) = tt
  clocked_writing_misses width (Some start) (Some n) = tt

  clocked_misses : (width : ℕ) (reset : Option ℕ) (o : Option net.Net) → same_name x y ≡ false → Misses (given line_clocked (clocked x width reset o)) y
  clocked_misses width reset None h = tt
  clocked_misses width None (Some n) h = h
  clocked_misses width (Some start) (Some n) h = h

  written_source_misses : (o : Option ArrayWrite) → Misses (given line_source (written x o)) y
  written_source_misses None = tt
  written_source_misses (Some w) = tt

  written_misses : (o : Option ArrayWrite) → same_name x y ≡ false → Misses (given line_writing (written x o)) y
  written_misses None h = tt
  written_misses (Some w) h = h

  written_gives : (o : Option ArrayWrite) (w : ArrayWrite) → o ≡ Some w → same_name x y ≡ true
      → Gives (given line_writing (written x o)) y (Puts (Named (node_name w.enable.id.0)) (Named (node_name w.addr.id.0)) (Named (node_name w.value.id.0)))
  written_gives None w e h = absurd (grind arith)
  written_gives (Some v) w e h =
      let q : v ≡ w = cc in
      (h, ap (λ (u : ArrayWrite). Puts (Named (node_name u.enable.id.0)) (Named (node_name u.addr.id.0)) (Named (node_name u.value.id.0))) q)

-- how a register takes its next value
abbrev pub taking : Option ℕ → Expr → Clocked
taking None e = Takes e
taking (Some v) e = Restarts v e

module _ (x y : List ℕ) (n : net.Net) where
  clocked_gives : (width : ℕ) (reset : Option ℕ) (o : Option net.Net) → o ≡ Some n → same_name x y ≡ true
      → Gives (given line_clocked (clocked x width reset o)) y (taking reset (Named (node_name n.id.0)))
  clocked_gives width reset None e h = absurd (grind arith)
  clocked_gives width None (Some k) e h = let q : k ≡ n = cc in (h, ap (λ (v : net.Net). Takes (Named (node_name v.id.0))) q)
  clocked_gives width (Some start) (Some k) e h = let q : k ≡ n = cc in (h, ap (λ (v : net.Net). Restarts start (Named (node_name v.id.0))) q)

-- ---- ports

module _ (x : List ℕ) where
  source_step : (b : Bool) (width : ℕ) (name : List ℕ) (rest : Option Source) → (b ≡ true → same_name name x ≡ false)
      → pick (port_source (port_of b width name)) x rest ≡ rest
  source_step true width name rest h = ap (λ v. pick_if v Outside rest) (h refl)
  source_step false width name rest h = refl

  source_here : (b : Bool) (width : ℕ) (name : List ℕ) (rest : Option Source) → b ≡ true → same_name name x ≡ true
      → pick (port_source (port_of b width name)) x rest ≡ Some Outside
  source_here true width name rest e h = ap (λ v. pick_if v Outside rest) h
  source_here false width name rest e h = absurd (grind arith)

  width_step : (b : Bool) (width : ℕ) (name : List ℕ) (rest : Option ℕ) → same_name name x ≡ false
      → pick (port_width (port_of b width name)) x rest ≡ rest
  width_step true width name rest h = ap (λ v. pick_if v width rest) h
  width_step false width name rest h = ap (λ v. pick_if v width rest) h

  -- no port gives the name a width
  ports_no_width : (qs : List CorePort) → ((i : ℕ) → i < length qs → same_name (name_of (get_or qs i clk)) x ≡ false)
      → look port_width (ports_of (ports_from qs)) x ≡ None
  ports_no_width [] all = refl
  ports_no_width (q ∷ qs) all =
      width_step (is_input q) (width_of q) (name_of q) (look port_width (ports_of (ports_from qs)) x) (all 0 (omega arith))
      ∙ ports_no_width qs (λ i l. all (suc i) (omega arith))

  -- no input port has the name
  ports_no_source : (qs : List CorePort) → ((i : ℕ) → i < length qs → is_input (get_or qs i clk) ≡ true → same_name (name_of (get_or qs i clk)) x ≡ false)
      → look port_source (ports_of (ports_from qs)) x ≡ None
  ports_no_source [] all = refl
  ports_no_source (q ∷ qs) all =
      source_step (is_input q) (width_of q) (name_of q) (look port_source (ports_of (ports_from qs)) x) (all 0 (omega arith))
      ∙ ports_no_source qs (λ i l. all (suc i) (omega arith))

  -- an input port has it
  ports_source : (qs : List CorePort) (k : ℕ) → k < length qs → is_input (get_or qs k clk) ≡ true → same_name (name_of (get_or qs k clk)) x ≡ true
      → ((i : ℕ) → i < length qs → eqb i k ≡ false → same_name (name_of (get_or qs i clk)) x ≡ false)
      → look port_source (ports_of (ports_from qs)) x ≡ Some Outside
  ports_source [] k h e here others = absurd (omega arith)
  ports_source (q ∷ qs) zero h e here others =
      source_here (is_input q) (width_of q) (name_of q) (look port_source (ports_of (ports_from qs)) x) e here
  ports_source (q ∷ qs) (suc k) h e here others =
      source_step (is_input q) (width_of q) (name_of q) (look port_source (ports_of (ports_from qs)) x) (λ b. others 0 (omega arith) (grind (arith, nat_tests)))
      ∙ ports_source qs k (omega arith) e here (λ i l d. others (suc i) (omega arith) (grind (arith, nat_tests)))

-- ---- the names of things

eqb_self : (k : ℕ) → eqb k k ≡ true
eqb_self k = grind (arith, nat_tests)

pub self : (a : Thing) → same_thing a a ≡ true
self (NodeAt k) = eqb_self k
self (WireAt k) = eqb_self k
self (RegAt k) = eqb_self k
self (ArrayAt k) = eqb_self k
self (PortAt k) = eqb_self k

module _ (m : ModuleValue) (nodes : List Node) (marks : List Bool) (naming : IsNaming m nodes) where
  abbrev tree : Plain
  tree = plain_of (netlist_of m nodes marks)

  same : (a : Thing) → ThingIn m nodes a → same_name (name_in m a) (name_in m a) ≡ true
  same a h = naming a a h h ∙ self a

  items_source : (x : List ℕ) → look item_source tree.items x ≡ look line_source (module_lines m nodes marks) x
  items_source x = look_lines item_source (module_lines m nodes marks) x

  -- a thing that is no port
  no_port : (x : List ℕ) → ((i : ℕ) → i < 30 → same_name (port_name i) x ≡ false) → source_of tree x ≡ or_else (look line_source (module_lines m nodes marks) x) Nowhere
  unfolding port_at
  no_port x all =
      ap (λ v. or_else v (or_else (look item_source tree.items x) Nowhere)) (ports_no_source x all_ports (λ i l e. all i l))
      ∙ ap (λ v. or_else v Nowhere) (items_source x)

  -- a node
  pub node_width : (k : ℕ) → k < length nodes → get_or marks k false ≡ true → width_in tree (node_name k) ≡ (node_at nodes k).width
  unfolding port_at
  node_width k h marked =
      let x = node_name k in
      ap (λ v. or_else v (or_else (look item_width tree.items x) 0))
      (ports_no_width x all_ports (λ i l. naming (PortAt i) (NodeAt k) l h))
      ∙ ap (λ v. or_else v 0)
      (look_lines item_width (module_lines m nodes marks) x
      ∙ skip line_width (wire_line m) (from_regs m nodes marks) x (length m.wires) (λ i l. naming (WireAt i) (NodeAt k) l h)
      ∙ skip line_width (reg_line m) (from_arrays m nodes marks) x (length m.regs) (λ i l. naming (RegAt i) (NodeAt k) l h)
      ∙ skip line_width (array_line m) (from_nodes m nodes marks) x (length m.arrays) (λ i l. naming (ArrayAt i) (NodeAt k) l h)
      ∙ hit line_width (node_line m nodes marks) (from_drives m nodes marks) x (length nodes) k (node_at nodes k).width h
      (net_width_gives x x (get_or marks k false) (node_at nodes k).width (node_value m (node_at nodes k).width (node_at nodes k).op) marked (same (NodeAt k) h))
      (λ j l e. net_width_misses (node_name j) x (get_or marks j false) (node_at nodes j).width (node_value m (node_at nodes j).width (node_at nodes j).op) (naming (NodeAt j) (NodeAt k) l h ∙ e)))

  pub node_source : (k : ℕ) → k < length nodes → get_or marks k false ≡ true
      → source_of tree (node_name k) ≡ Driven (value_expr (node_value m (node_at nodes k).width (node_at nodes k).op))
  node_source k h marked =
      let x = node_name k in
      no_port x (λ i l. naming (PortAt i) (NodeAt k) l h)
      ∙ ap (λ v. or_else v Nowhere)
      (skip line_source (wire_line m) (from_regs m nodes marks) x (length m.wires) (λ i l. tt)
      ∙ skip line_source (reg_line m) (from_arrays m nodes marks) x (length m.regs) (λ i l. naming (RegAt i) (NodeAt k) l h)
      ∙ skip line_source (array_line m) (from_nodes m nodes marks) x (length m.arrays) (λ i l. tt)
      ∙ hit line_source (node_line m nodes marks) (from_drives m nodes marks) x (length nodes) k (Driven (value_expr (node_value m (node_at nodes k).width (node_at nodes k).op))) h
      (net_source_gives x x (get_or marks k false) (node_at nodes k).width (node_value m (node_at nodes k).width (node_at nodes k).op) marked (same (NodeAt k) h))
      (λ j l e. net_source_misses (node_name j) x (get_or marks j false) (node_at nodes j).width (node_value m (node_at nodes j).width (node_at nodes j).op) (naming (NodeAt j) (NodeAt k) l h ∙ e)))

  -- a forward wire
  pub wire_source : (k : ℕ) (n : net.Net) → k < length m.wires → (wire_at m.wires k).driver ≡ Some n
      → source_of tree (wire_name m k) ≡ Driven (Named (node_name n.id.0))
  wire_source k n h driver =
      let x = wire_name m k in
      no_port x (λ i l. naming (PortAt i) (WireAt k) l h)
      ∙ ap (λ v. or_else v Nowhere)
      (skip line_source (wire_line m) (from_regs m nodes marks) x (length m.wires) (λ i l. tt)
      ∙ skip line_source (reg_line m) (from_arrays m nodes marks) x (length m.regs) (λ i l. naming (RegAt i) (WireAt k) l h)
      ∙ skip line_source (array_line m) (from_nodes m nodes marks) x (length m.arrays) (λ i l. tt)
      ∙ skip line_source (node_line m nodes marks) (from_drives m nodes marks) x (length nodes)
      (λ i l. net_source_misses (node_name i) x (get_or marks i false) (node_at nodes i).width (node_value m (node_at nodes i).width (node_at nodes i).op) (naming (NodeAt i) (WireAt k) l h))
      ∙ hit line_source (drive_line m) (from_nexts m nodes marks) x (length m.wires) k (Driven (Named (node_name n.id.0))) h
      (assigned_source_gives x x (wire_at m.wires k).driver n driver (same (WireAt k) h))
      (λ j l e. assigned_source_misses (wire_name m j) x (wire_at m.wires j).driver (naming (WireAt j) (WireAt k) l h ∙ e)))

  -- a register
  pub reg_source : (k : ℕ) → k < length m.regs → source_of tree (reg_name m k) ≡ Held
  reg_source k h =
      let x = reg_name m k in
      no_port x (λ i l. naming (PortAt i) (RegAt k) l h)
      ∙ ap (λ v. or_else v Nowhere)
      (skip line_source (wire_line m) (from_regs m nodes marks) x (length m.wires) (λ i l. tt)
      ∙ hit line_source (reg_line m) (from_arrays m nodes marks) x (length m.regs) k Held h (same (RegAt k) h, refl)
      (λ j l e. naming (RegAt j) (RegAt k) l h ∙ e))

  pub reg_clocked : (k : ℕ) (n : net.Net) → k < length m.regs → (reg_at m.regs k).next ≡ Some n
      → clocked_of tree (reg_name m k) ≡ taking (reg_at m.regs k).reset (Named (node_name n.id.0))
  reg_clocked k n h next =
      let x = reg_name m k in
      ap (λ v. or_else v Stays)
      (look_lines item_clocked (module_lines m nodes marks) x
      ∙ skip line_clocked (wire_line m) (from_regs m nodes marks) x (length m.wires) (λ i l. tt)
      ∙ skip line_clocked (reg_line m) (from_arrays m nodes marks) x (length m.regs) (λ i l. tt)
      ∙ skip line_clocked (array_line m) (from_nodes m nodes marks) x (length m.arrays) (λ i l. tt)
      ∙ skip line_clocked (node_line m nodes marks) (from_drives m nodes marks) x (length nodes)
      (λ i l. net_clocked_misses (node_name i) x (get_or marks i false) (node_at nodes i).width (node_value m (node_at nodes i).width (node_at nodes i).op))
      ∙ skip line_clocked (drive_line m) (from_nexts m nodes marks) x (length m.wires) (λ i l. assigned_clocked_misses (wire_name m i) x (wire_at m.wires i).driver)
      ∙ hit line_clocked (next_line m) (from_writes m nodes marks) x (length m.regs) k (taking (reg_at m.regs k).reset (Named (node_name n.id.0))) h
      (clocked_gives x x n (reg_at m.regs k).width (reg_at m.regs k).reset (reg_at m.regs k).next next (same (RegAt k) h))
      (λ j l e. clocked_misses (reg_name m j) x (reg_at m.regs j).width (reg_at m.regs j).reset (reg_at m.regs j).next (naming (RegAt j) (RegAt k) l h ∙ e)))

  -- an array
  pub array_writing : (k : ℕ) (w : ArrayWrite) → k < length m.arrays → (array_at m.arrays k).write ≡ Some w
      → writing_of tree (array_name m k) ≡ Puts (Named (node_name w.enable.id.0)) (Named (node_name w.addr.id.0)) (Named (node_name w.value.id.0))
  array_writing k w h write =
      let x = array_name m k in
      ap (λ v. or_else v Keeps)
      (look_lines item_writing (module_lines m nodes marks) x
      ∙ skip line_writing (wire_line m) (from_regs m nodes marks) x (length m.wires) (λ i l. tt)
      ∙ skip line_writing (reg_line m) (from_arrays m nodes marks) x (length m.regs) (λ i l. tt)
      ∙ skip line_writing (array_line m) (from_nodes m nodes marks) x (length m.arrays) (λ i l. tt)
      ∙ skip line_writing (node_line m nodes marks) (from_drives m nodes marks) x (length nodes)
      (λ i l. net_writing_misses (node_name i) x (get_or marks i false) (node_at nodes i).width (node_value m (node_at nodes i).width (node_at nodes i).op))
      ∙ skip line_writing (drive_line m) (from_nexts m nodes marks) x (length m.wires) (λ i l. assigned_writing_misses (wire_name m i) x (wire_at m.wires i).driver)
      ∙ skip line_writing (next_line m) (from_writes m nodes marks) x (length m.regs)
      (λ i l. clocked_writing_misses (reg_name m i) x (reg_at m.regs i).width (reg_at m.regs i).reset (reg_at m.regs i).next)
      ∙ hit line_writing (write_line m) (from_outs m nodes marks) x (length m.arrays) k (Puts (Named (node_name w.enable.id.0)) (Named (node_name w.addr.id.0)) (Named (node_name w.value.id.0))) h
      (written_gives x x (array_at m.arrays k).write w write (same (ArrayAt k) h))
      (λ j l e. written_misses (array_name m j) x (array_at m.arrays j).write (naming (ArrayAt j) (ArrayAt k) l h ∙ e)))

  -- a port
  pub input_source : (p : ℕ) → p < 30 → is_input (port_at p) ≡ true → source_of tree (port_name p) ≡ Outside
  unfolding port_at
  input_source p h input =
      let x = port_name p in
      ap (λ v. or_else v (or_else (look item_source tree.items x) Nowhere))
      (ports_source x all_ports p h input (same (PortAt p) h) (λ i l e. naming (PortAt i) (PortAt p) l h ∙ e))

  -- an output is no input
  other_port : (p : ℕ) → p < 30 → is_input (port_at p) ≡ false → (i : ℕ) → i < 30 → is_input (port_at i) ≡ true → (b : Bool) → eqb i p ≡ b
      → same_name (port_name i) (port_name p) ≡ false
  other_port p h output i l e false d = naming (PortAt i) (PortAt p) l h ∙ d
  other_port p h output i l e true d =
      let q : i ≡ p = grind (arith, nat_tests) in
      let r : is_input (port_at i) ≡ is_input (port_at p) = ap (λ v. is_input (port_at v)) q in
      absurd (let c : true ≡ false = cc in cc)

  no_input : (p : ℕ) → p < 30 → is_input (port_at p) ≡ false
      → source_of tree (port_name p) ≡ or_else (look line_source (module_lines m nodes marks) (port_name p)) Nowhere
  unfolding port_at
  no_input p h output =
      let x = port_name p in
      ap (λ v. or_else v (or_else (look item_source tree.items x) Nowhere)) (ports_no_source x all_ports (λ i l e. other_port p h output i l e (eqb i p) refl))
      ∙ ap (λ v. or_else v Nowhere) (items_source x)

  pub output_source : (p : ℕ) (n : net.Net) → p < 30 → is_input (port_at p) ≡ false → out_at m.outs p ≡ Some n
      → source_of tree (port_name p) ≡ Driven (Named (node_name n.id.0))
  output_source p n h output driver =
      let x = port_name p in
      no_input p h output
      ∙ ap (λ v. or_else v Nowhere)
      (skip line_source (wire_line m) (from_regs m nodes marks) x (length m.wires) (λ i l. tt)
      ∙ skip line_source (reg_line m) (from_arrays m nodes marks) x (length m.regs) (λ i l. naming (RegAt i) (PortAt p) l h)
      ∙ skip line_source (array_line m) (from_nodes m nodes marks) x (length m.arrays) (λ i l. tt)
      ∙ skip line_source (node_line m nodes marks) (from_drives m nodes marks) x (length nodes)
      (λ i l. net_source_misses (node_name i) x (get_or marks i false) (node_at nodes i).width (node_value m (node_at nodes i).width (node_at nodes i).op) (naming (NodeAt i) (PortAt p) l h))
      ∙ skip line_source (drive_line m) (from_nexts m nodes marks) x (length m.wires) (λ i l. assigned_source_misses (wire_name m i) x (wire_at m.wires i).driver (naming (WireAt i) (PortAt p) l h))
      ∙ skip line_source (next_line m) (from_writes m nodes marks) x (length m.regs)
      (λ i l. clocked_source_misses (reg_name m i) x (reg_at m.regs i).width (reg_at m.regs i).reset (reg_at m.regs i).next)
      ∙ skip line_source (write_line m) (from_outs m nodes marks) x (length m.arrays) (λ i l. written_source_misses (array_name m i) x (array_at m.arrays i).write)
      ∙ hit line_source (out_line m) [] x 30 p (Driven (Named (node_name n.id.0))) h
      (assigned_source_gives x x (out_at m.outs p) n driver (same (PortAt p) h))
      (λ j l e. assigned_source_misses (port_name j) x (out_at m.outs j) (naming (PortAt j) (PortAt p) l h ∙ e)))
