-- Eighth rule: each wire, output, register and array of a checked module's netlist has a driver.
use Rattle.std.proofs.Common.{◌≡◌, ℕ, suc, ◌<◌, Bool, true, false, not, ◌&&◌, List, [], ◌∷◌, length, get_or, Option, Some, None, refl, ap, sym, subst, ◌∙◌}
use Rattle.core_ports.specs.Ports.{all_ports, is_input}
use Rattle.verilog_mean.specs.declared.refusal.MeanRefusal.TheVariants.{DriverMissing}
use Rattle.verilog_mean.specs.Look.{put_if}
use Rattle.verilog_mean.specs.Names.{Refusals, is_among}
use Rattle.verilog_mean.specs.Drivers.{wants_driver, undriven, drivers_missing}
use Rattle.verilog_mean.specs.Declarations.{Declaration, declarations, port_class, declared_ports, declared_items}
use Rattle.verilog_netlist.specs.Netlist.{Value, Line, Port}
use Rattle.verilog_netlist.specs.Netlist.Line.{Wire, Net, Reg, Array, Assign, Next, Reset, Write}
use Rattle.verilog_netlist.specs.Places.{placed_ports, behind_port, behind_ports, behind_line, placed_lines, tree_of}
use Rattle.hw_pool.specs.declared.node.Node.{Node}
use Rattle.hw_expr.specs.declared.net.Net.{Net as Driver}
use Rattle.hw_module.specs.declared.rows.ArrayWrite.{ArrayWrite}
use Rattle.hw_module.specs.Ports.{port_at}
use Rattle.hw_module.specs.Driven.{IsDriven}
use Rattle.hw_module.specs.Rows.{ModuleValue, wire_at, reg_at, array_at, out_at}
use Rattle.module_netlist.specs.Names.{node_name, wire_name, reg_name, array_name, port_name}
use Rattle.module_netlist.specs.Lines.{assigned, clocked, written, line_if, wire_line, reg_line, array_line, node_line, drive_line, next_line, write_line, out_line, from_outs, from_writes, from_nexts, from_drives, from_nodes, from_arrays, from_regs, module_lines, ports_from, netlist_of}
use Rattle.netlist_sound.proofs.Fine.{Each}
use Rattle.netlist_sound.proofs.Infos.{port_row, ports_spread}
use Rattle.netlist_sound.proofs.Spreads.{Put, each}
use Rattle.netlist_sound.proofs.NameLists.{Names, IsIn, given_name, named_by, named_rest, named_here}
use Rattle.netlist_sound.proofs.DriversOnce.{line_target, lines_targets}

module _ (driven : Names) where
  -- what a line declares is driven
  abbrev LineDriven : Line → Type 0
  LineDriven (Wire width x) = IsIn driven x
  LineDriven (Net width x v) = IsIn driven x
  LineDriven (Reg width x) = IsIn driven x
  LineDriven (Array width x bits) = IsIn driven x
  LineDriven (Assign x s) = Unit {0}
  LineDriven (Next x s) = Unit {0}
  LineDriven (Reset x width start s) = Unit {0}
  LineDriven (Write e x i s) = Unit {0}

  abbrev PortDriven : Port → Type 0
  PortDriven q = q.input ≡ false → IsIn driven q.name

  here : (at : ℕ) (x : List ℕ) (rest : Refusals) → IsIn driven x → put_if (not (is_among x driven)) (DriverMissing at) rest ≡ rest
  here at x rest h = ap (λ b. put_if (not b) (DriverMissing at) rest) h

  lines_driven : (p : ℕ → ℕ) (k : ℕ) (ls : List Line) → Each LineDriven ls → undriven driven (declared_items (placed_lines p k ls)) ≡ []
  lines_driven p k [] h = refl
  lines_driven p k (Wire width x ∷ ls) h = here _ x _ h.0 ∙ lines_driven p (behind_line k (Wire width x)) ls h.1
  lines_driven p k (Net width x v ∷ ls) h = here _ x _ h.0 ∙ lines_driven p (behind_line k (Net width x v)) ls h.1
  lines_driven p k (Reg width x ∷ ls) h = here _ x _ h.0 ∙ lines_driven p (behind_line k (Reg width x)) ls h.1
  lines_driven p k (Array width x bits ∷ ls) h = here _ x _ h.0 ∙ lines_driven p (behind_line k (Array width x bits)) ls h.1
  lines_driven p k (Assign x s ∷ ls) h = lines_driven p (behind_line k (Assign x s)) ls h.1
  lines_driven p k (Next x s ∷ ls) h = lines_driven p (behind_line k (Next x s)) ls h.1
  lines_driven p k (Reset x width start s ∷ ls) h = lines_driven p (behind_line k (Reset x width start s)) ls h.1
  lines_driven p k (Write e x i s ∷ ls) h = lines_driven p (behind_line k (Write e x i s)) ls h.1

  port_driven : (input : Bool) (at : ℕ) (x : List ℕ) (rest : Refusals) → (input ≡ false → IsIn driven x)
      → put_if (wants_driver (port_class input) && not (is_among x driven)) (DriverMissing at) rest ≡ rest
  port_driven true at x rest h = refl
  port_driven false at x rest h = here at x rest (h refl)

  ports_driven : (p : ℕ → ℕ) (k : ℕ) (qs : List Port) (rest : List Declaration) → Each PortDriven qs → undriven driven (declared_ports (placed_ports p k qs) rest) ≡ undriven driven rest
  ports_driven p k [] rest h = refl
  ports_driven p k (q ∷ qs) rest h = port_driven q.input _ q.name _ h.0 ∙ ports_driven p (suc (behind_port k q)) qs rest h.1

  marked_driven : (b : Bool) (l : Line) → (b ≡ true → LineDriven l) → Put LineDriven (line_if b l)
  marked_driven true l h = h refl
  marked_driven false l h = tt

  assigned_driven : (x : List ℕ) (o : Option Driver) → Put LineDriven (assigned x o)
  assigned_driven x None = tt
  assigned_driven x (Some net) = tt

  clocked_driven : (x : List ℕ) (width : ℕ) (start : Option ℕ) (o : Option Driver) → Put LineDriven (clocked x width start o)
  clocked_driven x width start None = tt
  clocked_driven x width None (Some net) = tt
  clocked_driven x width (Some v) (Some net) = tt

  written_driven : (x : List ℕ) (o : Option ArrayWrite) → Put LineDriven (written x o)
  written_driven x None = tt
  written_driven x (Some w) = tt

-- what has a driver is driven by its line
assigned_by : (x : List ℕ) (o : Option Driver) → (o ≡ None → ⊥) → given_name line_target (assigned x o) ≡ Some x
assigned_by x None h = absurd (h refl)
assigned_by x (Some net) h = refl

clocked_by : (x : List ℕ) (width : ℕ) (start : Option ℕ) (o : Option Driver) → (o ≡ None → ⊥) → given_name line_target (clocked x width start o) ≡ Some x
clocked_by x width start None h = absurd (h refl)
clocked_by x width None (Some net) h = refl
clocked_by x width (Some v) (Some net) h = refl

written_by : (x : List ℕ) (o : Option ArrayWrite) → (o ≡ None → ⊥) → given_name line_target (written x o) ≡ Some x
written_by x None h = absurd (h refl)
written_by x (Some w) h = refl

marked_by : (b : Bool) (width : ℕ) (x : List ℕ) (v : Value) → b ≡ true → given_name line_target (line_if b (Net width x v)) ≡ Some x
marked_by true width x v h = refl
marked_by false width x v h = absurd (cc)

module _ (m : ModuleValue) (nodes : List Node) (marks : List Bool) (all : IsDriven m) where
  abbrev driven : Names
  driven = named_by line_target (module_lines m nodes marks)

  behind_arrays : (x : List ℕ) → IsIn (named_by line_target (from_nodes m nodes marks)) x → IsIn driven x
  behind_arrays x h =
      named_rest line_target (wire_line m) (from_regs m nodes marks) (length m.wires) x
      (named_rest line_target (reg_line m) (from_arrays m nodes marks) (length m.regs) x
      (named_rest line_target (array_line m) (from_nodes m nodes marks) (length m.arrays) x h))

  behind_nodes : (x : List ℕ) → IsIn (named_by line_target (from_drives m nodes marks)) x → IsIn driven x
  behind_nodes x h = behind_arrays x (named_rest line_target (node_line m nodes marks) (from_drives m nodes marks) (length nodes) x h)

  behind_drives : (x : List ℕ) → IsIn (named_by line_target (from_nexts m nodes marks)) x → IsIn driven x
  behind_drives x h = behind_nodes x (named_rest line_target (drive_line m) (from_nexts m nodes marks) (length m.wires) x h)

  behind_nexts : (x : List ℕ) → IsIn (named_by line_target (from_writes m nodes marks)) x → IsIn driven x
  behind_nexts x h = behind_drives x (named_rest line_target (next_line m) (from_writes m nodes marks) (length m.regs) x h)

  behind_writes : (x : List ℕ) → IsIn (named_by line_target (from_outs m nodes marks)) x → IsIn driven x
  behind_writes x h = behind_nexts x (named_rest line_target (write_line m) (from_outs m nodes marks) (length m.arrays) x h)

  node_driven : (k : ℕ) → k < length nodes → get_or marks k false ≡ true → IsIn driven (node_name k)
  node_driven k h mark =
      behind_arrays (node_name k) (named_here line_target (node_line m nodes marks) (from_drives m nodes marks) (length nodes) k (node_name k) h (marked_by (get_or marks k false) _ (node_name k) _ mark))

  wire_driven : (w : ℕ) → w < length m.wires → IsIn driven (wire_name m w)
  wire_driven w h =
      behind_nodes (wire_name m w) (named_here line_target (drive_line m) (from_nexts m nodes marks) (length m.wires) w (wire_name m w) h (assigned_by (wire_name m w) (wire_at m.wires w).driver (all.wires w h)))

  reg_driven : (r : ℕ) → r < length m.regs → IsIn driven (reg_name m r)
  reg_driven r h =
      behind_drives (reg_name m r) (named_here line_target (next_line m) (from_writes m nodes marks) (length m.regs) r (reg_name m r) h
      (clocked_by (reg_name m r) (reg_at m.regs r).width (reg_at m.regs r).reset (reg_at m.regs r).next (all.regs r h)))

  array_driven : (a : ℕ) → a < length m.arrays → IsIn driven (array_name m a)
  array_driven a h =
      behind_nexts (array_name m a) (named_here line_target (write_line m) (from_outs m nodes marks) (length m.arrays) a (array_name m a) h (written_by (array_name m a) (array_at m.arrays a).write (all.arrays a h)))

  out_driven : (i : ℕ) → i < 30 → is_input (port_at i) ≡ false → IsIn driven (port_name i)
  out_driven i h e =
      behind_writes (port_name i) (named_here line_target (out_line m) [] 30 i (port_name i) h (assigned_by (port_name i) (out_at m.outs i) (λ o. all.outs i h (e, o))))

  each_driven : Each (LineDriven driven) (module_lines m nodes marks)
  each_driven =
      each (LineDriven driven) (wire_line m) (from_regs m nodes marks) (length m.wires) (λ w h. wire_driven w h)
      (each (LineDriven driven) (reg_line m) (from_arrays m nodes marks) (length m.regs) (λ r h. reg_driven r h)
      (each (LineDriven driven) (array_line m) (from_nodes m nodes marks) (length m.arrays) (λ a h. array_driven a h)
      (each (LineDriven driven) (node_line m nodes marks) (from_drives m nodes marks) (length nodes) (λ k h. marked_driven driven (get_or marks k false) _ (node_driven k h))
      (each (LineDriven driven) (drive_line m) (from_nexts m nodes marks) (length m.wires) (λ w h. assigned_driven driven _ (wire_at m.wires w).driver)
      (each (LineDriven driven) (next_line m) (from_writes m nodes marks) (length m.regs) (λ r h. clocked_driven driven _ _ (reg_at m.regs r).reset (reg_at m.regs r).next)
      (each (LineDriven driven) (write_line m) (from_outs m nodes marks) (length m.arrays) (λ a h. written_driven driven _ (array_at m.arrays a).write)
      (each (LineDriven driven) (out_line m) [] 30 (λ i h. assigned_driven driven _ (out_at m.outs i))
      tt)))))))

  each_port : Each (PortDriven driven) (ports_from all_ports)
  each_port = subst (λ qs. Each (PortDriven driven) qs) (sym ports_spread) (each (PortDriven driven) port_row [] 30 (λ i h e. out_driven i h e) tt)

  pub all_driven : (p : ℕ → ℕ) → drivers_missing (tree_of p (netlist_of m nodes marks)) ≡ []
  all_driven p =
      ap (λ names. undriven names (declarations (tree_of p (netlist_of m nodes marks)))) (lines_targets p (suc (behind_ports 3 (ports_from all_ports))) (module_lines m nodes marks))
      ∙ ports_driven driven p 3 (ports_from all_ports) (declared_items (placed_lines p (suc (behind_ports 3 (ports_from all_ports))) (module_lines m nodes marks))) each_port
      ∙ lines_driven driven p (suc (behind_ports 3 (ports_from all_ports))) (module_lines m nodes marks) each_driven
