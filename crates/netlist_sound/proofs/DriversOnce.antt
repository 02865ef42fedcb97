-- Seventh rule: no name of a module's netlist is driven twice.
use Rattle.std.proofs.Common.{◌≡◌, ℕ, suc, Bool, true, false, List, [], ◌∷◌, length, get_or, Option, Some, None, refl, ap, sym, subst, ◌∙◌, arith}
use Rattle.core_ports.specs.Ports.{all_ports}
use Rattle.verilog_tree.specs.declared.expr.Ident.{Ident}
use Rattle.verilog_mean.specs.declared.refusal.MeanRefusal.TheVariants.{DriverTwice}
use Rattle.verilog_mean.specs.Look.{put_if}
use Rattle.verilog_mean.specs.Drivers.{targets, texts_of, driven_again, drivers_twice}
use Rattle.verilog_netlist.specs.Netlist.{Value, Line}
use Rattle.verilog_netlist.specs.Netlist.Line.{Wire, Net, Reg, Array, Assign, Next, Reset, Write}
use Rattle.verilog_netlist.specs.Places.{behind_ports, behind_line, placed_lines, tree_of}
use Rattle.hw_pool.specs.declared.node.Node.{Node}
use Rattle.hw_pool.specs.Nodes.{node_at}
use Rattle.hw_expr.specs.declared.net.Net.{Net as Driver}
use Rattle.hw_module.specs.declared.rows.ArrayWrite.{ArrayWrite}
use Rattle.hw_module.specs.Rows.{ModuleValue, wire_at, reg_at, array_at, out_at}
use Rattle.module_netlist.specs.Names.{node_name, wire_name, reg_name, array_name, port_name}
use Rattle.module_netlist.specs.Lines.{assigned, clocked, written, line_if, node_value, wire_line, reg_line, array_line, node_line, drive_line, next_line, write_line, out_line, from_outs, from_writes, from_nexts, from_drives, from_nodes, from_arrays, from_regs, module_lines, ports_from, netlist_of}
use Rattle.netlist_sound.proofs.Infos.{Differ}
use Rattle.netlist_sound.proofs.NameLists.{Names, given_name, named_by, Fresh, MayBe, step, fresh_named, named_skip}
use Rattle.netlist_sound.proofs.Unseen.{Unseen, nothing_seen, port_seen, wire_seen, reg_seen, array_seen, node_seen, passed}

-- the name that a line drives
abbrev pub line_target : Line → Option (List ℕ)
line_target (Wire width x) = None
line_target (Net width x v) = Some x
line_target (Reg width x) = None
line_target (Array width x bits) = None
line_target (Assign x s) = Some x
line_target (Next x s) = Some x
line_target (Reset x width start s) = Some x
line_target (Write e x i s) = Some x

none_again : (seen : Names) (is : List Ident) → Fresh seen (texts_of is) → driven_again seen is ≡ []
none_again seen [] h = refl
none_again seen (i ∷ is) h = ap (λ b. put_if b (DriverTwice i.at) (driven_again (i.text ∷ seen) is)) h.0 ∙ none_again (i.text ∷ seen) is h.1

pub lines_targets : (p : ℕ → ℕ) (k : ℕ) (ls : List Line) → texts_of (targets (placed_lines p k ls)) ≡ named_by line_target ls
lines_targets p k [] = refl
lines_targets p k (Wire width x ∷ ls) = lines_targets p (behind_line k (Wire width x)) ls
lines_targets p k (Net width x v ∷ ls) = ap (λ r. x ∷ r) (lines_targets p (behind_line k (Net width x v)) ls)
lines_targets p k (Reg width x ∷ ls) = lines_targets p (behind_line k (Reg width x)) ls
lines_targets p k (Array width x bits ∷ ls) = lines_targets p (behind_line k (Array width x bits)) ls
lines_targets p k (Assign x s ∷ ls) = ap (λ r. x ∷ r) (lines_targets p (behind_line k (Assign x s)) ls)
lines_targets p k (Next x s ∷ ls) = ap (λ r. x ∷ r) (lines_targets p (behind_line k (Next x s)) ls)
lines_targets p k (Reset x width start s ∷ ls) = ap (λ r. x ∷ r) (lines_targets p (behind_line k (Reset x width start s)) ls)
lines_targets p k (Write e x i s ∷ ls) = ap (λ r. x ∷ r) (lines_targets p (behind_line k (Write e x i s)) ls)

marked_target : (b : Bool) (width : ℕ) (x : List ℕ) (v : Value) → MayBe x (given_name line_target (line_if b (Net width x v)))
marked_target true width x v = refl
marked_target false width x v = tt

assigned_target : (x : List ℕ) (o : Option Driver) → MayBe x (given_name line_target (assigned x o))
assigned_target x None = tt
assigned_target x (Some net) = refl

clocked_target : (x : List ℕ) (width : ℕ) (start : Option ℕ) (o : Option Driver) → MayBe x (given_name line_target (clocked x width start o))
clocked_target x width start None = tt
clocked_target x width None (Some net) = refl
clocked_target x width (Some v) (Some net) = refl

written_target : (x : List ℕ) (o : Option ArrayWrite) → MayBe x (given_name line_target (written x o))
written_target x None = tt
written_target x (Some w) = refl

module _ (m : ModuleValue) (nodes : List Node) (marks : List Bool) (differ : Differ m nodes) where
  abbrev W : ℕ
  W = length m.wires

  abbrev R : ℕ
  R = length m.regs

  abbrev A : ℕ
  A = length m.arrays

  abbrev N : ℕ
  N = length nodes

  -- the first ports, wires, registers, arrays and nodes have been driven
  abbrev Left : (p w r a n : ℕ) → Names → Type 0
  Left p w r a n seen = Unseen m nodes differ p w r a n seen

  outs_once : (seen : Names) → Left 0 W R A N seen → Fresh seen (named_by line_target (from_outs m nodes marks))
  outs_once seen u =
      fresh_named line_target (out_line m) [] (λ i s. Left i W R A N s) 30
      (λ i h s u. step (λ z. Left (suc i) W R A N z) s (port_name i) (given_name line_target (out_line m i)) (assigned_target (port_name i) (out_at m.outs i)) (u.ports i (omega arith) h)
      (port_seen m nodes differ i W R A N s u h) (passed m nodes differ i W R A N s u (suc i) W R A N (omega arith) (omega arith) (omega arith) (omega arith) (omega arith)))
      (λ s u. tt) seen u

  writes_once : (seen : Names) → Left 0 W R 0 N seen → Fresh seen (named_by line_target (from_writes m nodes marks))
  writes_once seen u =
      fresh_named line_target (write_line m) (from_outs m nodes marks) (λ i s. Left 0 W R i N s) A
      (λ i h s u. step (λ z. Left 0 W R (suc i) N z) s (array_name m i) (given_name line_target (write_line m i)) (written_target (array_name m i) (array_at m.arrays i).write) (u.arrays i (omega arith) h)
      (array_seen m nodes differ 0 W R i N s u h) (passed m nodes differ 0 W R i N s u 0 W R (suc i) N (omega arith) (omega arith) (omega arith) (omega arith) (omega arith)))
      (λ s u. outs_once s u) seen u

  nexts_once : (seen : Names) → Left 0 W 0 0 N seen → Fresh seen (named_by line_target (from_nexts m nodes marks))
  nexts_once seen u =
      fresh_named line_target (next_line m) (from_writes m nodes marks) (λ i s. Left 0 W i 0 N s) R
      (λ i h s u. step (λ z. Left 0 W (suc i) 0 N z) s (reg_name m i) (given_name line_target (next_line m i))
      (clocked_target (reg_name m i) (reg_at m.regs i).width (reg_at m.regs i).reset (reg_at m.regs i).next) (u.regs i (omega arith) h)
      (reg_seen m nodes differ 0 W i 0 N s u h) (passed m nodes differ 0 W i 0 N s u 0 W (suc i) 0 N (omega arith) (omega arith) (omega arith) (omega arith) (omega arith)))
      (λ s u. writes_once s u) seen u

  drives_once : (seen : Names) → Left 0 0 0 0 N seen → Fresh seen (named_by line_target (from_drives m nodes marks))
  drives_once seen u =
      fresh_named line_target (drive_line m) (from_nexts m nodes marks) (λ i s. Left 0 i 0 0 N s) W
      (λ i h s u. step (λ z. Left 0 (suc i) 0 0 N z) s (wire_name m i) (given_name line_target (drive_line m i)) (assigned_target (wire_name m i) (wire_at m.wires i).driver) (u.wires i (omega arith) h)
      (wire_seen m nodes differ 0 i 0 0 N s u h) (passed m nodes differ 0 i 0 0 N s u 0 (suc i) 0 0 N (omega arith) (omega arith) (omega arith) (omega arith) (omega arith)))
      (λ s u. nexts_once s u) seen u

  nodes_once : (seen : Names) → Left 0 0 0 0 0 seen → Fresh seen (named_by line_target (from_nodes m nodes marks))
  nodes_once seen u =
      fresh_named line_target (node_line m nodes marks) (from_drives m nodes marks) (λ i s. Left 0 0 0 0 i s) N
      (λ i h s u. step (λ z. Left 0 0 0 0 (suc i) z) s (node_name i) (given_name line_target (node_line m nodes marks i))
      (marked_target (get_or marks i false) (node_at nodes i).width (node_name i) (node_value m (node_at nodes i).width (node_at nodes i).op)) (u.nodes i (omega arith) h)
      (node_seen m nodes differ 0 0 0 0 i s u h) (passed m nodes differ 0 0 0 0 i s u 0 0 0 0 (suc i) (omega arith) (omega arith) (omega arith) (omega arith) (omega arith)))
      (λ s u. drives_once s u) seen u

  -- declarations alone drive nothing
  only_nodes : named_by line_target (module_lines m nodes marks) ≡ named_by line_target (from_nodes m nodes marks)
  only_nodes =
      named_skip line_target (wire_line m) (from_regs m nodes marks) W (λ i. refl)
      ∙ named_skip line_target (reg_line m) (from_arrays m nodes marks) R (λ i. refl)
      ∙ named_skip line_target (array_line m) (from_nodes m nodes marks) A (λ i. refl)

  all_targets : (p : ℕ → ℕ) (k : ℕ) → texts_of (targets (placed_lines p k (module_lines m nodes marks))) ≡ named_by line_target (from_nodes m nodes marks)
  all_targets p k = lines_targets p k (module_lines m nodes marks) ∙ only_nodes

  once_from : (p : ℕ → ℕ) (k : ℕ) → driven_again [] (targets (placed_lines p k (module_lines m nodes marks))) ≡ []
  once_from p k =
      none_again [] (targets (placed_lines p k (module_lines m nodes marks))) (subst (λ names. Fresh [] names) (sym (all_targets p k)) (nodes_once [] (nothing_seen m nodes differ)))

  pub drivers_once : (p : ℕ → ℕ) → drivers_twice (tree_of p (netlist_of m nodes marks)) ≡ []
  drivers_once p = once_from p (suc (behind_ports 3 (ports_from all_ports)))
