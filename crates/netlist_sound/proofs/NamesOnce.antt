-- First rule: no name of a module's netlist is declared twice.
use Rattle.std.proofs.Common.{◌≡◌, ℕ, suc, Bool, true, false, List, [], ◌∷◌, length, get_or, Option, Some, None, refl, ap, sym, subst, ◌∙◌, arith}
use Rattle.core_ports.specs.Ports.{all_ports}
use Rattle.verilog_mean.specs.declared.refusal.MeanRefusal.TheVariants.{NameTwice}
use Rattle.verilog_mean.specs.Look.{put_if}
use Rattle.verilog_mean.specs.Names.{repeated, names_twice}
use Rattle.verilog_mean.specs.Declarations.{Declaration, declarations, declared_ports, declared_items}
use Rattle.verilog_netlist.specs.Netlist.{Value, Line}
use Rattle.verilog_netlist.specs.Netlist.Line.{Wire, Net, Reg, Array, Assign, Next, Reset, Write}
use Rattle.verilog_netlist.specs.Places.{placed_ports, behind_ports, behind_line, placed_lines, tree_of}
use Rattle.hw_pool.specs.declared.node.Node.{Node}
use Rattle.hw_pool.specs.Nodes.{node_at}
use Rattle.hw_expr.specs.declared.net.Net.{Net as Driver}
use Rattle.hw_module.specs.declared.rows.ArrayWrite.{ArrayWrite}
use Rattle.hw_module.specs.Ports.{port_at}
use Rattle.hw_module.specs.Rows.{ModuleValue, wire_at, reg_at, array_at, out_at}
use Rattle.module_netlist.specs.Names.{node_name, wire_name, reg_name, array_name, port_name}
use Rattle.module_netlist.specs.Lines.{spread, assigned, clocked, written, line_if, node_value, wire_line, reg_line, array_line, node_line, drive_line, next_line, write_line, out_line, from_outs, from_writes, from_nexts, from_drives, from_nodes, from_arrays, from_regs, module_lines, ports_from, netlist_of}
use Rattle.netlist_sound.proofs.Infos.{Differ}
use Rattle.netlist_sound.proofs.NameLists.{Names, given_name, named_by, Fresh, fresh_spread, MayBe, step, fresh_named, named_skip}
use Rattle.netlist_sound.proofs.Unseen.{Unseen, nothing_seen, port_seen, wire_seen, reg_seen, array_seen, node_seen, passed}

-- the name that a line declares
abbrev line_named : Line → Option (List ℕ)
line_named (Wire width x) = Some x
line_named (Net width x v) = Some x
line_named (Reg width x) = Some x
line_named (Array width x bits) = Some x
line_named (Assign x s) = None
line_named (Next x s) = None
line_named (Reset x width start s) = None
line_named (Write e x i s) = None

abbrev declared_names : List Declaration → Names
declared_names [] = []
declared_names (d ∷ ds) = d.name.text ∷ declared_names ds

none_repeated : (seen : Names) (ds : List Declaration) → Fresh seen (declared_names ds) → repeated seen ds ≡ []
none_repeated seen [] h = refl
none_repeated seen (d ∷ ds) h = ap (λ b. put_if b (NameTwice d.name.at) (repeated (d.name.text ∷ seen) ds)) h.0 ∙ none_repeated (d.name.text ∷ seen) ds h.1

lines_named : (p : ℕ → ℕ) (k : ℕ) (ls : List Line) → declared_names (declared_items (placed_lines p k ls)) ≡ named_by line_named ls
lines_named p k [] = refl
lines_named p k (Wire width x ∷ ls) = ap (λ r. x ∷ r) (lines_named p (behind_line k (Wire width x)) ls)
lines_named p k (Net width x v ∷ ls) = ap (λ r. x ∷ r) (lines_named p (behind_line k (Net width x v)) ls)
lines_named p k (Reg width x ∷ ls) = ap (λ r. x ∷ r) (lines_named p (behind_line k (Reg width x)) ls)
lines_named p k (Array width x bits ∷ ls) = ap (λ r. x ∷ r) (lines_named p (behind_line k (Array width x bits)) ls)
lines_named p k (Assign x s ∷ ls) = lines_named p (behind_line k (Assign x s)) ls
lines_named p k (Next x s ∷ ls) = lines_named p (behind_line k (Next x s)) ls
lines_named p k (Reset x width start s ∷ ls) = lines_named p (behind_line k (Reset x width start s)) ls
lines_named p k (Write e x i s ∷ ls) = lines_named p (behind_line k (Write e x i s)) ls

ports_named : (p : ℕ → ℕ) (rest : List Declaration)
    → declared_names (declared_ports (placed_ports p 3 (ports_from all_ports)) rest) ≡ spread (λ i. Some (port_name i)) 0 30 (declared_names rest)
unfolding port_at
ports_named p rest = refl

marked_named : (b : Bool) (width : ℕ) (x : List ℕ) (v : Value) → MayBe x (given_name line_named (line_if b (Net width x v)))
marked_named true width x v = refl
marked_named false width x v = tt

assigned_named : (x : List ℕ) (o : Option Driver) → given_name line_named (assigned x o) ≡ None
assigned_named x None = refl
assigned_named x (Some net) = refl

clocked_named : (x : List ℕ) (width : ℕ) (start : Option ℕ) (o : Option Driver) → given_name line_named (clocked x width start o) ≡ None
clocked_named x width start None = refl
clocked_named x width None (Some net) = refl
clocked_named x width (Some v) (Some net) = refl

written_named : (x : List ℕ) (o : Option ArrayWrite) → given_name line_named (written x o) ≡ None
written_named x None = refl
written_named x (Some w) = refl

module _ (m : ModuleValue) (nodes : List Node) (marks : List Bool) (differ : Differ m nodes) where
  abbrev W : ℕ
  W = length m.wires

  abbrev R : ℕ
  R = length m.regs

  abbrev A : ℕ
  A = length m.arrays

  -- the first ports, wires, registers, arrays and nodes have stood
  abbrev Left : (p w r a n : ℕ) → Names → Type 0
  Left p w r a n seen = Unseen m nodes differ p w r a n seen

  no_more : named_by line_named (from_drives m nodes marks) ≡ []
  no_more =
      named_skip line_named (drive_line m) (from_nexts m nodes marks) W (λ i. assigned_named (wire_name m i) (wire_at m.wires i).driver)
      ∙ named_skip line_named (next_line m) (from_writes m nodes marks) R (λ i. clocked_named (reg_name m i) (reg_at m.regs i).width (reg_at m.regs i).reset (reg_at m.regs i).next)
      ∙ named_skip line_named (write_line m) (from_outs m nodes marks) A (λ i. written_named (array_name m i) (array_at m.arrays i).write)
      ∙ named_skip line_named (out_line m) [] 30 (λ i. assigned_named (port_name i) (out_at m.outs i))

  nodes_once : (seen : Names) → Left 30 W R A 0 seen → Fresh seen (named_by line_named (from_nodes m nodes marks))
  nodes_once seen u =
      fresh_named line_named (node_line m nodes marks) (from_drives m nodes marks) (λ i s. Left 30 W R A i s) (length nodes)
      (λ i h s u. step (λ z. Left 30 W R A (suc i) z) s (node_name i) (given_name line_named (node_line m nodes marks i))
      (marked_named (get_or marks i false) (node_at nodes i).width (node_name i) (node_value m (node_at nodes i).width (node_at nodes i).op))
      (u.nodes i (omega arith) h) (node_seen m nodes differ 30 W R A i s u h) (passed m nodes differ 30 W R A i s u 30 W R A (suc i) (omega arith) (omega arith) (omega arith) (omega arith) (omega arith)))
      (λ s u. subst (λ names. Fresh s names) (sym no_more) tt) seen u

  arrays_once : (seen : Names) → Left 30 W R 0 0 seen → Fresh seen (named_by line_named (from_arrays m nodes marks))
  arrays_once seen u =
      fresh_named line_named (array_line m) (from_nodes m nodes marks) (λ i s. Left 30 W R i 0 s) A
      (λ i h s u. (u.arrays i (omega arith) h, array_seen m nodes differ 30 W R i 0 s u h)) (λ s u. nodes_once s u) seen u

  regs_once : (seen : Names) → Left 30 W 0 0 0 seen → Fresh seen (named_by line_named (from_regs m nodes marks))
  regs_once seen u =
      fresh_named line_named (reg_line m) (from_arrays m nodes marks) (λ i s. Left 30 W i 0 0 s) R
      (λ i h s u. (u.regs i (omega arith) h, reg_seen m nodes differ 30 W i 0 0 s u h)) (λ s u. arrays_once s u) seen u

  wires_once : (seen : Names) → Left 30 0 0 0 0 seen → Fresh seen (named_by line_named (module_lines m nodes marks))
  wires_once seen u =
      fresh_named line_named (wire_line m) (from_regs m nodes marks) (λ i s. Left 30 i 0 0 0 s) W
      (λ i h s u. (u.wires i (omega arith) h, wire_seen m nodes differ 30 i 0 0 0 s u h)) (λ s u. regs_once s u) seen u

  all_once : Fresh [] (spread (λ i. Some (port_name i)) 0 30 (named_by line_named (module_lines m nodes marks)))
  all_once =
      fresh_spread (λ i. Some (port_name i)) (λ i s. Left i 0 0 0 0 s) (named_by line_named (module_lines m nodes marks)) 30 0
      (λ i l h s u. (u.ports i (omega arith) (omega arith), port_seen m nodes differ i 0 0 0 0 s u (omega arith)))
      (λ i e s u. wires_once s (subst (λ z. Left z 0 0 0 0 s) (let q : i ≡ 30 = omega arith in q) u)) [] (nothing_seen m nodes differ)

  pub names_once : (p : ℕ → ℕ) → names_twice (tree_of p (netlist_of m nodes marks)) ≡ []
  names_once p =
      none_repeated [] (declarations (tree_of p (netlist_of m nodes marks)))
      (subst (λ names. Fresh [] names)
      (sym (ports_named p (declared_items (placed_lines p (suc (behind_ports 3 (ports_from all_ports))) (module_lines m nodes marks)))
      ∙ ap (spread (λ i. Some (port_name i)) 0 30) (lines_named p (suc (behind_ports 3 (ports_from all_ports))) (module_lines m nodes marks))))
      all_once)
