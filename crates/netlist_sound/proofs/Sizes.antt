-- Second rule: the ranges and the cells of a module's netlist are in their bounds.
use Rattle.std.proofs.Common.{◌≡◌, ℕ, suc, ◌-◌, ◌^◌, ◌≤◌, Bool, true, false, not, eqb, leb, List, [], ◌∷◌, length, get_or, Option, Some, None, refl, ap, ◌∙◌, arith}
use Rattle.std.proofs.lemmas.Bool.Decides.{nat_tests}
use Rattle.core_ports.specs.Ports.{all_ports}
use Rattle.verilog_mean.specs.declared.refusal.MeanRefusal.TheVariants.{BadSize}
use Rattle.verilog_mean.specs.Look.{put_if}
use Rattle.verilog_mean.specs.Names.{Refusals, bad_range, bad_sizes_in, bad_sizes}
use Rattle.verilog_mean.specs.Declarations.{Declaration, declared_ports, declared_items, index_width}
use Rattle.verilog_netlist.specs.Netlist.{Line}
use Rattle.verilog_netlist.specs.Netlist.Line.{Wire, Net, Reg, Array, Assign, Next, Reset, Write}
use Rattle.verilog_netlist.specs.Places.{placed_range, placed_ports, behind_ports, behind_line, placed_lines, tree_of}
use Rattle.hw_pool.specs.declared.node.Node.{Node}
use Rattle.hw_pool.specs.Nodes.{IsWidth, IsPool}
use Rattle.hw_expr.specs.declared.net.Net.{Net as Driver}
use Rattle.hw_module.specs.declared.rows.ArrayWrite.{ArrayWrite}
use Rattle.hw_module.specs.Rows.{ModuleValue, IsModule, wire_at, reg_at, array_at, out_at}
use Rattle.module_netlist.specs.Lines.{assigned, clocked, written, line_if, wire_line, reg_line, array_line, node_line, drive_line, next_line, write_line, out_line, from_outs, from_writes, from_nexts, from_drives, from_nodes, from_arrays, from_regs, module_lines, ports_from, netlist_of}
use Rattle.netlist_sound.proofs.Fine.{Each}
use Rattle.netlist_sound.proofs.Infos.{index_bits}
use Rattle.netlist_sound.proofs.Spreads.{Put, each}

-- the numbers of a line are in their bounds
abbrev pub Sized : Line → Type 0
Sized (Wire width x) = IsWidth width
Sized (Net width x v) = IsWidth width
Sized (Reg width x) = IsWidth width
Sized (Array width x bits) = IsWidth width × (1 ≤ bits) × (bits ≤ 16)
Sized (Assign x s) = Unit {0}
Sized (Next x s) = Unit {0}
Sized (Reset x width start s) = Unit {0}
Sized (Write e x i s) = Unit {0}

range_good : (p : ℕ → ℕ) (k width : ℕ) (rest : Refusals) → IsWidth width → bad_range (Some (placed_range p k width)) rest ≡ rest
range_good p k width rest h =
    let l : width ≤ 64 = h.1 in
    let e : leb (width - 1) 63 ≡ true = grind (arith, nat_tests) in
    ap (λ b. put_if (not b) (BadSize (p (suc k)) (width - 1)) rest) e

cells_good : (at bits : ℕ) (rest : Refusals) → 1 ≤ bits → bits ≤ 16 → put_if (eqb (index_width (2 ^ bits - 1)) 0) (BadSize at (2 ^ bits - 1)) rest ≡ rest
cells_good at bits rest least most =
    let e : eqb bits 0 ≡ false = grind (arith, nat_tests) in
    ap (λ v. put_if (eqb v 0) (BadSize at (2 ^ bits - 1)) rest) (index_bits bits least most)
    ∙ ap (λ b. put_if b (BadSize at (2 ^ bits - 1)) rest) e

sizes_good : (p : ℕ → ℕ) (k : ℕ) (ls : List Line) → Each Sized ls → bad_sizes_in (declared_items (placed_lines p k ls)) ≡ []
sizes_good p k [] h = refl
sizes_good p k (Wire width x ∷ ls) h = range_good p (suc k) width _ h.0 ∙ sizes_good p (behind_line k (Wire width x)) ls h.1
sizes_good p k (Net width x v ∷ ls) h = range_good p (suc k) width _ h.0 ∙ sizes_good p (behind_line k (Net width x v)) ls h.1
sizes_good p k (Reg width x ∷ ls) h = range_good p (suc k) width _ h.0 ∙ sizes_good p (behind_line k (Reg width x)) ls h.1
sizes_good p k (Array width x bits ∷ ls) h =
    range_good p (suc k) width _ h.0.0 ∙ cells_good _ bits _ h.0.1 h.0.2 ∙ sizes_good p (behind_line k (Array width x bits)) ls h.1
sizes_good p k (Assign x s ∷ ls) h = sizes_good p (behind_line k (Assign x s)) ls h.1
sizes_good p k (Next x s ∷ ls) h = sizes_good p (behind_line k (Next x s)) ls h.1
sizes_good p k (Reset x width start s ∷ ls) h = sizes_good p (behind_line k (Reset x width start s)) ls h.1
sizes_good p k (Write e x i s ∷ ls) h = sizes_good p (behind_line k (Write e x i s)) ls h.1

ports_good : (p : ℕ → ℕ) (rest : List Declaration) → bad_sizes_in (declared_ports (placed_ports p 3 (ports_from all_ports)) rest) ≡ bad_sizes_in rest
ports_good p rest = refl

marked_sized : (b : Bool) (l : Line) → Sized l → Put Sized (line_if b l)
marked_sized true l h = h
marked_sized false l h = tt

assigned_sized : (x : List ℕ) (o : Option Driver) → Put Sized (assigned x o)
assigned_sized x None = tt
assigned_sized x (Some net) = tt

clocked_sized : (x : List ℕ) (width : ℕ) (start : Option ℕ) (o : Option Driver) → Put Sized (clocked x width start o)
clocked_sized x width start None = tt
clocked_sized x width None (Some net) = tt
clocked_sized x width (Some v) (Some net) = tt

written_sized : (x : List ℕ) (o : Option ArrayWrite) → Put Sized (written x o)
written_sized x None = tt
written_sized x (Some w) = tt

pub lines_sized : (m : ModuleValue) (nodes : List Node) (marks : List Bool) → IsModule m → IsPool nodes → Each Sized (module_lines m nodes marks)
lines_sized m nodes marks is pool =
    each Sized (wire_line m) (from_regs m nodes marks) (length m.wires) (λ w h. is.wires w h)
    (each Sized (reg_line m) (from_arrays m nodes marks) (length m.regs) (λ r h. is.regs r h)
    (each Sized (array_line m) (from_nodes m nodes marks) (length m.arrays) (λ a h. (is.arrays a h, is.bits_least a h, is.bits_most a h))
    (each Sized (node_line m nodes marks) (from_drives m nodes marks) (length nodes) (λ k h. marked_sized (get_or marks k false) _ (pool.widths k h))
    (each Sized (drive_line m) (from_nexts m nodes marks) (length m.wires) (λ w h. assigned_sized _ (wire_at m.wires w).driver)
    (each Sized (next_line m) (from_writes m nodes marks) (length m.regs) (λ r h. clocked_sized _ _ (reg_at m.regs r).reset (reg_at m.regs r).next)
    (each Sized (write_line m) (from_outs m nodes marks) (length m.arrays) (λ a h. written_sized _ (array_at m.arrays a).write)
    (each Sized (out_line m) [] 30 (λ q h. assigned_sized _ (out_at m.outs q))
    tt)))))))

pub sizes : (m : ModuleValue) (nodes : List Node) (marks : List Bool) → IsModule m → IsPool nodes → (p : ℕ → ℕ) → bad_sizes (tree_of p (netlist_of m nodes marks)) ≡ []
sizes m nodes marks is pool p =
    ports_good p (declared_items (placed_lines p (suc (behind_ports 3 (ports_from all_ports))) (module_lines m nodes marks)))
    ∙ sizes_good p (suc (behind_ports 3 (ports_from all_ports))) (module_lines m nodes marks) (lines_sized m nodes marks is pool)
