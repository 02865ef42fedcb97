-- The netlist of a checked module has ranks.
use Rattle.std.proofs.Common.{◌≡◌, ℕ, ◌+◌, ◌<◌, ◌≤◌, Bool, true, false, List, [], length, get_or, Option, Some, None, refl, ap, subst, arith}
use Rattle.core_words.specs.Names.{same_name}
use Rattle.core_ports.specs.Ports.{is_input}
use Rattle.verilog_mean.specs.Order.{IsRanked}
use Rattle.verilog_mean.proofs.Ordered.{all_lower, lower_by}
use Rattle.verilog_netlist.specs.Netlist.Line.{Net as net_line}
use Rattle.verilog_netlist.specs.Meaning.{plain_of, lines_items}
use Rattle.hw_pool.specs.declared.node.Op.{Op}
use Rattle.hw_pool.specs.declared.node.Op.TheVariants.{Lit, Input, Wire, Reg, Not, And, Or, Xor, Add, Sub, Eq, Ltu, Mux, Cat, Slice, Read}
use Rattle.hw_pool.specs.Nodes.{PoolValue, node_at, EachChild}
use Rattle.hw_pool.specs.Trees.{tree_of, of_op, of_node}
use Rattle.hw_pool.proofs.Trees.{each_child, tree-here}
use Rattle.hw_expr.specs.declared.net.Net.{Net}
use Rattle.hw_module.specs.Ports.{port_at}
use Rattle.hw_module.specs.Rows.{ModuleValue, wire_at, reg_at, array_at, out_at}
use Rattle.hw_module.specs.Fits.{TreeFits}
use Rattle.hw_module.specs.Checked.{DrivesWire, DrivesPort}
use Rattle.hw_module.specs.Reached.{AreMarks, top_of}
use Rattle.hw_module.specs.Reached.Drives.{OfWire, OfPort}
use Rattle.module_netlist.specs.Names.{Thing, ThingIn, name_in, same_thing, node_name, wire_name, reg_name, array_name, port_name}
use Rattle.module_netlist.specs.Lines.{node_value, line_if, wire_line, reg_line, array_line, node_line, drive_line, next_line, write_line, out_line, from_outs, from_writes, from_nexts, from_drives, from_nodes, from_arrays, from_regs, module_lines, netlist_of}
use Rattle.module_netlist.specs.Written.{IsWritten}
use Rattle.hw_reach.proofs.Reached.{reached_fits, tree_top}
use Rattle.module_netlist.proofs.Naming.{names_differ}
use Rattle.netlist_order.proofs.Counts.{count}
use Rattle.netlist_order.proofs.Before.{total}
use Rattle.netlist_order.proofs.Table.{rank, node_top, places, node_node, wire_node, node_wire, reg_node, port_node, node_port, rank_within}
use Rattle.netlist_order.proofs.Lengths.{items_many, lines_many, outs_many}
use Rattle.netlist_order.proofs.Lows.{LineIsLower, LeafIsLower, spread_lower, clocked_lower, written_lower, assigned_lower, op_lower, each_two, child_tops}

module _ (m : ModuleValue) (pool : PoolValue) (marks : List Bool) (is : IsWritten m pool) (are : AreMarks m pool.nodes marks) where
  abbrev ranks : List ℕ → ℕ
  ranks x = rank m pool.nodes marks x

  names : (a b : Thing) → ThingIn m pool.nodes a → ThingIn m pool.nodes b → same_name (name_in m a) (name_in m b) ≡ same_thing a b
  names =
      let few = is.few in
      names_differ m pool.nodes is.module' (omega arith) (omega arith) (omega arith) (omega arith)

  -- ---- nodes

  -- an input has no driver
  input_open : (p : ℕ) → p < 30 → is_input (port_at p) ≡ true → (o : Option Net) → out_at m.outs p ≡ o → out_at m.outs p ≡ None
  input_open p l h None e = e
  input_open p l h (Some net) e =
      let d : is_input (port_at p) ≡ false = (is.checked.fits.outs p net l e).output in
      absurd (grind arith)

  module _ (k : ℕ) (live : k < length pool.nodes) (marked : get_or marks k false ≡ true) where
    abbrev bound : ℕ
    bound = ranks (node_name k)

    leaf_lower : (width : ℕ) (o : Op) → TreeFits m (node_top m pool.nodes marks k) (of_op (tree_of pool.nodes) width o) → LeafIsLower (rank m pool.nodes marks) m bound o
    leaf_lower width (Lit value) h = tt
    leaf_lower width (Input port) h =
        port_node m pool.nodes marks names port k h.readable.most live marked
        (input_open port h.readable.most h.readable.input (out_at m.outs port) refl)
    leaf_lower width (Wire wire) h = wire_node m pool.nodes marks names wire k h.there live marked h.level
    leaf_lower width (Reg reg) h = reg_node m pool.nodes marks names reg k h.there live marked
    leaf_lower width (Not a) h = tt
    leaf_lower width (And a b) h = tt
    leaf_lower width (Or a b) h = tt
    leaf_lower width (Xor a b) h = tt
    leaf_lower width (Add a b) h = tt
    leaf_lower width (Sub a b) h = tt
    leaf_lower width (Eq a b) h = tt
    leaf_lower width (Ltu a b) h = tt
    leaf_lower width (Mux c a b) h = tt
    leaf_lower width (Cat a b) h = tt
    leaf_lower width (Slice a high low) h = tt
    leaf_lower width (Read array a) h = tt

    tree_is : tree_of pool.nodes k ≡ of_node (tree_of pool.nodes) (node_at pool.nodes k)
    tree_is = tree-here pool.nodes k is.nodes live

    here_lower : LeafIsLower (rank m pool.nodes marks) m bound (node_at pool.nodes k).op
    here_lower =
        leaf_lower (node_at pool.nodes k).width (node_at pool.nodes k).op
        (subst (λ t. TreeFits m (node_top m pool.nodes marks k) t) tree_is (reached_fits m pool is.nodes is.checked.fits k (are.only k marked)).tree)

    abbrev Marked : ℕ → Type 0
    Marked c = get_or marks c false ≡ true

    abbrev Below : ℕ → Type 0
    Below c = (c < k) × ((node_at pool.nodes c).level ≤ (node_at pool.nodes k).level)

    abbrev Under : ℕ → Type 0
    Under c = node_top m pool.nodes marks c ≤ top_of m.wires (of_node (tree_of pool.nodes) (node_at pool.nodes k))

    child_lower : (c : ℕ) → Marked c × (Below c × Under c) → ranks (node_name c) < bound
    child_lower c h =
        let top : node_top m pool.nodes marks k ≡ top_of m.wires (of_node (tree_of pool.nodes) (node_at pool.nodes k)) = ap (top_of m.wires) tree_is in
        let below : c < k = h.1.0.0 in
        let under : node_top m pool.nodes marks c ≤ top_of m.wires (of_node (tree_of pool.nodes) (node_at pool.nodes k)) = h.1.1 in
        node_node m pool.nodes marks names c k (omega arith) live h.0 marked (omega arith) below

    children_lower : EachChild (λ c. ranks (node_name c) < bound) (node_at pool.nodes k).op
    children_lower =
        each_child (λ c. Marked c × (Below c × Under c)) (λ c. ranks (node_name c) < bound) child_lower (node_at pool.nodes k).op
        (each_two Marked (λ c. Below c × Under c) (node_at pool.nodes k).op (are.children k marked)
        (each_two Below Under (node_at pool.nodes k).op (is.nodes.children k live)
        (child_tops m.wires (tree_of pool.nodes) (node_at pool.nodes k).width (node_at pool.nodes k).op)))

    value_lower : LineIsLower (rank m pool.nodes marks) (Some (net_line (node_at pool.nodes k).width (node_name k) (node_value m (node_at pool.nodes k).width (node_at pool.nodes k).op)))
    value_lower = op_lower (rank m pool.nodes marks) m bound (node_at pool.nodes k).width (node_at pool.nodes k).op here_lower children_lower

  node_lower : (k : ℕ) → k < length pool.nodes → (b : Bool) → get_or marks k false ≡ b
      → LineIsLower (rank m pool.nodes marks) (line_if b (net_line (node_at pool.nodes k).width (node_name k) (node_value m (node_at pool.nodes k).width (node_at pool.nodes k).op)))
  node_lower k live true e = value_lower k live e
  node_lower k live false e = tt

  -- ---- forward wires and outputs

  drive_lower : (w : ℕ) → w < length m.wires → (net : Net) → (wire_at m.wires w).driver ≡ Some net → ranks (node_name net.id.0) < ranks (wire_name m w)
  drive_lower w l net e =
      let d : DrivesWire m pool (wire_at m.wires w) net = is.checked.fits.wires w net l e in
      let top : node_top m pool.nodes marks net.id.0 ≤ net.level = tree_top m net.level (tree_of pool.nodes net.id.0) d.fits.tree in
      let below : net.level < (wire_at m.wires w).level = d.below in
      node_wire m pool.nodes marks names net.id.0 w d.fits.is.live l (are.drivers net.id.0 (OfWire w net l e refl)) (omega arith)

  out_lower : (p : ℕ) → p < 30 → (net : Net) → out_at m.outs p ≡ Some net → ranks (node_name net.id.0) < ranks (port_name p)
  out_lower p l net e =
      let d : DrivesPort m pool p net = is.checked.fits.outs p net l e in
      node_port m pool.nodes marks names net.id.0 p net d.fits.is.live l (are.drivers net.id.0 (OfPort p net l e refl)) e

  all_are_lower : all_lower (rank m pool.nodes marks) (lines_items (module_lines m pool.nodes marks)) ≡ true
  all_are_lower =
      spread_lower (rank m pool.nodes marks) (wire_line m) (from_regs m pool.nodes marks) (length m.wires) (λ w l. refl)
      (spread_lower (rank m pool.nodes marks) (reg_line m) (from_arrays m pool.nodes marks) (length m.regs) (λ r l. refl)
      (spread_lower (rank m pool.nodes marks) (array_line m) (from_nodes m pool.nodes marks) (length m.arrays) (λ a l. refl)
      (spread_lower (rank m pool.nodes marks) (node_line m pool.nodes marks) (from_drives m pool.nodes marks) (length pool.nodes)
      (λ k l. node_lower k l (get_or marks k false) refl)
      (spread_lower (rank m pool.nodes marks) (drive_line m) (from_nexts m pool.nodes marks) (length m.wires)
      (λ w l. assigned_lower (rank m pool.nodes marks) (wire_name m w) (wire_at m.wires w).driver (drive_lower w l))
      (spread_lower (rank m pool.nodes marks) (next_line m) (from_writes m pool.nodes marks) (length m.regs)
      (λ r l. clocked_lower (rank m pool.nodes marks) (reg_name m r) (reg_at m.regs r).width (reg_at m.regs r).reset (reg_at m.regs r).next)
      (spread_lower (rank m pool.nodes marks) (write_line m) (from_outs m pool.nodes marks) (length m.arrays)
      (λ a l. written_lower (rank m pool.nodes marks) (array_name m a) (array_at m.arrays a).write)
      (spread_lower (rank m pool.nodes marks) (out_line m) [] 30
      (λ p l. assigned_lower (rank m pool.nodes marks) (port_name p) (out_at m.outs p) (out_lower p l))
      refl)))))))

  -- ---- the bound

  items : places m pool.nodes marks + length m.wires + length (from_outs m pool.nodes marks) ≤ length (lines_items (module_lines m pool.nodes marks))
  unfolding total
  items =
      let a : count (λ k. get_or marks k false) 0 (length pool.nodes) + length m.wires + length m.wires + length (from_outs m pool.nodes marks)
      ≤ length (module_lines m pool.nodes marks) = lines_many m pool.nodes marks is.checked.driven.wires in
      let b : length (lines_items (module_lines m pool.nodes marks)) ≡ length (module_lines m pool.nodes marks) = items_many (module_lines m pool.nodes marks) in
      omega arith

  small : (x : List ℕ) → ranks x ≤ length (lines_items (module_lines m pool.nodes marks))
  small x =
      rank_within m pool.nodes marks (length (lines_items (module_lines m pool.nodes marks))) (omega (arith, items))
      (λ p net l e. omega (arith, items, outs_many m pool.nodes marks p net l e)) x

-- The drivers in the netlist of a checked module have ranks: nodes and forward wires by levels, and outputs behind them.
pub module_is_ranked : (m : ModuleValue) (pool : PoolValue) (marks : List Bool) → IsWritten m pool → AreMarks m pool.nodes marks
    → (rank : List ℕ → ℕ) × IsRanked (plain_of (netlist_of m pool.nodes marks)) rank
module_is_ranked m pool marks is are = (
  rank m pool.nodes marks,
  record {
    lower = lower_by (plain_of (netlist_of m pool.nodes marks)) (rank m pool.nodes marks) (all_are_lower m pool marks is are);
    small = small m pool marks is are;
  },
)
