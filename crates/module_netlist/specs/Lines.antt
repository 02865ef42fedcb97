-- The netlist of a module: first what is declared, then the marked nodes by number, each behind its children, then what
-- drives forward wires, registers, arrays and outputs.
use Rattle.std.specs.Prelude.{ℕ, zero, suc, Bool, true, false, List, [], ◌∷◌, length, get_or, Option, Some, None, codes}
use Rattle.core_ports.specs.Ports.{CorePort, all_ports, name_of, is_input, width_of}
use Rattle.verilog_tree.specs.declared.expr.BinSign.TheVariants as sign
use Rattle.verilog_mean.specs.Look.{put}
use Rattle.verilog_netlist.specs.Netlist.{Value, Line, Port, Netlist}
use Rattle.verilog_netlist.specs.Netlist.Value.{Constant, Copy, Bits, Cell, Not, Both, Choice, Join}
use Rattle.verilog_netlist.specs.Netlist.Line.{Wire, Net, Reg, Array, Assign, Next, Reset, Write}
use Rattle.hw_pool.specs.declared.node.Node.{Node}
use Rattle.hw_pool.specs.declared.node.Op.{Op}
use Rattle.hw_pool.specs.declared.node.Op.TheVariants as op
use Rattle.hw_pool.specs.Nodes.{node_at}
use Rattle.hw_expr.specs.declared.net.Net as net
use Rattle.hw_module.specs.declared.rows.ArrayWrite.{ArrayWrite}
use Rattle.hw_module.specs.Rows.{ModuleValue, wire_at, reg_at, array_at, out_at}
use Rattle.module_netlist.specs.Names.{node_name, wire_name, reg_name, array_name, port_name}

-- f k, f (k + 1) and so on, n of them, before the rest
abbrev pub spread : {A : Type 0} → (ℕ → Option A) → (k n : ℕ) → List A → List A
spread f k zero rest = rest
spread f k (suc n) rest = put (f k) (spread f (suc k) n rest)

-- an output's driver or a forward wire's, by the name of its node
abbrev pub assigned : (target : List ℕ) → Option net.Net → Option Line
assigned x None = None
assigned x (Some n) = Some (Assign x (node_name n.id.0))

abbrev pub clocked : (target : List ℕ) → (width : ℕ) → (reset : Option ℕ) → Option net.Net → Option Line
clocked x width reset None = None
clocked x width None (Some n) = Some (Next x (node_name n.id.0))
clocked x width (Some start) (Some n) = Some (Reset x width start (node_name n.id.0))

abbrev pub written : (target : List ℕ) → Option ArrayWrite → Option Line
written x None = None
written x (Some w) = Some (Write (node_name w.enable.id.0) x (node_name w.addr.id.0) (node_name w.value.id.0))

abbrev pub line_if : Bool → Line → Option Line
line_if true l = Some l
line_if false l = None

module _ (m : ModuleValue) where
  -- the operator of a node over the names of its children
  abbrev pub node_value : (width : ℕ) → Op → Value
  node_value width (op.Lit v) = Constant width v
  node_value width (op.Input p) = Copy (port_name p)
  node_value width (op.Wire w) = Copy (wire_name m w)
  node_value width (op.Reg r) = Copy (reg_name m r)
  node_value width (op.Not a) = Not (node_name a.0)
  node_value width (op.And a b) = Both sign.And (node_name a.0) (node_name b.0)
  node_value width (op.Or a b) = Both sign.Or (node_name a.0) (node_name b.0)
  node_value width (op.Xor a b) = Both sign.Xor (node_name a.0) (node_name b.0)
  node_value width (op.Add a b) = Both sign.Plus (node_name a.0) (node_name b.0)
  node_value width (op.Sub a b) = Both sign.Minus (node_name a.0) (node_name b.0)
  node_value width (op.Eq a b) = Both sign.Equal (node_name a.0) (node_name b.0)
  node_value width (op.Ltu a b) = Both sign.Less (node_name a.0) (node_name b.0)
  node_value width (op.Mux c a b) = Choice (node_name c.0) (node_name a.0) (node_name b.0)
  node_value width (op.Cat a b) = Join (node_name a.0) (node_name b.0)
  node_value width (op.Slice a high low) = Bits (node_name a.0) high low
  node_value width (op.Read x a) = Cell (array_name m x) (node_name a.0)

  abbrev pub wire_line : ℕ → Option Line
  wire_line w = Some (Wire (wire_at m.wires w).width (wire_name m w))

  abbrev pub reg_line : ℕ → Option Line
  reg_line r = Some (Reg (reg_at m.regs r).width (reg_name m r))

  abbrev pub array_line : ℕ → Option Line
  array_line a = Some (Array (array_at m.arrays a).width (array_name m a) (array_at m.arrays a).bits)

  abbrev pub drive_line : ℕ → Option Line
  drive_line w = assigned (wire_name m w) (wire_at m.wires w).driver

  abbrev pub next_line : ℕ → Option Line
  next_line r = clocked (reg_name m r) (reg_at m.regs r).width (reg_at m.regs r).reset (reg_at m.regs r).next

  abbrev pub write_line : ℕ → Option Line
  write_line a = written (array_name m a) (array_at m.arrays a).write

  abbrev pub out_line : ℕ → Option Line
  out_line p = assigned (port_name p) (out_at m.outs p)

  module _ (nodes : List Node) (marks : List Bool) where
    abbrev pub node_line : ℕ → Option Line
    node_line k = line_if (get_or marks k false) (Net (node_at nodes k).width (node_name k) (node_value (node_at nodes k).width (node_at nodes k).op))

    abbrev pub from_outs : List Line
    from_outs = spread out_line 0 30 []

    abbrev pub from_writes : List Line
    from_writes = spread write_line 0 (length m.arrays) from_outs

    abbrev pub from_nexts : List Line
    from_nexts = spread next_line 0 (length m.regs) from_writes

    abbrev pub from_drives : List Line
    from_drives = spread drive_line 0 (length m.wires) from_nexts

    abbrev pub from_nodes : List Line
    from_nodes = spread node_line 0 (length nodes) from_drives

    abbrev pub from_arrays : List Line
    from_arrays = spread array_line 0 (length m.arrays) from_nodes

    abbrev pub from_regs : List Line
    from_regs = spread reg_line 0 (length m.regs) from_arrays

    abbrev pub module_lines : List Line
    module_lines = spread wire_line 0 (length m.wires) from_regs

-- the ports of a core
abbrev pub ports_from : List CorePort → List Port
ports_from [] = []
ports_from (q ∷ qs) = record { input = is_input q; width = width_of q; name = name_of q } ∷ ports_from qs

abbrev pub netlist_of : (m : ModuleValue) (nodes : List Node) (marks : List Bool) → Netlist
netlist_of m nodes marks = record { name = codes "core"; ports = ports_from all_ports; lines = module_lines m nodes marks }
