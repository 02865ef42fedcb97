-- The netlist of a small module: a register of the pipeline with a reset, one of entry 2 without, a forward wire and an
-- array of entry 3. One node is not marked.
use Rattle.std.proofs.Common.{◌≡◌, ℕ, true, false, Bool, List, [], ◌∷◌, Option, Some, None, codes, refl}
use Rattle.std.specs.Fmt.{digits}
use Rattle.core_ports.specs.Ports.{all_ports, name_of}
use Rattle.hw_pool.specs.declared.node.Node.{Node}
use Rattle.hw_pool.specs.declared.node.Op.TheVariants as op
use Rattle.hw_pool.specs.declared.node.NodeId.{NodeId}
use Rattle.hw_expr.specs.declared.net.Net as net
use Rattle.hw_module.specs.declared.rows.Owner.TheVariants.{Pipe, Entry}
use Rattle.hw_module.specs.Ports.{port_at}
use Rattle.hw_module.specs.Rows.{ModuleValue}
use Rattle.verilog_tree.specs.declared.expr.BinSign.TheVariants as sign
use Rattle.verilog_netlist.specs.Netlist.{Line}
use Rattle.verilog_netlist.specs.Netlist.Value.{Constant, Copy, Bits, Cell, Both, Choice}
use Rattle.verilog_netlist.specs.Netlist.Line.{Wire, Net, Reg, Array, Assign, Next, Reset, Write}
use Rattle.module_netlist.specs.Names.{node_name, wire_name}
use Rattle.module_netlist.specs.Lines.{netlist_of, ports_from}

abbrev pub id : ℕ → NodeId
id k = record { 0 = k }

abbrev pub by : (k width level : ℕ) → net.Net
by k width level = record { id = id k; width = width; level = level }

abbrev pub nodes : List Node
nodes =
    record { op = op.Reg 0; width = 8; level = 0 }
    ∷ record { op = op.Lit 1; width = 8; level = 0 }
    ∷ record { op = op.Add (id 0) (id 1); width = 8; level = 0 }
    ∷ record { op = op.Wire 0; width = 8; level = 1 }
    ∷ record { op = op.Input 3; width = 1; level = 0 }
    ∷ record { op = op.Slice (id 0) 1 0; width = 2; level = 0 }
    ∷ record { op = op.Read 0 (id 5); width = 8; level = 0 }
    ∷ record { op = op.Not (id 4); width = 1; level = 0 }
    ∷ record { op = op.Mux (id 4) (id 3) (id 6); width = 8; level = 1 }
    ∷ record { op = op.Lit 0; width = 32; level = 0 }
    ∷ record { op = op.Lit 9; width = 4; level = 0 }
    ∷ record { op = op.Lit 0x1f; width = 5; level = 0 }
    ∷ []

-- each node but that of number 7
abbrev pub marks : List Bool
marks = true ∷ true ∷ true ∷ true ∷ true ∷ true ∷ true ∷ false ∷ true ∷ true ∷ true ∷ true ∷ []

abbrev pub bit : Option net.Net
bit = Some (by 4 1 0)

abbrev pub word : Option net.Net
word = Some (by 9 32 0)

abbrev pub small : ModuleValue
small = record {
  wires = record { owner = Entry 3; width = 8; level = 1; driver = Some (by 2 8 0) } ∷ [];
  regs = record { owner = Pipe; width = 8; reset = Some 5; next = Some (by 8 8 1) } ∷ record { owner = Entry 2; width = 1; reset = None; next = bit } ∷ [];
  arrays = record { owner = Entry 3; width = 8; bits = 2; write = Some (record { enable = by 4 1 0; addr = by 5 2 0; value = by 8 8 1 }) } ∷ [];
  outs =
      None ∷ None
      ∷ bit ∷ None ∷ word ∷ None ∷ None ∷ None
      ∷ bit ∷ None ∷ bit ∷ word ∷ word ∷ Some (by 10 4 0) ∷ None ∷ None ∷ None
      ∷ None ∷ None ∷ None
      ∷ bit ∷ Some (by 5 2 0) ∷ word ∷ word ∷ Some (by 11 5 0) ∷ word ∷ word
      ∷ bit ∷ bit ∷ word ∷ [];
  room = 100;
}

-- what is declared, the marked nodes, the drivers of forward wires, registers and arrays, and those of outputs
abbrev pub small_lines : List Line
small_lines =
    Wire 8 (codes "p3_w0")
    ∷ Reg 8 (codes "s_r0")
    ∷ Reg 1 (codes "p2_r1")
    ∷ Array 8 (codes "p3_a0") 2
    ∷ Net 8 (codes "n0") (Copy (codes "s_r0"))
    ∷ Net 8 (codes "n1") (Constant 8 1)
    ∷ Net 8 (codes "n2") (Both sign.Plus (codes "n0") (codes "n1"))
    ∷ Net 8 (codes "n3") (Copy (codes "p3_w0"))
    ∷ Net 1 (codes "n4") (Copy (codes "ib_cmd_ready"))
    ∷ Net 2 (codes "n5") (Bits (codes "n0") 1 0)
    ∷ Net 8 (codes "n6") (Cell (codes "p3_a0") (codes "n5"))
    ∷ Net 8 (codes "n8") (Choice (codes "n4") (codes "n3") (codes "n6"))
    ∷ Net 32 (codes "n9") (Constant 32 0)
    ∷ Net 4 (codes "n10") (Constant 4 9)
    ∷ Net 5 (codes "n11") (Constant 5 0x1f)
    ∷ Assign (codes "p3_w0") (codes "n2")
    ∷ Reset (codes "s_r0") 8 5 (codes "n8")
    ∷ Next (codes "p2_r1") (codes "n4")
    ∷ Write (codes "n4") (codes "p3_a0") (codes "n5") (codes "n8")
    ∷ Assign (codes "ib_cmd_valid") (codes "n4")
    ∷ Assign (codes "ib_cmd_addr") (codes "n9")
    ∷ Assign (codes "db_cmd_valid") (codes "n4")
    ∷ Assign (codes "db_cmd_write") (codes "n4")
    ∷ Assign (codes "db_cmd_addr") (codes "n9")
    ∷ Assign (codes "db_cmd_data") (codes "n9")
    ∷ Assign (codes "db_cmd_mask") (codes "n10")
    ∷ Assign (codes "ev_valid") (codes "n4")
    ∷ Assign (codes "ev_kind") (codes "n5")
    ∷ Assign (codes "ev_pc") (codes "n9")
    ∷ Assign (codes "ev_word") (codes "n9")
    ∷ Assign (codes "ev_rd") (codes "n11")
    ∷ Assign (codes "ev_value") (codes "n9")
    ∷ Assign (codes "ev_cause") (codes "n9")
    ∷ Assign (codes "fe_valid") (codes "n4")
    ∷ Assign (codes "fe_take") (codes "n4")
    ∷ Assign (codes "fe_pc") (codes "n9")
    ∷ []

small_netlist : netlist_of small nodes marks ≡ record { name = codes "core"; ports = ports_from all_ports; lines = small_lines }
unfolding digits name_of port_at
small_netlist = refl

-- names of several digits
tenth_node : node_name 10 ≡ codes "n10"
unfolding digits
tenth_node = refl

last_entry : wire_name (record small { wires = record { owner = Entry 4294967295; width = 8; level = 1; driver = None } ∷ [] }) 0 ≡ codes "p4294967295_w0"
unfolding digits
last_entry = refl
