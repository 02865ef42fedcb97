-- The part of an entry, in a module with its pool and the services that are offered.
use Rattle.std.specs.Prelude.{ℕ, cond, Bool, List, map, Option, None, Some}
use Rattle.hw_pool.specs.declared.node.Node.{Node}
use Rattle.hw_pool.specs.Trees.{Tree, tree_of}
use Rattle.hw_expr.specs.declared.net.Net.{Net}
use Rattle.hw_module.specs.declared.rows.WireRow.{WireRow}
use Rattle.hw_module.specs.declared.rows.RegRow.{RegRow}
use Rattle.hw_module.specs.declared.rows.ArrayRow.{ArrayRow}
use Rattle.hw_module.specs.declared.rows.ArrayWrite.{ArrayWrite}
use Rattle.hw_module.specs.Rows.{ModuleValue, wire_at, reg_at, array_at, out_at}
use Rattle.service_reg.specs.declared.service.Service.{Service}
use Rattle.service_ports.specs.Ports.{Ports}
use Rattle.service_ports.specs.Registry.{RegistryValue, single, offer_of}
use Rattle.plug_part.specs.Part.{Part, PartWire, PartReg, PartArray, TreeWrite, PortTrees}
use Rattle.plug_part.specs.Owned.{is_owner, is_own_input, is_out_of, is_driven_by, ports_of}

module _ (nodes : List Node) where
  -- a net, a driver, a write and ports, unfolded to their trees
  abbrev pub net_tree : Net → Tree
  net_tree net = tree_of nodes net.id.0

  abbrev pub tree_option : Option Net → Option Tree
  tree_option None = None
  tree_option (Some net) = Some (net_tree net)

  abbrev pub write_trees : Option ArrayWrite → Option TreeWrite
  write_trees None = None
  write_trees (Some w) = Some (record { enable = net_tree w.enable; addr = net_tree w.addr; value = net_tree w.value })

  abbrev pub port_trees : Option Ports → Option PortTrees
  port_trees None = None
  port_trees (Some p) = Some (record { inputs = p.inputs; outputs = map net_tree p.outputs })

  -- a row, where it is the entry's; the driver of an input of its own services is hidden
  abbrev pub own_wire : (entry : ℕ) (input : Bool) → WireRow → Option PartWire
  own_wire entry input row = cond (is_owner row.owner entry) (Some (record { width = row.width; level = row.level; driver = cond input None (tree_option row.driver) })) None

  abbrev pub own_reg : (entry : ℕ) → RegRow → Option PartReg
  own_reg entry row = cond (is_owner row.owner entry) (Some (record { width = row.width; reset = row.reset; next = tree_option row.next })) None

  abbrev pub own_array : (entry : ℕ) → ArrayRow → Option PartArray
  own_array entry row = cond (is_owner row.owner entry) (Some (record { width = row.width; bits = row.bits; write = write_trees row.write })) None

-- the part of an entry that takes these services of others
unfoldable pub part_of : (takes : Service → Bool) (entry : ℕ) → ModuleValue → List Node → RegistryValue → Part
part_of takes entry m nodes reg = record {
  wires = λ k. own_wire nodes entry (is_own_input reg entry k) (wire_at m.wires k);
  regs = λ k. own_reg nodes entry (reg_at m.regs k);
  arrays = λ k. own_array nodes entry (array_at m.arrays k);
  drives = λ k. cond (is_driven_by reg entry k) (tree_option nodes (wire_at m.wires k).driver) None;
  outs = λ p. cond (is_out_of reg entry p) (tree_option nodes (out_at m.outs p)) None;
  offers = λ s. port_trees nodes (offer_of reg entry s);
  took = λ s. cond (takes s) (port_trees nodes (ports_of (single reg s))) None;
}
