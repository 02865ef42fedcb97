use Rattle.std.proofs.Common.{◌≡◌, ◌+◌, ◌≤◌, ℕ, List, map, drop, vec_len}
use Rattle.verilog_flat.specs.Builds.{IsSameRoom}
use Rattle.verilog_resolve.specs.Names.{places, IsIn}
use Rattle.verilog_resolve.specs.View.{view, parts_of}
use Rattle.verilog_resolve.specs.Flat.{flat, flat_parts}
use Rattle.verilog_resolve.specs.Fine.{AreFine, IsBegun, HasOperand, begun_width, wide, wide_parts}
use Rattle.verilog_resolve.proofs.expr.+resolve.Given as goal

abbrev pub invariant-loop-part : goal.invariant-loop-part
invariant-loop-part l =
    let rest = parts_of (map view (drop l.part-index l.part-items)) in
    (flat_parts (places l.names) rest l.all l.build.nodes.items ≡ flat (places l.names) (view l.e) l.initial.build.nodes.items)
    × AreFine (places l.names) rest
    × IsBegun (vec_len l.build.nodes) (wide_parts (places l.names) rest) l.all
    × HasOperand l.all rest
    × (begun_width l.all + wide_parts (places l.names) rest ≡ wide (places l.names) (view l.e))
    × ((x : List ℕ) → IsIn (vec_len l.build.nodes) l.build.cells (places l.names x))
    × (vec_len l.initial.build.nodes ≤ vec_len l.build.nodes)
    × IsSameRoom l.build l.initial.build
