use Rattle.std.proofs.Common.{◌≡◌, ◌+◌, ◌≤◌, ℕ, List, vec_len, length}
use Rattle.verilog_mean.specs.Erase.{plain_items}
use Rattle.verilog_flat.specs.Builds.{IsSameRoom}
use Rattle.verilog_flat.specs.Flat.{AllBelow}
use Rattle.verilog_resolve.specs.Names.{places, IsIn}
use Rattle.verilog_sim.specs.Bindings.{AreSized}
use Rattle.verilog_sim.specs.Layouts.{register_names}
use Rattle.verilog_sim.specs.Nexts.{HaveNext, NextsDone}
use Rattle.verilog_sim.specs.StmtTables.{stmt_at}
use Rattle.verilog_sim.proofs.nexts.next_nodes.Given as goal

abbrev pub invariant-loop-rest : goal.invariant-loop-rest
invariant-loop-rest l =
    AreSized (plain_items l.rest)
    × HaveNext (places l.names) (stmt_at l.stmts) (plain_items l.rest)
    × ((x : List ℕ) → IsIn (vec_len l.build.nodes) l.build.cells (places l.names x))
    × AllBelow (vec_len l.build.nodes) l.next.items
    × (vec_len l.next + length (register_names (plain_items l.rest)) ≡ length (register_names (plain_items l.items)))
    × (vec_len l.initial.build.nodes ≤ vec_len l.build.nodes)
    × IsSameRoom l.build l.initial.build
    × NextsDone (stmt_at l.stmts) (places l.names) (plain_items l.items) (plain_items l.rest) l.initial.build.nodes.items l.build.nodes.items l.next.items

abbrev pub decreases-loop-rest : goal.decreases-loop-rest
decreases-loop-rest l = length l.rest
