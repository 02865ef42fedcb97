use Rattle.std.proofs.Common.{◌≡◌, ◌+◌, ◌≤◌, ℕ, List, vec_len, length}
use Rattle.verilog_mean.specs.Erase.{plain_items}
use Rattle.verilog_flat.specs.Builds.{IsSameRoom}
use Rattle.verilog_flat.specs.Writes.{AreWrites}
use Rattle.verilog_resolve.specs.Names.{places, IsIn}
use Rattle.verilog_sim.specs.Bindings.{AreSized}
use Rattle.verilog_sim.specs.Rooms.{cell_count}
use Rattle.verilog_sim.specs.Puts.{HavePut, PutsDone}
use Rattle.verilog_sim.specs.StmtTables.{stmt_at}
use Rattle.verilog_sim.proofs.puts.array_writes.Given as goal

abbrev pub invariant-loop-rest : goal.invariant-loop-rest
invariant-loop-rest l =
    AreSized (plain_items l.rest)
    × HavePut (places l.names) (stmt_at l.stmts) (plain_items l.rest)
    × ((x : List ℕ) → IsIn (vec_len l.build.nodes) l.build.cells (places l.names x))
    × AreWrites (vec_len l.build.nodes) l.build.cells l.writes.items
    × (l.base + cell_count (plain_items l.rest) ≡ cell_count (plain_items l.items))
    × (vec_len l.initial.build.nodes ≤ vec_len l.build.nodes)
    × IsSameRoom l.build l.initial.build
    × PutsDone (stmt_at l.stmts) (places l.names) (plain_items l.items) (plain_items l.rest) l.base l.initial.build.nodes.items l.build.nodes.items l.writes.items

abbrev pub decreases-loop-rest : goal.decreases-loop-rest
decreases-loop-rest l = length l.rest
