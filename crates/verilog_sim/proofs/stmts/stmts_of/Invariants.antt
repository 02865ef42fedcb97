use Rattle.std.proofs.Common.{◌≡◌, length}
use Rattle.verilog_sim.specs.Stmts.{last_from, last_of}
use Rattle.verilog_sim.specs.StmtTables.{stmt_at}
use Rattle.verilog_sim.proofs.stmts.stmts_of.Given as goal

abbrev pub invariant-loop-rest : goal.invariant-loop-rest
invariant-loop-rest l = last_from (stmt_at l.table) l.rest ≡ last_of l.items

abbrev pub decreases-loop-rest : goal.decreases-loop-rest
decreases-loop-rest l = length l.rest
