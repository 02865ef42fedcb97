-- The table of statements by the names that they give a value to.
use Rattle.std.specs.Prelude.{ℕ, List, Option, Some, None}
use Rattle.std.specs.HashMap.{get_by}
use denote.Bor.{Bor}
use Rattle.core_words.specs.Names.{same_name}
use Rattle.verilog_tree.specs.declared.tree.Stmt.{Stmt}
use Rattle.verilog_sim.specs.declared.stmts.Stmts.{Stmts}

abbrev pub lent_stmt : Option (Bor Stmt) → Option Stmt
lent_stmt None = None
lent_stmt (Some s) = Some s.now

-- the statement of a name
abbrev pub stmt_at : Stmts → List ℕ → Option Stmt
stmt_at table x = lent_stmt (get_by (λ k. same_name x k.now) table.map)
