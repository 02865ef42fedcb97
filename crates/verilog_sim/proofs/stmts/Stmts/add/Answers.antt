use Rattle.std.proofs.Common.{Option, Some, Bool, true, false, cond, refl, ap, ◌≡◌, ◌∙◌}
use Rattle.std.specs.HashMap.{get_by}
use denote.Bor.{Bor}
use Rattle.core_words.specs.Names.{same_name}
use Rattle.verilog_tree.specs.declared.tree.Stmt.{Stmt}
use Rattle.verilog_mean.specs.Look.{pick_if}
use Rattle.verilog_sim.specs.StmtTables.{lent_stmt}
use Rattle.verilog_sim.proofs.stmts.Stmts.add.Goals as goal

lent_cond : (b : Bool) (s : Bor Stmt) (o : Option (Bor Stmt)) → lent_stmt (cond b (Some s) o) ≡ pick_if b s.now (lent_stmt o)
lent_cond true s o = refl
lent_cond false s o = refl

pub returns : goal.returns
returns c = let u = c.in_ok-insert.ensures.updates in λ y.
    ap lent_stmt (u.0 (record { ref_ptr = (0, 0); now = y })) ∙ lent_cond (same_name c.args.name.now y) c.args.stmt (get_by (λ k. same_name y k.now) c.args.self.now.map)
