use Rattle.std.proofs.Common.{◌≡◌, ◌∙◌, ap, sym, Some}
use Rattle.verilog_mean.specs.Erase.{plain}
use Rattle.verilog_mean.specs.Cycle.{next_reg, reset_name}
use Rattle.verilog_mean.specs.Cycle.Clocked.{Takes}
use Rattle.verilog_sim.specs.Stmts.{clocked}
use Rattle.verilog_sim.specs.StmtTables.{lent_stmt, stmt_at}
use Rattle.verilog_sim.proofs.nexts.next_node.Goals as goal

pub returns-in_ok-found-in-Some-Next-clause-value : goal.returns-in_ok-found-in-Some-Next-clause-value
returns-in_ok-found-in-Some-Next-clause-value c = λ regs cells ins w arrays val m old.
    let e : Takes (plain c.in-Some-Next.driver.value) ≡ clocked (stmt_at c.args.stmts.now c.args.name.now) =
    ap clocked (sym (ap lent_stmt c.in-Some-Next.is ∙ ap Some c.in-Some-Next.field-0-is) ∙ c.find.ensures) in
    (c.in_ok-found-in-Some-Next.ensures.means regs cells ins w arrays val m).is ∙ ap (λ k. next_reg w arrays val (val reset_name) old k) e

pub returns-in_ok-found-in-Some-Next-clause-kept : goal.returns-in_ok-found-in-Some-Next-clause-kept
returns-in_ok-found-in-Some-Next-clause-kept c = λ regs cells ins w arrays val m. (c.in_ok-found-in-Some-Next.ensures.means regs cells ins w arrays val m).keeps
