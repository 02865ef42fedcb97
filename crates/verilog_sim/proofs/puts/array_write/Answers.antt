use Rattle.std.proofs.Common.{◌≡◌, ◌∙◌, ap, sym, Some}
use Rattle.verilog_mean.specs.Erase.{plain}
use Rattle.verilog_mean.specs.Cycle.Writing.{Puts}
use Rattle.verilog_resolve.specs.Names.{places}
use Rattle.verilog_resolve.specs.Flat.{Grown}
use Rattle.verilog_sim.specs.Puts.{put_one}
use Rattle.verilog_sim.specs.Stmts.{writing}
use Rattle.verilog_sim.specs.StmtTables.{lent_stmt, stmt_at}
use Rattle.verilog_sim.proofs.Done.{write_is, write_kept}
use Rattle.verilog_sim.proofs.puts.array_write.Goals as goal

pub returns-clause-value : goal.returns-clause-value
returns-clause-value c = λ regs cells ins w arrays val m held.
    let f : Grown = record { nodes = c.flatten.new.build.nodes.items; at = c.in_ok-enable-in-Some-Write.enable.at; width = c.in_ok-enable-in-Some-Write.enable.width } in
    let g : Grown = record { nodes = c.flatten-in-Some-Write.new.build.nodes.items; at = c.in_ok-index-in-Some-Write.index.at; width = c.in_ok-index-in-Some-Write.index.width } in
    let h : Grown = record { nodes = c.flatten-in-Some-Write-2.new.build.nodes.items; at = c.in_ok-data-in-Some-Write.data.at; width = c.in_ok-data-in-Some-Write.data.width } in
    let e : Puts (plain c.in-Some-Write.enable) (plain c.in-Some-Write.index) (plain c.in-Some-Write.driver.value) ≡ writing (stmt_at c.args.stmts.now c.args.name.now) =
    ap writing (sym (ap lent_stmt c.in-Some-Write.is ∙ ap Some c.in-Some-Write.field-0-is) ∙ c.find.ensures) in
    write_is regs cells ins w arrays val (places c.args.names.now) c.args.build.now.nodes.items m (plain c.in-Some-Write.enable) (plain c.in-Some-Write.index) (plain c.in-Some-Write.driver.value) f g h
    (c.in_ok-enable-in-Some-Write.ensures.means regs cells ins w arrays val) (c.in_ok-index-in-Some-Write.ensures.means regs cells ins w arrays val) (c.in_ok-data-in-Some-Write.ensures.means regs cells ins w arrays val)
    c.args.base c.args.size held
    ∙ ap (λ k. put_one w arrays val k c.args.base c.args.size held) e

pub returns-clause-kept : goal.returns-clause-kept
returns-clause-kept c = λ regs cells ins w arrays val m.
    let f : Grown = record { nodes = c.flatten.new.build.nodes.items; at = c.in_ok-enable-in-Some-Write.enable.at; width = c.in_ok-enable-in-Some-Write.enable.width } in
    let g : Grown = record { nodes = c.flatten-in-Some-Write.new.build.nodes.items; at = c.in_ok-index-in-Some-Write.index.at; width = c.in_ok-index-in-Some-Write.index.width } in
    let h : Grown = record { nodes = c.flatten-in-Some-Write-2.new.build.nodes.items; at = c.in_ok-data-in-Some-Write.data.at; width = c.in_ok-data-in-Some-Write.data.width } in
    write_kept regs cells ins w arrays val (places c.args.names.now) c.args.build.now.nodes.items m (plain c.in-Some-Write.enable) (plain c.in-Some-Write.index) (plain c.in-Some-Write.driver.value) f g h
    (c.in_ok-enable-in-Some-Write.ensures.means regs cells ins w arrays val) (c.in_ok-index-in-Some-Write.ensures.means regs cells ins w arrays val) (c.in_ok-data-in-Some-Write.ensures.means regs cells ins w arrays val)
