use Rattle.std.proofs.Common.{◌≡◌, ◌-◌, ◌∷◌, length, take, drop, ap, ◌∙◌, subst, arith}
use Rattle.verilog_mean.specs.Erase.{plain_item, plain_items}
use Rattle.verilog_resolve.specs.Names.{places}
use Rattle.verilog_resolve.proofs.Split.{split_first}
use Rattle.verilog_sim.specs.Rooms.{cell_count}
use Rattle.verilog_sim.specs.Bindings.{AreSized}
use Rattle.verilog_sim.specs.Puts.{HavePut, PutsDone}
use Rattle.verilog_sim.specs.StmtTables.{stmt_at}
use Rattle.verilog_sim.proofs.Bindings.{more_cells}
use Rattle.verilog_sim.proofs.Others.{have_put_rest}
use Rattle.verilog_sim.proofs.puts.array_writes.Goals as goal

pub loop-rest-preserved : goal.loop-rest-preserved
loop-rest-preserved c =
    let rest = c.loop-rest.rest.now in
    let item = c.item-item.result in
    let more = take (length rest - 1) (drop 1 rest) in
    let s : rest ≡ item ∷ more = split_first rest item c.in-len1-up.len_at_least c.item-item.is in
    let e = c.in_ok-base.ensures in
    let i = c.loop-rest.invariant in
    let items = plain_items c.args.items.now in
    let ns = c.args.build.now.nodes.items in
    let p = places c.args.names.now in
    let table = stmt_at c.args.stmts.now in
    let l = e.longer in
    let k = i.5 in
    let b = e.base in
    let m = ap (λ z. cell_count (plain_items z)) s ∙ more_cells (plain_item item) (plain_items more) in
    let u = i.4 in (
      (subst (λ z. AreSized (plain_items z)) s i.0).1,
      have_put_rest p table (plain_item item) (plain_items more) (subst (λ z. HavePut p table (plain_items z)) s i.1),
      e.scope,
      e.below,
      omega (arith, b, m, u),
      omega (arith, l, k),
      (e.same.0 ∙ i.6.0, e.same.1 ∙ i.6.1, e.same.2 ∙ i.6.2),
      e.done items (plain_items more) ns
          (subst (λ z. PutsDone table p items (plain_items z) c.loop-rest.base ns c.loop-rest.build.nodes.items c.loop-rest.writes.items) s i.7),
    )
