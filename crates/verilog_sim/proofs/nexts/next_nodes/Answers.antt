use Rattle.std.proofs.Common.{◌≡◌, ◌+◌, ◌-◌, ◌∷◌, length, vec_len, take, drop, ap, sym, ◌∙◌, subst, arith}
use Rattle.verilog_mean.specs.Erase.{plain_item, plain_items}
use Rattle.verilog_resolve.specs.Names.{places}
use Rattle.verilog_resolve.proofs.Split.{split_first}
use Rattle.verilog_sim.specs.Layouts.{register_names}
use Rattle.verilog_sim.specs.Bindings.{AreSized}
use Rattle.verilog_sim.specs.Nexts.{HaveNext, NextsDone}
use Rattle.verilog_sim.specs.StmtTables.{stmt_at}
use Rattle.verilog_sim.proofs.Bindings.{nothing}
use Rattle.verilog_sim.proofs.Others.{have_next_rest}
use Rattle.verilog_sim.proofs.nexts.next_nodes.Goals as goal

pub loop-rest-preserved : goal.loop-rest-preserved
loop-rest-preserved c =
    let rest = c.loop-rest.rest.now in
    let item = c.item-item.result in
    let more = take (length rest - 1) (drop 1 rest) in
    let s : rest ≡ item ∷ more = split_first rest item c.in-len1-up.len_at_least c.item-item.is in
    let e = c.in_ok-push_next.ensures in
    let i = c.loop-rest.invariant in
    let items = plain_items c.args.items.now in
    let ns = c.args.build.now.nodes.items in
    let p = places c.args.names.now in
    let table = stmt_at c.args.stmts.now in
    let l = e.longer in
    let k = i.5 in (
      (subst (λ z. AreSized (plain_items z)) s i.0).1,
      have_next_rest p table (plain_item item) (plain_items more) (subst (λ z. HaveNext p table (plain_items z)) s i.1),
      e.scope,
      e.below,
      e.room (plain_items more) ∙ ap (λ z. vec_len c.loop-rest.next + length (register_names (plain_items z))) (sym s) ∙ i.4,
      omega (arith, l, k),
      (e.same.0 ∙ i.6.0, e.same.1 ∙ i.6.1, e.same.2 ∙ i.6.2),
      e.done items (plain_items more) ns
          (subst (λ z. NextsDone table p items (plain_items z) ns c.loop-rest.build.nodes.items c.loop-rest.next.items) s i.7),
    )

pub returns-clause-done : goal.returns-clause-done
returns-clause-done c =
    let items = plain_items c.args.items.now in
    let p = places c.args.names.now in
    let table = stmt_at c.args.stmts.now in
    let z = nothing c.loop-rest.rest.now c.in_default.len_below in
    subst (λ z. NextsDone table p items (plain_items z) c.args.build.now.nodes.items c.loop-rest.build.nodes.items c.loop-rest.next.items) z c.loop-rest.invariant.7
