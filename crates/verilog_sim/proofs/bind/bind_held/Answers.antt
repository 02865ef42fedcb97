use Rattle.std.proofs.Common.{◌≡◌, ◌-◌, [], ◌∷◌, length, take, drop, ap, sym, ◌∙◌, subst, arith}
use Rattle.verilog_mean.specs.Erase.{plain_item, plain_items}
use Rattle.verilog_resolve.specs.Names.{places}
use Rattle.verilog_resolve.specs.Wires.{known}
use Rattle.verilog_resolve.proofs.Split.{split_first}
use Rattle.verilog_sim.specs.Layouts.{register_names}
use Rattle.verilog_sim.specs.Rooms.{cell_count}
use Rattle.verilog_sim.specs.Bindings.{AreSized, BindsItems, with_items}
use Rattle.verilog_sim.proofs.Bindings.{nothing, more_registers, more_cells}
use Rattle.verilog_sim.proofs.bind.bind_held.Goals as goal

pub loop-rest-preserved : goal.loop-rest-preserved
loop-rest-preserved c =
    let rest = c.loop-rest.rest.now in
    let item = c.item-item.result in
    let more = take (length rest - 1) (drop 1 rest) in
    let s : rest ≡ item ∷ more = split_first rest item c.in-len1-up.len_at_least c.item-item.is in
    let e = c.in_ok-next.ensures in
    let i = c.loop-rest.invariant in
    let items = plain_items c.args.items.now in
    let ns = c.args.build.now.nodes.items in
    let p = places c.args.names.now in
    let a = e.reg in
    let n = ap (λ z. length (register_names (plain_items z))) s ∙ more_registers (plain_item item) (plain_items more) in
    let t = i.1 in
    let b = e.base in
    let m = ap (λ z. cell_count (plain_items z)) s ∙ more_cells (plain_item item) (plain_items more) in
    let u = i.2 in (
      (subst (λ z. AreSized (plain_items z)) s i.0).1,
      omega (arith, a, n, t),
      omega (arith, b, m, u),
      e.scope,
      (e.same.0 ∙ i.4.0, e.same.1 ∙ i.4.1, e.same.2 ∙ i.4.2),
      ap (λ k. with_items k (plain_items more)) e.known ∙ ap (λ z. with_items (known c.loop-rest.names) (plain_items z)) (sym s) ∙ i.5,
      e.binds items (plain_items more) ns p
          (subst (λ z. BindsItems items (plain_items z) c.loop-rest.next.reg c.loop-rest.next.base ns c.loop-rest.build.nodes.items p (places c.loop-rest.names)) s i.6),
    )

pub returns-clause-binds : goal.returns-clause-binds
returns-clause-binds c =
    let items = plain_items c.args.items.now in
    let ns = c.args.build.now.nodes.items in
    let p = places c.args.names.now in
    let i = c.loop-rest.invariant in
    let z = nothing c.loop-rest.rest.now c.in_default.len_below in
    let t = i.1 in
    let n = ap (λ z. length (register_names (plain_items z))) z in
    let a : c.loop-rest.next.reg ≡ length (register_names items) = omega (arith, t, n) in
    let u = i.2 in
    let m = ap (λ z. cell_count (plain_items z)) z in
    let b : c.loop-rest.next.base ≡ cell_count items = omega (arith, u, m) in
    subst (λ k. BindsItems items [] k (cell_count items) ns c.loop-rest.build.nodes.items p (places c.loop-rest.names)) a
    (subst (λ k. BindsItems items [] c.loop-rest.next.reg k ns c.loop-rest.build.nodes.items p (places c.loop-rest.names)) b
    (subst (λ z. BindsItems items (plain_items z) c.loop-rest.next.reg c.loop-rest.next.base ns c.loop-rest.build.nodes.items p (places c.loop-rest.names)) z i.6))
