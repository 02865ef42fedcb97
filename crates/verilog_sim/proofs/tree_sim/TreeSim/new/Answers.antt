use Rattle.std.proofs.Common.{rules, ◌≡◌, ℕ, ◌<◌, ◌^◌, List, [], Option, map, replicate, ap, sym, ◌∙◌, subst}
use Rattle.verilog_tree.specs.declared.tree.Stmt.{Stmt}
use Rattle.verilog_mean.specs.Erase.{plain_items, plain_ports, plain_tree}
use Rattle.verilog_mean.specs.Zero.{zero_state}
use Rattle.verilog_flat.specs.Flat.{AllBelow}
use Rattle.verilog_resolve.specs.Names.{node_of, places}
use Rattle.verilog_sim.specs.Simulates.{Shows, SimulatesBy}
use Rattle.verilog_sim.specs.Layouts.{layout_of, output_names}
use Rattle.verilog_sim.specs.Rooms.{cell_count}
use Rattle.verilog_sim.specs.Bindings.{AreSized}
use Rattle.verilog_sim.specs.Nexts.{HaveNext, NextsDone}
use Rattle.verilog_sim.specs.Puts.{HavePut, PutsDone}
use Rattle.verilog_sim.specs.Stmts.{last_of}
use Rattle.verilog_sim.specs.StmtTables.{stmt_at}
use Rattle.verilog_sim.proofs.Facts.{held_sized}
use Rattle.verilog_sim.proofs.Whole.{below_more, nexts_have, outs_below, outs_nets, puts_have, simulated}
use Rattle.verilog_sim.proofs.Zeros.{zero_shown}
use Rattle.verilog_sim.proofs.tree_sim.TreeSim.new.Goals as goal

pub next_nodes-requires-clause-sized : goal.next_nodes-requires-clause-sized
next_nodes-requires-clause-sized c =
    let t = c.args.checked.now in
    let si : c.as_slice-items.result.now ≡ t.tree.items = search rules in
    subst (λ z. AreSized (plain_items z)) (sym si) (held_sized t c.requires (subst (λ k. k < 2 ^ 32) c.in_ok-names.ensures.cells c.in_ok-names.ensures.few))

pub next_nodes-requires-clause-have : goal.next_nodes-requires-clause-have
next_nodes-requires-clause-have c =
    let t = c.args.checked.now in
    let p = places c.in_ok-names.field-0.names in
    let si : c.as_slice-items.result.now ≡ t.tree.items = search rules in
    let st : ◌≡◌ {A = List ℕ → Option Stmt} (stmt_at c.in_ok-stmts.stmts) (last_of t.tree.items) = c.in_ok-stmts.ensures ∙ ap last_of si in
    subst (λ f. HaveNext p f (plain_items c.as_slice-items.result.now)) (sym st)
    (subst (λ z. HaveNext p (last_of t.tree.items) (plain_items z)) (sym si) (nexts_have t c.requires p c.in_ok-names.ensures.knows))

pub array_writes-requires-clause-sized : goal.array_writes-requires-clause-sized
array_writes-requires-clause-sized c =
    let t = c.args.checked.now in
    let si : c.as_slice-items.result.now ≡ t.tree.items = search rules in
    subst (λ z. AreSized (plain_items z)) (sym si) (held_sized t c.requires (subst (λ k. k < 2 ^ 32) c.in_ok-names.ensures.cells c.in_ok-names.ensures.few))

pub array_writes-requires-clause-have : goal.array_writes-requires-clause-have
array_writes-requires-clause-have c =
    let t = c.args.checked.now in
    let p = places c.in_ok-names.field-0.names in
    let si : c.as_slice-items.result.now ≡ t.tree.items = search rules in
    let st : ◌≡◌ {A = List ℕ → Option Stmt} (stmt_at c.in_ok-stmts.stmts) (last_of t.tree.items) = c.in_ok-stmts.ensures ∙ ap last_of si in
    subst (λ f. HavePut p f (plain_items c.as_slice-items.result.now)) (sym st)
    (subst (λ z. HavePut p (last_of t.tree.items) (plain_items z)) (sym si) (puts_have t c.requires p c.in_ok-names.ensures.knows))

pub new-requires-clause-next : goal.new-requires-clause-next
new-requires-clause-next c =
    below_more c.next_nodes.new.build.nodes.len c.array_writes.new.build.nodes.len c.in_ok-next.next.items c.in_ok-writes.ensures.longer c.in_ok-next.ensures.below

pub new-requires-clause-outs : goal.new-requires-clause-outs
new-requires-clause-outs c =
    let t = c.args.checked.now in
    let p = places c.in_ok-names.field-0.names in
    let sp : c.as_slice-ports.result.now ≡ t.tree.ports = search rules in
    let so = c.in_ok-outs.ensures ∙ ap (λ z. map (λ x. node_of (p x)) (output_names (plain_ports z))) sp in
    subst (AllBelow c.array_writes.new.build.nodes.len) (sym so)
    (outs_below c.array_writes.new.build.nodes.len c.array_writes.new.build.cells p (output_names (plain_ports t.tree.ports)) (outs_nets t c.requires p c.in_ok-names.ensures.knows) c.in_ok-writes.ensures.scope)

pub returns-clause-simulates : goal.returns-clause-simulates
returns-clause-simulates c =
    let t = c.args.checked.now in
    let m = plain_tree t.tree in
    let p = places c.in_ok-names.field-0.names in
    let ns = c.in_ok-names.field-0.build.nodes.items in
    let n1 = c.next_nodes.new.build.nodes in
    let n2 = c.array_writes.new.build.nodes.items in
    let nexts = c.in_ok-next.next.items in
    let writes = c.in_ok-writes.writes.items in
    let sim = c.in_ok-flat.flat in
    let sp : c.as_slice-ports.result.now ≡ t.tree.ports = search rules in
    let si : c.as_slice-items.result.now ≡ t.tree.items = search rules in
    let st : ◌≡◌ {A = List ℕ → Option Stmt} (stmt_at c.in_ok-stmts.stmts) (last_of t.tree.items) = c.in_ok-stmts.ensures ∙ ap last_of si in
    let so = c.in_ok-outs.ensures ∙ ap (λ z. map (λ x. node_of (p x)) (output_names (plain_ports z))) sp in
    let e = c.in_ok-flat.ensures.circuit in
    subst (λ z. SimulatesBy m (layout_of m) z.items sim.next.items sim.writes.items sim.outs.items) (sym e.0)
    (subst (λ z. SimulatesBy m (layout_of m) n2 z sim.writes.items sim.outs.items) (sym e.1)
    (subst (λ z. SimulatesBy m (layout_of m) n2 nexts z sim.outs.items) (sym e.2)
    (subst (λ z. SimulatesBy m (layout_of m) n2 nexts writes z) (sym (e.3 ∙ so))
    (simulated t c.requires p c.in_ok-names.ensures.knows ns n1.items n2 (cell_count (plain_items t.tree.items)) nexts writes c.in_ok-names.ensures.matches
    (subst (λ f. NextsDone f p (plain_items t.tree.items) [] ns n1.items nexts) st
    (subst (λ z. NextsDone (stmt_at c.in_ok-stmts.stmts) p (plain_items z) [] ns n1.items nexts) si c.in_ok-next.ensures.done))
    (subst (λ f. PutsDone f p (plain_items t.tree.items) [] (cell_count (plain_items t.tree.items)) n1.items n2 writes) st
    (subst (λ z. PutsDone (stmt_at c.in_ok-stmts.stmts) p (plain_items z) [] (cell_count (plain_items z)) n1.items n2 writes) si c.in_ok-writes.ensures.done))
    (subst (λ k. AllBelow k nexts) n1.ok.0 c.in_ok-next.ensures.below)))))

pub returns-clause-zero : goal.returns-clause-zero
returns-clause-zero c =
    let t = c.args.checked.now in
    let m = plain_tree t.tree in
    let z = c.in_ok-flat.ensures.zero in
    let b = c.array_writes.new.build in
    let er = c.in_ok-writes.ensures.same.0 ∙ c.in_ok-next.ensures.same.0 ∙ c.in_ok-names.ensures.regs in
    let en = c.in_ok-writes.ensures.same.1 ∙ c.in_ok-next.ensures.same.1 ∙ c.in_ok-names.ensures.cells in
    subst (λ regs. Shows m (layout_of m) (zero_state m) regs c.in_ok-flat.flat.cells.items) (sym z.0)
    (subst (λ cells. Shows m (layout_of m) (zero_state m) (replicate b.regs 0) cells) (sym z.1) (zero_shown t c.requires b.regs b.cells er en))
