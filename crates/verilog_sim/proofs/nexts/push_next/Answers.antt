use Rattle.std.proofs.Common.{◌≡◌, ◌≤◌, ◌∷◌, Some, length, sym, subst}
use Rattle.verilog_mean.specs.Plain.Item.{Reg, Array}
use Rattle.verilog_mean.specs.Erase.{plain_item}
use Rattle.verilog_flat.specs.Flat.{AllBelow}
use Rattle.verilog_resolve.specs.Names.{places}
use Rattle.verilog_sim.specs.HeldItems.{held_in, held_item}
use Rattle.verilog_sim.specs.Nexts.{NextsDone}
use Rattle.verilog_sim.specs.StmtTables.{stmt_at}
use Rattle.verilog_sim.proofs.Done.{next_done, below_push}
use Rattle.verilog_sim.proofs.Others.{found_is, other_next}
use Rattle.verilog_sim.proofs.nexts.push_next.Goals as goal

pub returns-in_default-clause-done : goal.returns-in_default-clause-done
returns-in_default-clause-done c = λ items rest ns b.
    other_next rest (stmt_at c.args.stmts.now) (places c.args.names.now) items ns c.args.build.now.nodes.items c.args.next.now.items (plain_item c.args.item.now) c.in_default.ensures b

pub returns-in_ok-push-in-None-clause-done : goal.returns-in_ok-push-in-None-clause-done
returns-in_ok-push-in-None-clause-done c = λ items rest ns b.
    let h = c.in-Some.held in
    let i = plain_item c.args.item.now in
    let table = stmt_at c.args.stmts.now in
    let p = places c.args.names.now in
    let old = c.args.build.now.nodes in
    let new = c.next_node.new.build.nodes in
    let q = c.in_ok-at-in-None.ensures in
    let e : Reg h.width h.name.now ≡ i = found_is i (Reg h.width h.name.now) (subst (λ z. Some (held_item h.width h.name.now z) ≡ held_in i) c.in-None.is c.in-Some.ensures) in
    next_done table p items rest ns old.items new.items (subst (λ k. k ≤ length new.items) old.ok.0 (subst (λ k. old.len ≤ k) new.ok.0 q.longer)) q.kept
    h.width h.name.now c.args.next.now.items c.push.new.self.items c.in_ok-at-in-None.at c.in_ok-push-in-None.ensures.items
    (subst (λ k. AllBelow k c.args.next.now.items) old.ok.0 c.requires.below) q.value
    (subst (λ j. NextsDone table p items (j ∷ rest) ns old.items c.args.next.now.items) (sym e) b)

pub returns-in_ok-push-in-None-clause-below : goal.returns-in_ok-push-in-None-clause-below
returns-in_ok-push-in-None-clause-below c =
    let q = c.in_ok-at-in-None.ensures in
    subst (AllBelow c.next_node.new.build.nodes.len) (sym c.in_ok-push-in-None.ensures.items)
    (below_push c.args.build.now.nodes.len c.next_node.new.build.nodes.len c.in_ok-at-in-None.at c.args.next.now.items q.longer q.within c.requires.below)

pub returns-in-Some-cells-clause-done : goal.returns-in-Some-cells-clause-done
returns-in-Some-cells-clause-done c = λ items rest ns b.
    let h = c.in-Some.held in
    let i = plain_item c.args.item.now in
    let table = stmt_at c.args.stmts.now in
    let size = c.in-Some-cells.field-0 in
    let e : Array h.width h.name.now size ≡ i = found_is i (Array h.width h.name.now size) (subst (λ z. Some (held_item h.width h.name.now z) ≡ held_in i) c.in-Some-cells.is c.in-Some.ensures) in
    subst (λ j. NextsDone table (places c.args.names.now) items (j ∷ rest) ns c.args.build.now.nodes.items c.args.next.now.items) (sym e) b
