use Rattle.std.proofs.Common.{◌≡◌, ◌≤◌, ◌∷◌, Some, length, sym, subst}
use Rattle.verilog_mean.specs.Plain.Item.{Array}
use Rattle.verilog_mean.specs.Erase.{plain_item}
use Rattle.verilog_flat.specs.Writes.{AreWrites}
use Rattle.verilog_resolve.specs.Names.{places}
use Rattle.verilog_sim.specs.HeldItems.{held_in, held_item}
use Rattle.verilog_sim.specs.Puts.{PutsDone}
use Rattle.verilog_sim.specs.StmtTables.{stmt_at}
use Rattle.verilog_sim.proofs.Done.{put_done, writes_push}
use Rattle.verilog_sim.proofs.Others.{found_is}
use Rattle.verilog_sim.proofs.puts.push_write.Goals as goal

pub returns-in_ok-push-in-Some-cells-clause-done : goal.returns-in_ok-push-in-Some-cells-clause-done
returns-in_ok-push-in-Some-cells-clause-done c = λ items rest ns b.
    let h = c.in-Some.held in
    let i = plain_item c.args.item.now in
    let table = stmt_at c.args.stmts.now in
    let p = places c.args.names.now in
    let old = c.args.build.now.nodes in
    let new = c.array_write.new.build.nodes in
    let size = c.in-Some-cells.size in
    let q = c.in_ok-write-in-Some-cells.ensures in
    let e : Array h.width h.name.now size ≡ i = found_is i (Array h.width h.name.now size) (subst (λ z. Some (held_item h.width h.name.now z) ≡ held_in i) c.in-Some-cells.is c.in-Some.ensures) in
    put_done table p items rest ns old.items new.items (subst (λ k. k ≤ length new.items) old.ok.0 (subst (λ k. old.len ≤ k) new.ok.0 q.longer)) q.kept
    c.args.base h.width size c.args.build.now.cells h.name.now c.args.writes.now.items c.push.new.self.items c.in_ok-write-in-Some-cells.write c.in_ok-push-in-Some-cells.ensures.items
    (subst (λ k. AreWrites k c.args.build.now.cells c.args.writes.now.items) old.ok.0 c.requires.below) q.value
    (subst (λ j. PutsDone table p items (j ∷ rest) c.args.base ns old.items c.args.writes.now.items) (sym e) b)

pub returns-in_ok-push-in-Some-cells-clause-below : goal.returns-in_ok-push-in-Some-cells-clause-below
returns-in_ok-push-in-Some-cells-clause-below c =
    let q = c.in_ok-write-in-Some-cells.ensures in
    subst (AreWrites c.array_write.new.build.nodes.len c.array_write.new.build.cells) (sym c.in_ok-push-in-Some-cells.ensures.items)
    (writes_push c.args.build.now.nodes.len c.array_write.new.build.nodes.len c.array_write.new.build.cells c.in_ok-write-in-Some-cells.write c.args.writes.now.items q.longer q.within
    (subst (λ k. AreWrites c.args.build.now.nodes.len k c.args.writes.now.items) (sym q.same.1) c.requires.below))
