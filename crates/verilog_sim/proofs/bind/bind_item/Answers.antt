use Rattle.std.proofs.Common.{◌≡◌, ◌+◌, [], ◌∷◌, Some, vec_len, ap, sym, subst, arith}
use Rattle.verilog_mean.specs.Plain.Item.{Reg, Array}
use Rattle.verilog_mean.specs.Erase.{plain_item}
use Rattle.verilog_resolve.specs.Names.{places}
use Rattle.verilog_sim.specs.Rooms.{cell_count}
use Rattle.verilog_sim.specs.Bindings.{BindsItems}
use Rattle.verilog_sim.specs.HeldItems.{held_in, held_item}
use Rattle.verilog_sim.proofs.Bindings.{bind_reg, bind_cells}
use Rattle.verilog_sim.proofs.Others.{found_is, other_binds}
use Rattle.verilog_sim.proofs.bind.bind_item.Goals as goal

pub returns-in_default-clause-binds : goal.returns-in_default-clause-binds
returns-in_default-clause-binds c = λ items rest ns p b.
    other_binds rest items ns c.args.build.now.nodes.items p (places c.args.names.now) c.args.next.reg c.args.next.base (plain_item c.args.item.now) c.in_default.ensures b

pub returns-in_ok-bind_node-in-None-clause-binds : goal.returns-in_ok-bind_node-in-None-clause-binds
returns-in_ok-bind_node-in-None-clause-binds c = λ items rest ns p b.
    let h = c.in-Some.held in
    let i = plain_item c.args.item.now in
    let e : Reg h.width h.name.now ≡ i = found_is i (Reg h.width h.name.now) (subst (λ z. Some (held_item h.width h.name.now z) ≡ held_in i) c.in-None.is c.in-Some.ensures) in
    bind_reg items rest c.args.next.reg c.args.next.base h.width h.name.now ns c.args.build.now.nodes.items c.bind_node.new.build.nodes.items p (places c.args.names.now) (places c.bind_node.new.names)
    c.in_ok-bind_node-in-None.ensures.values
    (subst (λ j. BindsItems items (j ∷ rest) c.args.next.reg c.args.next.base ns c.args.build.now.nodes.items p (places c.args.names.now)) (sym e) b)

pub returns-in_ok-bind_array-in-Some-cells-clause-scope : goal.returns-in_ok-bind_array-in-Some-cells-clause-scope
returns-in_ok-bind_array-in-Some-cells-clause-scope c =
    let h = c.in-Some.held in
    let i = plain_item c.args.item.now in
    let size = c.in-Some-cells.size in
    let e : Array h.width h.name.now size ≡ i = found_is i (Array h.width h.name.now size) (subst (λ z. Some (held_item h.width h.name.now z) ≡ held_in i) c.in-Some-cells.is c.in-Some.ensures) in
    let n : size + 0 ≡ cell_count (i ∷ []) = ap (λ j. cell_count (j ∷ [])) e in
    let r = c.requires.cells in
    c.in_ok-bind_array-in-Some-cells.ensures.scope (vec_len c.args.build.now.nodes) c.args.build.now.cells (omega (arith, n, r)) c.requires.scope

pub returns-in_ok-bind_array-in-Some-cells-clause-binds : goal.returns-in_ok-bind_array-in-Some-cells-clause-binds
returns-in_ok-bind_array-in-Some-cells-clause-binds c = λ items rest ns p b.
    let h = c.in-Some.held in
    let i = plain_item c.args.item.now in
    let size = c.in-Some-cells.size in
    let e : Array h.width h.name.now size ≡ i = found_is i (Array h.width h.name.now size) (subst (λ z. Some (held_item h.width h.name.now z) ≡ held_in i) c.in-Some-cells.is c.in-Some.ensures) in
    bind_cells items rest c.args.next.reg c.args.next.base h.width size h.name.now ns c.args.build.now.nodes.items p (places c.args.names.now) (places c.bind_array.new.names)
    c.in_ok-bind_array-in-Some-cells.ensures.values
    (subst (λ j. BindsItems items (j ∷ rest) c.args.next.reg c.args.next.base ns c.args.build.now.nodes.items p (places c.args.names.now)) (sym e) b)
