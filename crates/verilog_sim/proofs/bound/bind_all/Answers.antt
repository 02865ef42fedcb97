use Rattle.std.proofs.Common.{rules, ◌≡◌, ℕ, ◌<◌, ◌^◌, All, List, [], length, map, ap, sym, ◌∙◌, subst}
use Rattle.verilog_mean.specs.Erase.{plain_items, plain_ports}
use Rattle.verilog_resolve.specs.declared.names.Place.{Place}
use Rattle.verilog_resolve.specs.Names.{places}
use Rattle.verilog_resolve.specs.Wires.{AreOrdered, known, with_nets}
use Rattle.verilog_sim.specs.Layouts.{input_names, register_names}
use Rattle.verilog_sim.specs.Rooms.{cell_count}
use Rattle.verilog_sim.specs.Bindings.{AreNarrowPorts, AreSized, BindsItems, BindsPorts, with_items, with_ports}
use Rattle.verilog_sim.specs.Drives.{drive, drives_by}
use Rattle.verilog_sim.specs.Matched.{Knows}
use Rattle.verilog_sim.proofs.Facts.{inputs_narrow, held_sized, order_within, order_fine, knows_after, matches_after}
use Rattle.verilog_sim.proofs.bound.bind_all.Goals as goal

pub bind_inputs-requires-clause-narrow : goal.bind_inputs-requires-clause-narrow
bind_inputs-requires-clause-narrow c =
    let t = c.args.checked.now in
    let sp : c.as_slice-ports.result.now ≡ t.tree.ports = search rules in
    subst (λ z. AreNarrowPorts (plain_ports z)) (sym sp) (inputs_narrow t c.requires)

pub bind_held-requires-clause-sized : goal.bind_held-requires-clause-sized
bind_held-requires-clause-sized c =
    let t = c.args.checked.now in
    let si : c.as_slice-items.result.now ≡ t.tree.items = search rules in
    let r : c.in_ok-room.room.cells < 2 ^ 32 = search rules in
    subst (λ z. AreSized (plain_items z)) (sym si) (held_sized t c.requires (subst (λ k. k < 2 ^ 32) c.in_ok-room.ensures.cells r))

pub drivers_by-requires : goal.drivers_by-requires
drivers_by-requires c =
    let t = c.args.checked.now in
    let si : c.as_slice-items.result.now ≡ t.tree.items = search rules in
    let so : c.as_slice.result.now ≡ t.order.items = search rules in
    subst (λ z. All (λ n. n < length z) c.as_slice.result.now) (sym si) (subst (All (λ n. n < length t.tree.items)) (sym so) (order_within t c.requires))

pub bind_wires-requires-clause-ordered : goal.bind_wires-requires-clause-ordered
bind_wires-requires-clause-ordered c =
    let t = c.args.checked.now in
    let sp : c.as_slice-ports.result.now ≡ t.tree.ports = search rules in
    let si : c.as_slice-items.result.now ≡ t.tree.items = search rules in
    let so : c.as_slice.result.now ≡ t.order.items = search rules in
    let sd : c.as_slice-2.result.now ≡ c.in_ok-drivers.drivers.items = search rules in
    let k1 : ◌≡◌ {A = List ℕ → Place} (known c.bind_inputs.new.names) (with_ports (known c.new-names.result) (plain_ports c.as_slice-ports.result.now)) = c.in_ok-bind_inputs.ensures.known in
    let k2 : ◌≡◌ {A = List ℕ → Place} (known c.bind_held.new.names) (with_items (known c.bind_inputs.new.names) (plain_items c.as_slice-items.result.now)) = c.in_ok-bind_held.ensures.known in
    let k3 = k2 ∙ ap (λ k. with_items k (plain_items c.as_slice-items.result.now)) k1
    ∙ (λ i. with_items (with_ports (known c.new-names.result) (plain_ports (sp i))) (plain_items (si i))) in
    let e = ap (map drive) sd ∙ c.in_ok-drivers.ensures ∙ (λ i. drives_by (plain_items (si i)) (so i)) in
    subst (λ k. AreOrdered k c.as_slice-2.result.now) (sym k3) (order_fine t c.requires (known c.new-names.result) c.as_slice-2.result.now e)

pub returns-clause-knows : goal.returns-clause-knows
returns-clause-knows c =
    let t = c.args.checked.now in
    let sp : c.as_slice-ports.result.now ≡ t.tree.ports = search rules in
    let si : c.as_slice-items.result.now ≡ t.tree.items = search rules in
    let so : c.as_slice.result.now ≡ t.order.items = search rules in
    let sd : c.as_slice-2.result.now ≡ c.in_ok-drivers.drivers.items = search rules in
    let k1 : ◌≡◌ {A = List ℕ → Place} (known c.bind_inputs.new.names) (with_ports (known c.new-names.result) (plain_ports c.as_slice-ports.result.now)) = c.in_ok-bind_inputs.ensures.known in
    let k2 : ◌≡◌ {A = List ℕ → Place} (known c.bind_held.new.names) (with_items (known c.bind_inputs.new.names) (plain_items c.as_slice-items.result.now)) = c.in_ok-bind_held.ensures.known in
    let k3 = k2 ∙ ap (λ k. with_items k (plain_items c.as_slice-items.result.now)) k1
    ∙ (λ i. with_items (with_ports (known c.new-names.result) (plain_ports (sp i))) (plain_items (si i))) in
    let e = ap (map drive) sd ∙ c.in_ok-drivers.ensures ∙ (λ i. drives_by (plain_items (si i)) (so i)) in
    let k4 = c.in_ok-bind_wires.ensures.known ∙ ap (λ k. with_nets k c.as_slice-2.result.now) k3 in
    subst (Knows t.tree) (sym k4) (knows_after t c.requires (known c.new-names.result) c.as_slice-2.result.now e)

pub returns-clause-matches : goal.returns-clause-matches
returns-clause-matches c =
    let t = c.args.checked.now in
    let sp : c.as_slice-ports.result.now ≡ t.tree.ports = search rules in
    let si : c.as_slice-items.result.now ≡ t.tree.items = search rules in
    let so : c.as_slice.result.now ≡ t.order.items = search rules in
    let sd : c.as_slice-2.result.now ≡ c.in_ok-drivers.drivers.items = search rules in
    let e = ap (map drive) sd ∙ c.in_ok-drivers.ensures ∙ (λ i. drives_by (plain_items (si i)) (so i)) in
    let n0 = c.new-build.result.nodes.items in
    let n1 = c.bind_inputs.new.build.nodes.items in
    let n2 = c.bind_held.new.build.nodes.items in
    let p0 = places c.new-names.result in
    let p1 = places c.bind_inputs.new.names in
    let p2 = places c.bind_held.new.names in
    let P = c.as_slice-ports.result.now in
    let I = c.as_slice-items.result.now in
    matches_after t c.requires n0 n1 n2 c.bind_wires.new.build.nodes.items p0 p1 p2 (places c.bind_wires.new.names)
    (length (input_names (plain_ports t.tree.ports))) (length (register_names (plain_items t.tree.items))) (cell_count (plain_items t.tree.items)) c.as_slice-2.result.now e c.new-names.ensures
    (subst (λ z. BindsPorts (plain_ports z) [] (length (input_names (plain_ports z))) n0 n1 p0 p1) sp c.in_ok-bind_inputs.ensures.binds)
    (subst (λ z. BindsItems (plain_items z) [] (length (register_names (plain_items z))) (cell_count (plain_items z)) n1 n2 p1 p2) si c.in_ok-bind_held.ensures.binds)
    c.in_ok-bind_wires.ensures.values
