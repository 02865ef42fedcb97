use Rattle.std.proofs.Common.{◌∙◌, ◌*◌, List, length, None, arith, ap}
use Rattle.hw_gates.proofs.Steps.{adds_of}
use Rattle.hw_module.specs.declared.rows.Owner.TheVariants.{Pipe}
use Rattle.hw_module.specs.declared.rows.RegRow.{RegRow}
use Rattle.hw_module.specs.declared.rows.WireRow.{WireRow}
use Rattle.hw_module.specs.Rows.{reg_at, wire_at}
use Rattle.hw_module.proofs.Drivers.{drivers_stay}
use Rattle.hw_module.proofs.Frames.{grows_then}
use Rattle.hw_module.proofs.Makes.{makes_then}
use Rattle.plug_part.specs.Named.{trees_of}
use Rattle.service_ports.specs.Ports.{exec_ports}
use Rattle.pipe_build.proofs.AllNets.{nets_on}
use Rattle.pipe_build.proofs.Bears.{bears_later, later}
use Rattle.pipe_build.proofs.Has.{can_drive, can_move, later_grown, reg_has, same_reg, wire_has}
use Rattle.pipe_build.proofs.unit.drive_unit.Goals as goal

pub unit_drivers-d-requires-clause-nets : goal.unit_drivers-d-requires-clause-nets
unit_drivers-d-requires-clause-nets c = (c.requires.nets.0, c.requires.nets.1, c.requires.nets.3)

pub drive_wires-requires-clause-fit : goal.drive_wires-requires-clause-fit
drive_wires-requires-clause-fit c =
    let m = c.args.m.now in
    let ready = c.requires.ready in
    let nets = nets_on (later c.unit_drivers-d.ensures.step) c.requires.nets.3 in
    let slot = nets.known.regs.slot in
    let d = c.unit_drivers-d.ensures.drivers c.requires.nets.0 c.requires.nets.1 (trees_of c.args.pool.now.nodes (exec_ports c.args.exec.ports)) c.requires.nets.2 c.requires.nets.3 in
    (can_drive m ready.inputs.0 ready.free.0 (omega arith) d.go, (can_drive m ready.inputs.1.0 ready.free.1.0 (omega arith) slot.row, (can_drive m ready.inputs.1.1.0 ready.free.1.1.0 (omega arith) slot.pc, (can_drive m ready.inputs.1.1.1.0 ready.free.1.1.1.0 (omega arith) slot.word, (can_drive m ready.inputs.1.1.1.1.0 ready.free.1.1.1.1.0 (omega arith) slot.a, (can_drive m ready.inputs.1.1.1.1.1.0 ready.free.1.1.1.1.1.0 (omega arith) slot.b, (can_drive m ready.inputs.1.1.1.1.1.1.0 ready.free.1.1.1.1.1.1.0 (omega arith) d.clear, tt)))))))

pub move_regs-requires-clause-fit : goal.move_regs-requires-clause-fit
move_regs-requires-clause-fit c =
    let m = c.args.m.now in
    let m1 = c.drive_wires.new.m in
    let only = c.drive_wires.ensures.only in
    let ready = c.requires.ready in
    let d = c.unit_drivers-d.ensures.drivers c.requires.nets.0 c.requires.nets.1 (trees_of c.args.pool.now.nodes (exec_ports c.args.exec.ports)) c.requires.nets.2 c.requires.nets.3 in (
      can_move m1 (same_reg m m1 c.args.chosen 1 only.regs ready.row) (ap (λ (rs : List RegRow). (reg_at rs c.args.chosen).owner) only.regs ∙ ready.own)
          (ap (λ (rs : List RegRow). (reg_at rs c.args.chosen).next) only.regs ∙ ready.bare)
          (bears_later (later_grown m m1 7 c.unit_drivers-d.new.pool only.grows) d.next),
      tt,
    )

pub returns-clause-unit : goal.returns-clause-unit
returns-clause-unit c = λ nodes p take commits nets.
    let m = c.args.m.now in
    let m1 = c.drive_wires.new.m in
    let m2 = c.move_regs.new.m in
    let pool = c.unit_drivers-d.new.pool in
    let exec = c.args.exec in
    let ready = c.requires.ready in
    let moves = c.move_regs.ensures.only in
    let drives = c.drive_wires.ensures.only in
    let slot = (nets_on (later c.unit_drivers-d.ensures.step) nets).known.regs.slot in
    let d = c.unit_drivers-d.ensures.drivers p take (trees_of nodes (exec_ports exec.ports)) commits nets in
    let row = same_reg m m1 c.args.chosen 1 drives.regs ready.row in
    let stays = moves.grows.regs c.args.chosen row.there in
    record {
      chosen = reg_has m2 c.args.chosen None (let e = moves.count in let l = row.there in omega arith) (stays.width ∙ row.wide)
          (stays.reset ∙ ap (λ (rs : List RegRow). (reg_at rs c.args.chosen).reset) drives.regs ∙ ready.reset) c.move_regs.ensures.driven.0 d.next;
      go = wire_has m2 exec.ports.go (let l = ready.inputs.0.there in let e = drives.count in let f = ap length moves.wires in omega arith) (ap (λ (ws : List WireRow). (wire_at ws exec.ports.go).driver) moves.wires ∙ c.drive_wires.ensures.driven.0) d.go;
      row = wire_has m2 exec.ports.row (let l = ready.inputs.1.0.there in let e = drives.count in let f = ap length moves.wires in omega arith) (ap (λ (ws : List WireRow). (wire_at ws exec.ports.row).driver) moves.wires ∙ c.drive_wires.ensures.driven.1.0) slot.row;
      pc = wire_has m2 exec.ports.pc (let l = ready.inputs.1.1.0.there in let e = drives.count in let f = ap length moves.wires in omega arith) (ap (λ (ws : List WireRow). (wire_at ws exec.ports.pc).driver) moves.wires ∙ c.drive_wires.ensures.driven.1.1.0) slot.pc;
      word = wire_has m2 exec.ports.word (let l = ready.inputs.1.1.1.0.there in let e = drives.count in let f = ap length moves.wires in omega arith) (ap (λ (ws : List WireRow). (wire_at ws exec.ports.word).driver) moves.wires ∙ c.drive_wires.ensures.driven.1.1.1.0) slot.word;
      a = wire_has m2 exec.ports.a (let l = ready.inputs.1.1.1.1.0.there in let e = drives.count in let f = ap length moves.wires in omega arith) (ap (λ (ws : List WireRow). (wire_at ws exec.ports.a).driver) moves.wires ∙ c.drive_wires.ensures.driven.1.1.1.1.0) slot.a;
      b = wire_has m2 exec.ports.b (let l = ready.inputs.1.1.1.1.1.0.there in let e = drives.count in let f = ap length moves.wires in omega arith) (ap (λ (ws : List WireRow). (wire_at ws exec.ports.b).driver) moves.wires ∙ c.drive_wires.ensures.driven.1.1.1.1.1.0) slot.b;
      clear = wire_has m2 exec.ports.clear (let l = ready.inputs.1.1.1.1.1.1.0.there in let e = drives.count in let f = ap length moves.wires in omega arith) (ap (λ (ws : List WireRow). (wire_at ws exec.ports.clear).driver) moves.wires ∙ c.drive_wires.ensures.driven.1.1.1.1.1.1.0) d.clear;
    }

pub returns-clause-only : goal.returns-clause-only
returns-clause-only c =
    let m = c.args.m.now in
    let m1 = c.drive_wires.new.m in
    let m2 = c.move_regs.new.m in
    let moves = c.move_regs.ensures.only in
    let drives = c.drive_wires.ensures.only in
    record {
      grows = grows_then m m1 m2 7 1 (8 * 1) drives.grows moves.grows (omega arith);
      others = λ k miss. ap (λ (ws : List WireRow). wire_at ws k) moves.wires ∙ drives.others k miss;
      below = λ k l. moves.below k l ∙ ap (λ (rs : List RegRow). reg_at rs k) drives.regs;
      above = λ k l. moves.above k l ∙ ap (λ (rs : List RegRow). reg_at rs k) drives.regs;
      count = ap length moves.wires ∙ drives.count;
      count_regs = moves.count ∙ ap length drives.regs;
      arrays = moves.arrays ∙ drives.arrays;
      outs = moves.outs ∙ drives.outs;
      makes = λ r right. makes_then Pipe r m m1 m2 7 1 (8 * 1) (drives.makes r right) (moves.makes r) (omega arith);
    }

pub returns-clause-drivers : goal.returns-clause-drivers
returns-clause-drivers c = λ h. c.move_regs.ensures.drivers (c.drive_wires.ensures.drivers (drivers_stay c.args.m.now c.args.pool.now c.unit_drivers-d.new.pool 8
    (adds_of _ _ 8 c.unit_drivers-d.ensures.step) h))
