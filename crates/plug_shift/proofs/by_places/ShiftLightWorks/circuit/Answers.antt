use Rattle.std.proofs.Common.{◌+◌, arith, None}
use Rattle.hw_gates.proofs.Steps.{adds_of}
use Rattle.hw_module.proofs.Drivers.{drivers_stay}
use Rattle.unit_steps.proofs.RegSteps.{can_take, has_taken}
use Rattle.plug_shift.proofs.by_places.ShiftLightWorks.circuit.Goals as goal

pub drive_regs-requires-clause-few : goal.drive_regs-requires-clause-few
drive_regs-requires-clause-few c = let there = c.requires.regs.1.0.there in let few = c.requires.few in omega (arith, there, few)

pub drive_regs-requires-clause-fit : goal.drive_regs-requires-clause-fit
drive_regs-requires-clause-fit c =
    let d = c.args.b.now.design in
    let q = c.light_nets-nets.new.pool in
    let n = c.light_nets-nets.ensures in
    let nets = c.light_nets-nets.result in
    let regs = c.requires.regs in (
      can_take d q c.args.b.now.entry (c.args.mark + 1) 5 None nets.count regs.0 n.count_net.0 n.count_scope n.count_net.1,
      (can_take d q c.args.b.now.entry (c.args.mark + 1 + 1) 32 None nets.held regs.1.0 n.held_net.0 n.held_scope n.held_net.1, tt),
    )

pub returns-clause-driven : goal.returns-clause-driven
returns-clause-driven c =
    let d = c.args.b.now.design in
    let new = c.drive_regs.new.b.design in
    let q = c.light_nets-nets.new.pool in
    let n = c.light_nets-nets.ensures in
    let nets = c.light_nets-nets.result in
    let regs = c.requires.regs in
    let taken = c.drive_regs.ensures.taken in (
      has_taken d new q c.args.b.now.entry (c.args.mark + 1) 5 None _ nets.count regs.0 taken.0 n.count_net.0 n.count,
      (has_taken d new q c.args.b.now.entry (c.args.mark + 1 + 1) 32 None _ nets.held regs.1.0 taken.1.0 n.held_net.0 n.held, tt),
    )

pub returns-clause-drivers : goal.returns-clause-drivers
returns-clause-drivers c =
    c.drive_regs.ensures.drivers
    (drivers_stay c.args.b.now.design c.args.pool.now c.light_nets-nets.new.pool 26 (adds_of _ _ 26 c.light_nets-nets.ensures.step) c.requires.drivers)
