use Rattle.pipe_build.proofs.Rest.{can_bus, can_regs, can_system, can_told, has_rest, only_rest}
use Rattle.pipe_build.proofs.drive_all.drive_rest.Goals as goal

pub drive_system-requires-clause-fit : goal.drive_system-requires-clause-fit
drive_system-requires-clause-fit c = can_system c.requires.fit c.drive_inputs.ensures.only

pub move_own-requires-clause-fit : goal.move_own-requires-clause-fit
move_own-requires-clause-fit c = can_regs c.requires.fit c.drive_inputs.ensures.only c.drive_system.ensures.only

pub drive_told-requires-clause-fit : goal.drive_told-requires-clause-fit
drive_told-requires-clause-fit c = can_told c.requires.fit c.drive_inputs.ensures.only c.drive_system.ensures.only c.move_own.ensures.only

pub drive_bus-requires-clause-fit : goal.drive_bus-requires-clause-fit
drive_bus-requires-clause-fit c = can_bus c.requires.fit c.drive_inputs.ensures.only c.drive_system.ensures.only c.move_own.ensures.only c.drive_told.ensures.only

pub returns-clause-driven : goal.returns-clause-driven
returns-clause-driven c =
    has_rest c.requires.fit c.drive_inputs.ensures.only c.drive_system.ensures.only c.move_own.ensures.only c.drive_told.ensures.only c.drive_bus.ensures.only
    c.drive_inputs.ensures.driven c.drive_system.ensures.driven c.move_own.ensures.driven c.drive_told.ensures.driven c.drive_bus.ensures.driven

pub returns-clause-only : goal.returns-clause-only
returns-clause-only c =
    only_rest c.requires.fit c.drive_inputs.ensures.only c.drive_system.ensures.only c.move_own.ensures.only c.drive_told.ensures.only c.drive_bus.ensures.only
