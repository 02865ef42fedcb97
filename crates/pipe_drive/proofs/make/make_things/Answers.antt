use Rattle.std.proofs.Common.{arith}
use Rattle.pipe_drive.proofs.Adds.{made_all}
use Rattle.pipe_drive.proofs.make.make_things.Goals as goal

pub make_regs-requires-clause-room : goal.make_regs-requires-clause-room
make_regs-requires-clause-room c = omega (arith, c.make_wires.ensures.adds.grows.room)

pub make_chosen-requires : goal.make_chosen-requires
make_chosen-requires c = record { room = omega (arith, c.make_wires.ensures.adds.grows.room, c.make_regs.ensures.adds.grows.room) }

pub make_tail-requires : goal.make_tail-requires
make_tail-requires c = record { room = omega (arith, c.make_wires.ensures.adds.grows.room, c.make_regs.ensures.adds.grows.room, c.make_chosen.ensures.adds.grows.room) }

pub returns-clause-made : goal.returns-clause-made
returns-clause-made c =
    made_all c.args.reset_pc c.args.units c.args.places c.make_wires.ensures.adds c.make_wires.ensures.made c.make_regs.ensures.adds c.make_regs.ensures.made
    c.make_chosen.ensures.adds c.make_chosen.ensures.made c.make_tail.ensures.adds c.make_tail.ensures.made
