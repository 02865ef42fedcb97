use Rattle.std.proofs.Common.{arith, length-drop}
use Rattle.pipe_drive.specs.Rows.{AddsWires}
use Rattle.pipe_drive.proofs.Adds.{wires_then}
use Rattle.pipe_drive.proofs.make.«+make_wires».Goals as goal

pub returns-in-len1-up-clause-adds : goal.returns-in-len1-up-clause-adds
returns-in-len1-up-clause-adds t c =
    let e = c.wire.ensures in
    let one : AddsWires c.args.m.now c.wire.new.self 1 = record { grows = e.grows; count = e.count; before = e.before; regs = e.regs; arrays = e.arrays; outs = e.outs; makes = e.makes; drivers = e.drivers } in
    wires_then _ one c.make_wires.ensures.adds (omega (arith, length-drop 1 c.args.levels.now))
