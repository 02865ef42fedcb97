use Rattle.std.proofs.Common.{arith, length-drop}
use Rattle.pipe_drive.specs.Rows.{AddsRegs}
use Rattle.pipe_drive.proofs.Adds.{regs_then}
use Rattle.pipe_drive.proofs.make.«+make_regs».Goals as goal

pub returns-in-len1-up-clause-adds : goal.returns-in-len1-up-clause-adds
returns-in-len1-up-clause-adds t c =
    let e = c.reg.ensures in
    let one : AddsRegs c.args.m.now c.reg.new.self 1 = record { grows = e.grows; count = e.count; before = e.before; wires = e.wires; arrays = e.arrays; outs = e.outs; makes = e.makes; drivers = e.drivers } in
    regs_then _ one c.make_regs.ensures.adds (omega (arith, length-drop 1 c.args.shapes.now))
