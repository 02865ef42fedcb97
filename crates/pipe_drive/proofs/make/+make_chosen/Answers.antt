use Rattle.std.proofs.Common.{arith}
use Rattle.pipe_drive.specs.Rows.{AddsRegs}
use Rattle.pipe_drive.proofs.Adds.{regs_then}
use Rattle.pipe_drive.proofs.make.«+make_chosen».Goals as goal

pub returns-then-units-gt0-clause-adds : goal.returns-then-units-gt0-clause-adds
returns-then-units-gt0-clause-adds t c =
    let e = c.reg.ensures in
    let one : AddsRegs c.args.m.now c.reg.new.self 1 = record { grows = e.grows; count = e.count; before = e.before; wires = e.wires; arrays = e.arrays; outs = e.outs; makes = e.makes; drivers = e.drivers } in
    regs_then _ one c.make_chosen.ensures.adds (omega arith)
