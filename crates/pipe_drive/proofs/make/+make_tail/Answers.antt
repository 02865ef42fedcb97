use Rattle.std.proofs.Common.{arith}
use Rattle.pipe_drive.specs.Rows.{AddsRegs}
use Rattle.pipe_drive.proofs.Adds.{regs_then}
use Rattle.pipe_drive.proofs.make.«+make_tail».Goals as goal

pub returns-then-places-gt0-clause-adds : goal.returns-then-places-gt0-clause-adds
returns-then-places-gt0-clause-adds t c =
    let e = c.reg.ensures in
    let f = c.reg-then-places-gt0.ensures in
    let g = c.reg-then-places-gt0-2.ensures in
    let one : AddsRegs c.args.m.now c.reg.new.self 1 = record { grows = e.grows; count = e.count; before = e.before; wires = e.wires; arrays = e.arrays; outs = e.outs; makes = e.makes; drivers = e.drivers } in
    let two : AddsRegs c.reg.new.self c.reg-then-places-gt0.new.self 1 = record { grows = f.grows; count = f.count; before = f.before; wires = f.wires; arrays = f.arrays; outs = f.outs; makes = f.makes; drivers = f.drivers } in
    let three : AddsRegs c.reg-then-places-gt0.new.self c.reg-then-places-gt0-2.new.self 1 = record { grows = g.grows; count = g.count; before = g.before; wires = g.wires; arrays = g.arrays; outs = g.outs; makes = g.makes; drivers = g.drivers } in
    let both : AddsRegs c.args.m.now c.reg-then-places-gt0.new.self 2 = regs_then 2 one two (omega arith) in
    let all : AddsRegs c.args.m.now c.reg-then-places-gt0-2.new.self 3 = regs_then 3 both three (omega arith) in
    regs_then _ all c.make_tail.ensures.adds (omega arith)
