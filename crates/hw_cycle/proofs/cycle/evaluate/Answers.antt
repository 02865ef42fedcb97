use Rattle.hw_cycle.specs.State.{held_in}
use Rattle.hw_cycle.specs.Inputs.{ins_of}
use Rattle.hw_cycle.proofs.Commits.{settled}
use Rattle.hw_cycle.proofs.cycle.evaluate.Goals as goal

pub returns : goal.returns
returns c =
    settled c.args.m.now c.args.pool.now.nodes (held_in c.args.taken.now.regs.now c.args.taken.now.cells.now) (ins_of c.args.taken.now.ins.now) c.reach.new.marks c.settle.new.values c.reach.ensures c.settle.ensures
