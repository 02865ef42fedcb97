use Rattle.hw_cycle.proofs.Arithmetic.{part_is}
use Rattle.hw_cycle.proofs.numbers.part.Goals as goal

pub returns : goal.returns
returns c = part_is c.args.a c.args.high c.args.low c.mask_of.result c.mask_of.ensures
