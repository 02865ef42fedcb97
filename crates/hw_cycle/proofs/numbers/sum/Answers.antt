use Rattle.hw_cycle.proofs.Arithmetic.{sum_is}
use Rattle.hw_cycle.proofs.numbers.sum.Goals as goal

pub returns : goal.returns
returns c = sum_is c.args.width c.args.a c.args.b c.mask_of.result c.requires.1 c.mask_of.ensures
