use Rattle.hw_cycle.proofs.Arithmetic.{difference_is}
use Rattle.hw_cycle.proofs.numbers.difference.Goals as goal

pub returns : goal.returns
returns c = difference_is c.args.width c.args.a c.args.b c.mask_of.result c.requires.wide.1 c.requires.below c.mask_of.ensures
