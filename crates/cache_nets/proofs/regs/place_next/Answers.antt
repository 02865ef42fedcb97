use Rattle.cache_nets.proofs.Slices.{one_below}
use Rattle.cache_nets.proofs.regs.place_next.Goals as goal

pub lit-one-requires-clause-within : goal.lit-one-requires-clause-within
lit-one-requires-clause-within c = one_below c.args.z.place c.requires.place
