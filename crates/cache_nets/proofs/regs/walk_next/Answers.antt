use Rattle.std.proofs.Common.{ℕ, ◌+◌, ◌≤◌, arith}
use Rattle.cache_nets.proofs.Slices.{one_below}
use Rattle.cache_nets.proofs.regs.walk_next.Goals as goal

pub lit-one-requires-clause-within : goal.lit-one-requires-clause-within
lit-one-requires-clause-within c = one_below (c.args.z.index + 1) (let h : 1 ≤ c.args.z.index + 1 = omega arith in h)
