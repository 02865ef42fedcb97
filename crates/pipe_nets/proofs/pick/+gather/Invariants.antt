use Rattle.std.proofs.Common.{length}
use Rattle.pipe_nets.proofs.pick.«+gather».Given as goal

abbrev pub decreases-gather : goal.decreases-gather
decreases-gather l = length l.picks.now
