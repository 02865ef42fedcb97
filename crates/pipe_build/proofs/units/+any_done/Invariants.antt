use Rattle.std.proofs.Common.{length}
use Rattle.pipe_build.proofs.units.«+any_done».Given as goal

abbrev pub decreases-any_done : goal.decreases-any_done
decreases-any_done l = length l.execs.now
