use Rattle.std.proofs.Common.{length}
use Rattle.pipe_build.proofs.units.«+gather_units».Given as goal

abbrev pub decreases-gather_units : goal.decreases-gather_units
decreases-gather_units l = length l.execs.now
