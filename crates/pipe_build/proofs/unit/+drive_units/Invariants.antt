use Rattle.std.proofs.Common.{length}
use Rattle.pipe_build.proofs.unit.«+drive_units».Given as goal

abbrev pub decreases-drive_units : goal.decreases-drive_units
decreases-drive_units l = length l.execs.now
