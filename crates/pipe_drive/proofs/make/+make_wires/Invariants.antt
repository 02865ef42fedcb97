use Rattle.std.proofs.Common.{length}
use Rattle.pipe_drive.proofs.make.«+make_wires».Given as goal

abbrev pub decreases-make_wires : goal.decreases-make_wires
decreases-make_wires l = length l.levels.now
