use Rattle.std.proofs.Common.{length}
use Rattle.pipe_drive.proofs.make.«+make_regs».Given as goal

abbrev pub decreases-make_regs : goal.decreases-make_regs
decreases-make_regs l = length l.shapes.now
