use Rattle.std.proofs.Common.{length}
use Rattle.pipe_drive.proofs.drive.«+move_regs».Given as goal

abbrev pub decreases-move_regs : goal.decreases-move_regs
decreases-move_regs l = length l.nets.now
