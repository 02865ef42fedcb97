use Rattle.std.proofs.Common.{length}
use Rattle.unit_steps.proofs.regs.«+drive_regs».Given as goal

abbrev pub decreases-drive_regs : goal.decreases-drive_regs
decreases-drive_regs l = length l.nets.now
