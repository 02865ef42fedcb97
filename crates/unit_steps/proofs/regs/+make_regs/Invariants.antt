use Rattle.std.proofs.Common.{length}
use Rattle.unit_steps.proofs.regs.«+make_regs».Given as goal

abbrev pub decreases-make_regs : goal.decreases-make_regs
decreases-make_regs l = length l.widths.now
