use Rattle.std.proofs.Common.{length}
use Rattle.core_sim.proofs.run.+lines_in.Given as goal

abbrev pub decreases-lines_in : goal.decreases-lines_in
decreases-lines_in l = length l.irqs.now
