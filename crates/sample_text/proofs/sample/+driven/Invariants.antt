use Rattle.std.proofs.Common.{length}
use Rattle.sample_text.proofs.sample.+driven.Given as goal

abbrev pub decreases-driven : goal.decreases-driven
decreases-driven l = length l.outs.now
