use Rattle.std.proofs.Common.{length}
use Rattle.plug_csr.proofs.isa.«+is_claimed».Given as goal

abbrev pub decreases-is_claimed : goal.decreases-is_claimed
decreases-is_claimed l = length l.claims.now
