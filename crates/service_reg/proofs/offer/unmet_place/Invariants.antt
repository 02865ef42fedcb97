use Rattle.service_reg.specs.Services.{AreOffered}
use Rattle.service_reg.proofs.offer.unmet_place.Given as goal

abbrev pub invariant-loop-k : goal.invariant-loop-k
invariant-loop-k l = AreOffered l.specs l.services.items l.k
