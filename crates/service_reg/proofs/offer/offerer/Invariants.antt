use Rattle.service_reg.specs.Search.{NoOffer}
use Rattle.service_reg.proofs.offer.offerer.Given as goal

abbrev pub invariant-loop-entry : goal.invariant-loop-entry
invariant-loop-entry l = NoOffer l.specs l.service l.from l.entry
