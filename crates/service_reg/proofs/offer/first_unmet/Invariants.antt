use Rattle.service_reg.specs.Services.{NeedsMet}
use Rattle.service_reg.proofs.offer.first_unmet.Given as goal

abbrev pub invariant-loop-entry : goal.invariant-loop-entry
invariant-loop-entry l = NeedsMet l.specs l.entry
