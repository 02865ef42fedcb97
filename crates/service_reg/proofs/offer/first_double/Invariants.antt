use Rattle.service_reg.specs.Services.{OfferedOnce}
use Rattle.service_reg.proofs.offer.first_double.Given as goal

abbrev pub invariant-loop-n : goal.invariant-loop-n
invariant-loop-n l = OfferedOnce l.specs l.n
