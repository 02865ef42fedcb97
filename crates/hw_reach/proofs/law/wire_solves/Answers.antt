use Rattle.hw_reach.proofs.Solves.{wire_solves}
use Rattle.hw_reach.proofs.law.wire_solves.Goals as goal

pub returns : goal.returns
returns c = wire_solves
