use Rattle.hw_reach.proofs.Solves.{wires_are_one}
use Rattle.hw_reach.proofs.law.wires_are_one.Goals as goal

pub returns : goal.returns
returns c = wires_are_one
