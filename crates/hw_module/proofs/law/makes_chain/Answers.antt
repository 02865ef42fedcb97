use Rattle.hw_module.proofs.Makes.{makes_nothing, makes_then}
use Rattle.hw_module.proofs.law.makes_chain.Goals as goal

pub returns-clause-makes_nothing : goal.returns-clause-makes_nothing
returns-clause-makes_nothing c = makes_nothing

pub returns-clause-makes_then : goal.returns-clause-makes_then
returns-clause-makes_then c = makes_then
