use Rattle.plug_kit.proofs.Bounds.{bounded, nothing_bounded, grown_bounded, scope_same}
use Rattle.plug_kit.proofs.law.runs_are_bounded.Goals as goal

pub returns-clause-part : goal.returns-clause-part
returns-clause-part c = bounded

pub returns-clause-own : goal.returns-clause-own
returns-clause-own c = scope_same

pub returns-clause-nothing : goal.returns-clause-nothing
returns-clause-nothing c = nothing_bounded

pub returns-clause-grown : goal.returns-clause-grown
returns-clause-grown c = grown_bounded
