use Rattle.core_parts.proofs.Facts.{facts}
use Rattle.core_parts.proofs.Joins.{joins}
use Rattle.core_parts.proofs.Plans.{plans}
use Rattle.core_parts.proofs.law.accepted_parts_are_joined.Goals as goal

pub returns-clause-joined : goal.returns-clause-joined
returns-clause-joined g c = λ kind taken now fault spec old new cfg plan w may is configured built.
    joins plan is.specs w (facts kind taken now fault spec old new cfg plan w may is configured built)

pub returns-clause-planned : goal.returns-clause-planned
returns-clause-planned g c = λ kind taken now fault spec old new cfg plan w may is configured built.
    plans plan is.specs w (facts kind taken now fault spec old new cfg plan w may is configured built)
