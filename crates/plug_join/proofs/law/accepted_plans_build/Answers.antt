use Rattle.plug_api.proofs.Plans.{lawful}
use Rattle.plug_join.proofs.Accepted.{accepted_shares, accepted_buildable}
use Rattle.plug_join.proofs.law.accepted_plans_build.Goals as goal

pub returns-clause-buildable : goal.returns-clause-buildable
returns-clause-buildable g c = λ kind taken now fault spec old new cfg plan may is configured.
    accepted_buildable kind taken now fault spec old new cfg plan is configured (lawful kind fault spec old cfg plan may is)

pub returns-clause-shares : goal.returns-clause-shares
returns-clause-shares g c = accepted_shares
