use Rattle.plug_api.proofs.Plans.{lawful}
use Rattle.plug_join.proofs.Accepted.{accepted_buildable, accepted_shares}
use Rattle.core_sides.proofs.sides.joined.Goals as goal

pub join-requires-clause-plan : goal.join-requires-clause-plan
join-requires-clause-plan g c =
    let is = c.in_ok-plan.ensures.accepted in
    accepted_buildable _ _ _ _ _ _ _ _ _ is c.in_ok-plan.ensures.took (lawful _ _ _ _ _ _ c.requires.config is)

pub join-requires-clause-wanted : goal.join-requires-clause-wanted
join-requires-clause-wanted g c = accepted_shares _ _ _ _ _ _ _ _ _ c.in_ok-plan.ensures.accepted c.in_ok-plan.ensures.took
