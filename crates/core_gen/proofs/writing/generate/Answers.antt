use Rattle.std.proofs.Common.{rules}
use Rattle.plug_api.proofs.Plans.{lawful}
use Rattle.plug_join.proofs.Accepted.{accepted_buildable, accepted_shares}
use Rattle.core_gen.proofs.Texts.{from_plan, left_short}
use Rattle.core_gen.proofs.writing.generate.Goals as goal

pub write_plan-requires-clause-plan : goal.write_plan-requires-clause-plan
write_plan-requires-clause-plan g c =
    let is = c.in-Ok.ensures.accepted in
    accepted_buildable _ _ _ _ _ _ _ _ _ is c.in-Ok.ensures.took (lawful _ _ _ _ _ _ c.requires.config is)

pub write_plan-requires-clause-wanted : goal.write_plan-requires-clause-wanted
write_plan-requires-clause-wanted g c = accepted_shares _ _ _ _ _ _ _ _ _ c.in-Ok.ensures.accepted c.in-Ok.ensures.took

pub returns-in-Ok-write_plan-clause-done : goal.returns-in-Ok-write_plan-clause-done
returns-in-Ok-write_plan-clause-done g c =
    let t = c.in-Ok-write_plan.ensures.done in
    (t.0, from_plan _ _ _ _ _ _ _ _ _ _ _ c.requires.config c.in-Ok.ensures.accepted c.in-Ok.ensures.took c.in-Ok.ensures.builds c.write_plan.ensures.addressed t.0 t.1, t.2)

pub returns-in-Err-WriteFault-clause-cut : goal.returns-in-Err-WriteFault-clause-cut
returns-in-Err-WriteFault-clause-cut g c = λ fault.
    let t = c.in-Err-WriteFault.ensures.cut (search rules) in
    (t.0, from_plan _ _ _ _ _ _ _ _ _ _ _ c.requires.config c.in-Ok.ensures.accepted c.in-Ok.ensures.took c.in-Ok.ensures.builds c.write_plan.ensures.addressed t.0 t.1, t.2)

pub returns-clause-short : goal.returns-clause-short
returns-clause-short g c = λ none. left_short _ _ _ _ _ _ _ _ _ c.in-Ok.ensures.accepted c.in-Ok.ensures.took
