use Rattle.std.proofs.Common.{refl}
use Rattle.plug_api.proofs.Stages.{hold_with, first_with}
use Rattle.plug_api.proofs.checks.check_stages.Goals as goal

pub returns-in-Ok-check-clause-ok : goal.returns-in-Ok-check-clause-ok
returns-in-Ok-check-clause-ok c =
    hold_with _ _ c.in-Ok.noted.room _ _ _ _ _ c.in-Ok.ensures.0 c.in-Ok.ensures.1 c.in-Ok-places_of.ensures (c.in-Ok-check.ensures.ok refl)

pub returns-clause-refused : goal.returns-clause-refused
returns-clause-refused c =
    first_with _ _ c.in-Ok.noted.room _ _ _ _ _ c.in-Err-check.fault c.in-Ok.ensures.0 c.in-Ok.ensures.1 c.in-Ok-places_of.ensures
    (c.in-Err-check.ensures.refused c.in-Err-check.fault refl) c.of_stages.result c.of_stages.ensures
