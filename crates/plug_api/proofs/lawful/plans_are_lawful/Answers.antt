use Rattle.plug_api.proofs.Plans.{lawful}
use Rattle.plug_api.proofs.lawful.plans_are_lawful.Goals as goal

pub returns : goal.returns
returns g c = lawful
