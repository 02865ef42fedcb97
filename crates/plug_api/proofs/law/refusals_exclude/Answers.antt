use Rattle.plug_api.proofs.Verdicts.{refusal_excludes}
use Rattle.plug_api.proofs.law.refusals_exclude.Goals as goal

pub returns : goal.returns
returns g c = refusal_excludes
