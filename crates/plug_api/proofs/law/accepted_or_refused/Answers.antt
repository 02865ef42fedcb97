use Rattle.plug_api.proofs.Decided.{decided}
use Rattle.plug_api.proofs.law.accepted_or_refused.Goals as goal

pub returns : goal.returns
returns g c = decided
