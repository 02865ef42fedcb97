use Rattle.plug_api.proofs.OneRefusal.{one_refusal}
use Rattle.plug_api.proofs.law.one_first_refusal.Goals as goal

pub returns : goal.returns
returns g c = one_refusal
