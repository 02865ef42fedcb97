use Rattle.std.proofs.lemmas.Bool.Decides.{Decides-at}
use Rattle.service_reg.proofs.Offers.{offered_decides}
use Rattle.service_reg.proofs.offer.is_offered.Goals as goal

pub returns : goal.returns
returns c = Decides-at _ _ c.is_some.ensures (offered_decides c.args.specs.now c.args.service c.offerer.result c.offerer.ensures)
