use Rattle.service_reg.proofs.Offers.{pair_none, pair_alone, pair_both}
use Rattle.service_reg.proofs.offer.first_pair.Goals as goal

pub returns-in_default : goal.returns-in_default
returns-in_default c = pair_none c.args.specs.now c.args.service c.in_default.ensures

pub returns-in_default-offerer : goal.returns-in_default-offerer
returns-in_default-offerer c = pair_alone c.args.specs.now c.args.service c.in-Some.a c.in-Some.ensures c.in_default-offerer.ensures

pub returns : goal.returns
returns c = pair_both c.args.specs.now c.args.service c.in-Some.a c.in-Some-offerer.b c.in-Some.ensures c.in-Some-offerer.ensures
