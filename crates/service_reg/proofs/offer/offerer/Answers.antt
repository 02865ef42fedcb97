use Rattle.std.proofs.Common.{arith}
use Rattle.std.proofs.lemmas.Bool.Decides.{not_from_Decides}
use Rattle.service_reg.proofs.Offers.{no_offer_more}
use Rattle.service_reg.proofs.offer.offerer.Goals as goal

pub loop-entry-preserved : goal.loop-entry-preserved
loop-entry-preserved c =
    no_offer_more c.args.specs.now c.args.service c.args.from c.loop-entry.entry c.loop-entry.invariant
    (not_from_Decides c.offers.result c.offers.ensures c.if-offers.false)

pub returns : goal.returns
returns c = λ y f l o. let t = c.loop-entry-test.false in c.loop-entry.invariant y f (omega (arith, t, l)) o
