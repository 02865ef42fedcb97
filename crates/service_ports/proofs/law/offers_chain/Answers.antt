use Rattle.service_ports.proofs.Offers.{offers_nothing, offers_then}
use Rattle.service_ports.proofs.law.offers_chain.Goals as goal

pub returns-clause-offers_nothing : goal.returns-clause-offers_nothing
returns-clause-offers_nothing c = offers_nothing

pub returns-clause-offers_then : goal.returns-clause-offers_then
returns-clause-offers_then c = offers_then
