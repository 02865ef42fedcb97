use Rattle.plug_kit.proofs.Rows.{offers_stay}
use Rattle.plug_kit.proofs.Unit.{offered_apart, offered_new, offered_open, own_offer, no_other, offered_in, offered_wires, offered_done}
use Rattle.plug_kit.proofs.law.services_are_offered.Goals as goal

pub returns-clause-are_open : goal.returns-clause-are_open
returns-clause-are_open c = offered_open

pub returns-clause-own : goal.returns-clause-own
returns-clause-own c = own_offer

pub returns-clause-no_other : goal.returns-clause-no_other
returns-clause-no_other c = no_other

pub returns-clause-offers : goal.returns-clause-offers
returns-clause-offers c = offered_in

pub returns-clause-wires : goal.returns-clause-wires
returns-clause-wires c = offered_wires

pub returns-clause-apart : goal.returns-clause-apart
returns-clause-apart c = offered_apart

pub returns-clause-unshared : goal.returns-clause-unshared
returns-clause-unshared c = offered_new

pub returns-clause-done : goal.returns-clause-done
returns-clause-done c = offered_done

pub returns-clause-stay : goal.returns-clause-stay
returns-clause-stay c = offers_stay
