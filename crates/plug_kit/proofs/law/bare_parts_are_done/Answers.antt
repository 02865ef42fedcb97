use Rattle.plug_kit.proofs.Bare.{only_offer, its_own, input_wires, unit_bare, unit_only, bare_done}
use Rattle.plug_kit.proofs.law.bare_parts_are_done.Goals as goal

pub returns : goal.returns
returns c = record { only = only_offer; own = its_own; inputs = input_wires; unit = unit_bare; unit_only = unit_only; done = bare_done }
