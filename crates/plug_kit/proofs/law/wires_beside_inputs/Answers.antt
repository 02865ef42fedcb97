use Rattle.plug_kit.proofs.Among.{among_open, among_only, among_free, only_free, single_fits, wire_stays, open_wire}
use Rattle.plug_kit.proofs.law.wires_beside_inputs.Goals as goal

pub returns : goal.returns
returns c = record { are_open = among_open; only = among_only; free = among_free; no_input = only_free; fits = single_fits; stays = wire_stays; wires = open_wire }
