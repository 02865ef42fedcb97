use Rattle.hw_gates.proofs.Steps.{adds_of}
use Rattle.plug_kit.proofs.Gates.{gate_carries, gate_output, gate_tree}
use Rattle.plug_kit.proofs.law.gates_carry.Goals as goal

pub returns : goal.returns
returns c = record { carries = gate_carries; output = gate_output; adds = adds_of; tree = gate_tree }
