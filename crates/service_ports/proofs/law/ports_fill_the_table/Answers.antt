use Rattle.service_ports.proofs.Table.{inputs_fill, outputs_fill}
use Rattle.service_ports.proofs.law.ports_fill_the_table.Goals as goal

pub returns-clause-inputs : goal.returns-clause-inputs
returns-clause-inputs c = inputs_fill

pub returns-clause-outputs : goal.returns-clause-outputs
returns-clause-outputs c = outputs_fill
