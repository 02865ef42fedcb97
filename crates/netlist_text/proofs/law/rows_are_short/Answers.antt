use Rattle.netlist_text.proofs.Short.{netlist_rows, netlist_size}
use Rattle.netlist_text.proofs.law.rows_are_short.Goals as goal

-- src/law.rt:21:1
pub returns-clause-rows : goal.returns-clause-rows
returns-clause-rows c = netlist_rows

pub returns-clause-size : goal.returns-clause-size
returns-clause-size c = netlist_size
