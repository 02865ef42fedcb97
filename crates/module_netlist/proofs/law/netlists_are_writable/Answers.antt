use Rattle.module_netlist.proofs.Writing.{writable, few_lines}
use Rattle.module_netlist.proofs.law.netlists_are_writable.Goals as goal

pub returns-clause-writable : goal.returns-clause-writable
returns-clause-writable c = λ m pool marks is marked. writable m pool marks is marked

pub returns-clause-lines : goal.returns-clause-lines
returns-clause-lines c = λ m pool marks is. few_lines m pool marks is
