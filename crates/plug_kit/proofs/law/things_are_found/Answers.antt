use Rattle.plug_kit.proofs.Things.{open_reg, open_array, only_new_reg, only_new_array}
use Rattle.plug_kit.proofs.law.things_are_found.Goals as goal

pub returns-clause-regs : goal.returns-clause-regs
returns-clause-regs c = open_reg

pub returns-clause-arrays : goal.returns-clause-arrays
returns-clause-arrays c = open_array

pub returns-clause-only_reg : goal.returns-clause-only_reg
returns-clause-only_reg c = only_new_reg

pub returns-clause-only_array : goal.returns-clause-only_array
returns-clause-only_array c = only_new_array
