-- The numbers of the statuses.
use Rattle.std.specs.Prelude.{ℕ}
use Rattle.core_tool.specs.declared.status.Status.{Status}
use Rattle.core_tool.specs.declared.status.Status.TheVariants.{Done, Usage, ConfigRefused, RulesRefused, ImageRefused, ReadFault, WriteFault, NoMemory, CyclesEnded, ModuleRefused, Stopped}

abbrev pub number_of : Status → ℕ
number_of Done = 0
number_of Usage = 2
number_of ConfigRefused = 3
number_of RulesRefused = 4
number_of ImageRefused = 5
number_of ReadFault = 6
number_of WriteFault = 7
number_of NoMemory = 8
number_of CyclesEnded = 9
number_of ModuleRefused = 10
number_of Stopped = 11
