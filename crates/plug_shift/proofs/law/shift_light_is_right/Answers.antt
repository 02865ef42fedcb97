use Rattle.std.proofs.Common.{arith}
use Rattle.plug_shift.proofs.Light.{rows_end}
use Rattle.plug_shift.proofs.law.shift_light_is_right.Goals as goal

pub returns : goal.returns
returns c = record { ends = rows_end 32 (omega arith) }
