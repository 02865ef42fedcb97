use Rattle.plug_shift.proofs.Barrel.{is_right}
use Rattle.plug_shift.proofs.law.shift_barrel_is_right.Goals as goal

pub returns : goal.returns
returns c = record { value = is_right }
