use Rattle.netlist_sound.proofs.Sound.{module_is_sound}
use Rattle.netlist_sound.proofs.law.module_netlists_are_sound.Goals as goal

pub returns : goal.returns
returns c = module_is_sound
