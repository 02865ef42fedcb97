use Rattle.hw_module.proofs.Drivers.{drivers_stay}
use Rattle.hw_module.proofs.law.drivers_keep.Goals as goal

-- src/law.rt:8:1
pub returns : goal.returns
returns c = drivers_stay
