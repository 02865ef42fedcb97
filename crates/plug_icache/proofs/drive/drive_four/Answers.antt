use Rattle.plug_icache.proofs.Drives.{drives_four}
use Rattle.plug_icache.proofs.drive.drive_four.Goals as goal

pub returns-clause-drives : goal.returns-clause-drives
returns-clause-drives c = drives_four _ _ _ _ _ c.drive_reg.ensures.drives c.drive_reg-2.ensures.drives c.drive_reg-3.ensures.drives c.drive_reg-4.ensures.drives
