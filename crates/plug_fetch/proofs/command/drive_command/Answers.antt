use Rattle.plug_fetch.proofs.Drives.{drives_five}
use Rattle.plug_fetch.proofs.command.drive_command.Goals as goal

pub returns-clause-drives : goal.returns-clause-drives
returns-clause-drives c = drives_five _ _ _ _ _ _ c.drive_reg.ensures.drives c.drive_reg-2.ensures.drives c.drive_reg-3.ensures.drives c.drive_reg-4.ensures.drives c.drive_reg-5.ensures.drives
