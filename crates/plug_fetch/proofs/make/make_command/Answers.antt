use Rattle.plug_fetch.proofs.Drives.{regs_five}
use Rattle.plug_fetch.proofs.make.make_command.Goals as goal

pub returns-clause-makes : goal.returns-clause-makes
returns-clause-makes c = regs_five _ _ _ _ _ _ c.make_reg-given.ensures.makes c.make_reg-owed.ensures.makes c.make_reg-dropped.ensures.makes c.make_reg-address.ensures.makes c.make_reg-next_pc.ensures.makes
