use Rattle.plug_icache.proofs.Drives.{regs_four}
use Rattle.plug_icache.proofs.make.make_front.Goals as goal

pub returns-clause-makes : goal.returns-clause-makes
returns-clause-makes c = regs_four _ _ _ _ _ c.make_reg-pc.ensures.makes c.make_reg-walk.ensures.makes c.make_reg-given.ensures.makes c.make_reg-owed.ensures.makes
