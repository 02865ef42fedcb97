use Rattle.plug_icache.proofs.Drives.{regs_four}
use Rattle.plug_icache.proofs.make.make_reading.Goals as goal

pub returns-clause-makes : goal.returns-clause-makes
returns-clause-makes c = regs_four _ _ _ _ _ c.make_reg-dropped.ensures.makes c.make_reg-line.ensures.makes c.make_reg-place.ensures.makes c.make_reg-bad.ensures.makes
