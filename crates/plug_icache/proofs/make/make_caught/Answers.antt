use Rattle.plug_icache.proofs.Drives.{regs_four}
use Rattle.plug_icache.proofs.make.make_caught.Goals as goal

pub returns-clause-makes : goal.returns-clause-makes
returns-clause-makes c = regs_four _ _ _ _ _ c.make_reg-wanted.ensures.makes c.make_reg-captured.ensures.makes c.make_reg-word.ensures.makes c.make_reg-error.ensures.makes
