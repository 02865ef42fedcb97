use Rattle.std.proofs.Common.{refl}
use Rattle.plug_csr.proofs.Chain.{regs_then}
use Rattle.plug_csr.proofs.regs.make_flags.Goals as goal

pub returns-clause-makes : goal.returns-clause-makes
returns-clause-makes c =
    regs_then 4 1 5 _ _ _ (regs_then 3 1 4 _ _ _ (regs_then 2 1 3 _ _ _ (regs_then 1 1 2 _ _ _ c.make_reg-on.ensures.makes c.make_reg-was.ensures.makes refl) c.make_reg-soft.ensures.makes refl) c.make_reg-timer.ensures.makes refl) c.make_reg-outer.ensures.makes refl
