use Rattle.std.proofs.Common.{refl}
use Rattle.plug_csr.proofs.Chain.{regs_then}
use Rattle.plug_csr.proofs.regs.make_words.Goals as goal

pub returns-clause-makes : goal.returns-clause-makes
returns-clause-makes c =
    regs_then 4 1 5 _ _ _ (regs_then 3 1 4 _ _ _ (regs_then 2 1 3 _ _ _ (regs_then 1 1 2 _ _ _ c.make_reg-tvec.ensures.makes c.make_reg-epc.ensures.makes refl) c.make_reg-scratch.ensures.makes refl) c.make_reg-cause.ensures.makes refl) c.make_reg-tval.ensures.makes refl
