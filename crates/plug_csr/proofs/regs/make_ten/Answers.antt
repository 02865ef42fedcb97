use Rattle.std.proofs.Common.{refl}
use Rattle.plug_csr.proofs.Chain.{regs_then}
use Rattle.plug_csr.proofs.regs.make_ten.Goals as goal

pub returns-clause-makes : goal.returns-clause-makes
returns-clause-makes c =
    regs_then 5 5 10 _ _ _ c.make_flags.ensures.makes c.make_words.ensures.makes refl
