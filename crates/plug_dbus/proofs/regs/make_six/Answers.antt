use Rattle.std.proofs.Common.{refl}
use Rattle.plug_dbus.proofs.Chain.{regs_then}
use Rattle.plug_dbus.proofs.regs.make_six.Goals as goal

pub returns-clause-makes : goal.returns-clause-makes
returns-clause-makes c =
    regs_then 5 1 6 _ _ _ (regs_then 4 1 5 _ _ _ (regs_then 3 1 4 _ _ _ (regs_then 2 1 3 _ _ _ (regs_then 1 1 2 _ _ _ c.make_reg-given.ensures.makes c.make_reg-owed.ensures.makes refl) c.make_reg-address.ensures.makes refl) c.make_reg-writes.ensures.makes refl) c.make_reg-payload.ensures.makes refl) c.make_reg-mask.ensures.makes refl
