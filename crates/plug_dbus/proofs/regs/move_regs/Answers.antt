use Rattle.std.proofs.Common.{refl}
use Rattle.plug_dbus.proofs.Chain.{moves_then}
use Rattle.plug_dbus.proofs.regs.move_regs.Goals as goal

pub returns-clause-moves : goal.returns-clause-moves
returns-clause-moves c =
    moves_then 5 1 6 _ _ _ (moves_then 4 1 5 _ _ _ (moves_then 3 1 4 _ _ _ (moves_then 2 1 3 _ _ _ (moves_then 1 1 2 _ _ _ c.move_reg.ensures.moves c.move_reg-2.ensures.moves refl) c.move_reg-3.ensures.moves refl) c.move_reg-4.ensures.moves refl) c.move_reg-5.ensures.moves refl) c.move_reg-6.ensures.moves refl
