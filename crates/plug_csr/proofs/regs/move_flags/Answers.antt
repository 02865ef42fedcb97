use Rattle.std.proofs.Common.{refl}
use Rattle.plug_csr.proofs.Moves.{moves_then}
use Rattle.plug_csr.proofs.regs.move_flags.Goals as goal

pub returns-clause-moves : goal.returns-clause-moves
returns-clause-moves c =
    moves_then c.args.b.now c.move_reg-4.new.b c.move_reg-5.new.b 4 1 5 (moves_then c.args.b.now c.move_reg-3.new.b c.move_reg-4.new.b 3 1 4 (moves_then c.args.b.now c.move_reg-2.new.b c.move_reg-3.new.b 2 1 3 (moves_then c.args.b.now c.move_reg.new.b c.move_reg-2.new.b 1 1 2 c.move_reg.ensures.moves c.move_reg-2.ensures.moves refl) c.move_reg-3.ensures.moves refl) c.move_reg-4.ensures.moves refl) c.move_reg-5.ensures.moves refl
