use Rattle.std.proofs.Common.{refl}
use Rattle.plug_csr.proofs.Moves.{moves_then}
use Rattle.plug_csr.proofs.regs.move_regs.Goals as goal

pub returns-clause-moves : goal.returns-clause-moves
returns-clause-moves c = moves_then c.args.b.now c.move_flags.new.b c.move_words.new.b 5 5 10 c.move_flags.ensures.moves c.move_words.ensures.moves refl
