use Rattle.std.proofs.Common.{◌+◌, ◌*◌, arith}
use Rattle.plug_fetch.proofs.Drives.{regs_then}
use Rattle.plug_fetch.proofs.offer.make_regs.Goals as goal

pub returns-clause-makes : goal.returns-clause-makes
returns-clause-makes c = regs_then c.args.b.now c.make_places.new.b c.make_command.new.b (4 * c.args.depth) 5 (4 * c.args.depth + 5) c.make_places.ensures.makes c.make_command.ensures.makes (omega arith)
