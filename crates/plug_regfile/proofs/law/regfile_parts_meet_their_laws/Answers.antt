use Rattle.plug_regfile.proofs.Keeps.{parts_meet_laws, parts_start, parts_change}
use Rattle.plug_regfile.proofs.law.regfile_parts_meet_their_laws.Goals as goal

pub returns : goal.returns
returns c = record { laws = parts_meet_laws; start = parts_start; change = parts_change }
