use Rattle.plug_icache.proofs.Parts.{parts_keep_lines, parts_meet_laws}
use Rattle.plug_icache.proofs.Sized.{sizes_are_powers}
use Rattle.plug_icache.proofs.icache_parts_meet_their_laws.Goals as goal

pub returns : goal.returns
returns c = record { laws = parts_meet_laws; cache = parts_keep_lines; sizes = sizes_are_powers }
