use Rattle.plug_fetch.proofs.Parts.{parts_meet_laws, parts_read_ahead}
use Rattle.plug_fetch.proofs.fetch_parts_meet_their_laws.Goals as goal

pub returns : goal.returns
returns c = record { laws = parts_meet_laws; depth = parts_read_ahead }
