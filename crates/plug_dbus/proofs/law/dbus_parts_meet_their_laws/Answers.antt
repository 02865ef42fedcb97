use Rattle.plug_dbus.proofs.Parts.{parts_meet_laws, parts_read_once}
use Rattle.plug_dbus.proofs.law.dbus_parts_meet_their_laws.Goals as goal

pub returns : goal.returns
returns c = record { laws = parts_meet_laws; reads = parts_read_once }
