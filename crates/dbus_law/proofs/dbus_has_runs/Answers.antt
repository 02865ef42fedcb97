use Rattle.dbus_law.proofs.Runs.{has_runs}
use Rattle.dbus_law.proofs.dbus_has_runs.Goals as goal

pub returns : goal.returns
returns c = record { runs = has_runs }
