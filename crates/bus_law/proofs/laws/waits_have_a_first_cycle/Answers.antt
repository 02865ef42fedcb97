use Rattle.bus_law.proofs.Standing.{stands_since, only_since, from_by_now, same_since, owed_since}
use Rattle.bus_law.proofs.laws.waits_have_a_first_cycle.Goals as goal

pub returns : goal.returns
returns c = record { stands = stands_since; only = only_since; by_now = from_by_now; same = same_since; owed = owed_since }
