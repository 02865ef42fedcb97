-- The equations have runs.
use Rattle.std.proofs.Common.{refl}
use Rattle.dbus_law.specs.Runs.{at, ready_at, DbusHasRuns}

pub has_runs : DbusHasRuns
unfolding at ready_at
has_runs m i = record {
  given_reset = refl;
  owed_reset = refl;
  given = λ s. refl;
  owed = λ s. refl;
  address = λ s. refl;
  writes = λ s. refl;
  payload = λ s. refl;
  mask = λ s. refl;
  cmd_valid = λ s. refl;
  cmd_write = λ s. refl;
  cmd_addr = λ s. refl;
  cmd_data = λ s. refl;
  cmd_mask = λ s. refl;
  done = λ s. refl;
  value = λ s. refl;
  next_pc = λ s. refl;
  trap = λ s. refl;
  cause = λ s. refl;
  tval = λ s. refl;
  fence = λ s. refl;
}
