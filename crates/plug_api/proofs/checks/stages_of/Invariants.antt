use Rattle.std.proofs.Common.{◌≡◌, ◌≤◌, ◌++◌, ◌+◌, ◌*◌, drop}
use Rattle.plug_api.specs.Accept.{keys_of, keys_from}
use Rattle.plug_api.proofs.checks.stages_of.Given as goal

abbrev pub invariant-loop-entry : goal.invariant-loop-entry
invariant-loop-entry l = record {
  uses : l.noted.uses ++ keys_from l.entry (drop l.entry l.specs.items) ≡ keys_of l.specs.items;
  stages : l.noted.stages ≡ l.stages;
  room : 1024 ≤ l.noted.room + 32 * l.entry;
}
