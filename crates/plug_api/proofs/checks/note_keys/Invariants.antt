use Rattle.std.proofs.Common.{◌≡◌, ◌++◌, ◌+◌, map, take}
use Rattle.plug_api.specs.Accept.{used_by}
use Rattle.plug_api.proofs.checks.note_keys.Given as goal

abbrev pub invariant-loop-k : goal.invariant-loop-k
invariant-loop-k l = record {
  uses : l.noted.uses ≡ l.fn.noted.uses ++ map (used_by l.entry) (take l.k l.keys.items);
  stages : l.noted.stages ≡ l.fn.noted.stages;
  room : l.noted.room + l.k ≡ l.fn.noted.room;
}
