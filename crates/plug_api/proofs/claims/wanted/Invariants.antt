use Rattle.std.proofs.Common.{◌≡◌, ◌≤◌, ◌+◌, ◌*◌, length, take, sum_by}
use Rattle.plug_api.specs.Rules.{cost_at}
use Rattle.plug_api.proofs.claims.wanted.Given as goal

abbrev pub invariant-loop-entry : goal.invariant-loop-entry
invariant-loop-entry l = record {
  is : l.wanted ≡ 8192 + 256 * length l.specs.items + sum_by (cost_at l.rows) (take l.entry l.specs.items);
  few : l.wanted ≤ 16384 + 600000 * l.entry;
}
