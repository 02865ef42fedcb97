use Rattle.std.proofs.Common.{◌≡◌}
use Rattle.toml.specs.View.{members_view}
use Rattle.core_config.proofs.KeyLemmas.{first_refused}
use Rattle.core_config.proofs.keys.least_refused.Given as goal

abbrev pub invariant-loop-key : goal.invariant-loop-key
invariant-loop-key l = first_refused l.set (members_view l.table.entries) ≡ first_refused l.set (members_view l.key-iterator)
