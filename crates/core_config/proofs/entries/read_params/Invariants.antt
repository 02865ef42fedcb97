use Rattle.std.proofs.Common.{◌≡◌, ◌++◌}
use Rattle.toml.specs.View.{members_view}
use Rattle.core_config.proofs.EntryLemmas.{scalars}
use Rattle.core_config.proofs.entries.read_params.Given as goal

abbrev pub invariant-loop-key : goal.invariant-loop-key
invariant-loop-key l = scalars (members_view l.table.entries) ≡ l.params.items ++ scalars (members_view l.key-iterator)
