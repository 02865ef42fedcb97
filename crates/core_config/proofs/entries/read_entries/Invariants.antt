use Rattle.std.proofs.Common.{◌≡◌, ◌++◌, drop, Ok}
use Rattle.toml.specs.View.{items_view}
use Rattle.core_config.specs.Config.{entries_of, then_read}
use Rattle.core_config.proofs.entries.read_entries.Given as goal

abbrev pub invariant-loop-number : goal.invariant-loop-number
invariant-loop-number l = entries_of 0 (items_view l.array.items)
    ≡ then_read (entries_of l.number (items_view (drop l.number l.array.items))) (λ rest. Ok (l.entries.items ++ rest))
