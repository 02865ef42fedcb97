use Rattle.std.proofs.Common.{◌≡◌, ℕ, List, drop}
use Rattle.verilog_mean.specs.Erase.{plain_items}
use Rattle.verilog_rules.specs.Sources.{givers, or_next, giver_from}
use Rattle.verilog_rules.proofs.sources.add_items.Given as goal

abbrev pub invariant-loop-number : goal.invariant-loop-number
invariant-loop-number l = (x : List ℕ) → or_next (givers l.sources x) (giver_from l.number (plain_items (drop l.number l.items)) x)
    ≡ or_next (givers l.initial.sources x) (giver_from 0 (plain_items l.items) x)
