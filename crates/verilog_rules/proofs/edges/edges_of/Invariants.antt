use Rattle.std.proofs.Common.{◌≡◌, ◌++◌, drop}
use Rattle.verilog_mean.specs.Erase.{plain_items}
use Rattle.verilog_rules.specs.Sources.{number_in}
use Rattle.verilog_rules.specs.Edges.{edges_in}
use Rattle.verilog_rules.proofs.edges.edges_of.Given as goal

abbrev pub invariant-loop-item : goal.invariant-loop-item
invariant-loop-item l = l.edges.items ++ edges_in (number_in l.sources) (plain_items (drop l.item-index l.items)) ≡ edges_in (number_in l.sources) (plain_items l.items)
