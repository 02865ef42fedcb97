use Rattle.std.proofs.Common.{◌≡◌, ◌++◌, map, length}
use Rattle.verilog_mean.specs.Declarations.{declarations, declared_ports, declared_items}
use Rattle.verilog_rules.specs.Collected.{declaration}
use Rattle.verilog_rules.proofs.declare.collect.Given as goal

abbrev pub invariant-loop-ports : goal.invariant-loop-ports
invariant-loop-ports l = map declaration l.all.items ++ declared_ports l.ports (declared_items l.tree.items) ≡ declarations l.tree

abbrev pub decreases-loop-ports : goal.decreases-loop-ports
decreases-loop-ports l = length l.ports

abbrev pub invariant-loop-items : goal.invariant-loop-items
invariant-loop-items l = map declaration l.all.items ++ declared_items l.items ≡ declarations l.tree

abbrev pub decreases-loop-items : goal.decreases-loop-items
decreases-loop-items l = length l.items
