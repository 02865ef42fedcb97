use Rattle.std.proofs.Common.{◌≡◌, drop}
use Rattle.verilog_rules.specs.Sources.{number_in}
use Rattle.verilog_rules.specs.Edges.{needs_in, needs_in_each}
use Rattle.verilog_rules.proofs.edges.+add_needs.Given as goal

abbrev pub invariant-loop-part : goal.invariant-loop-part
invariant-loop-part l = needs_in_each (number_in l.sources) l.needs.items (drop l.part-index l.part-items) ≡ needs_in (number_in l.sources) l.initial.needs.items l.e
