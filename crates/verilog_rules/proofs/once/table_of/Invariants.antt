use Rattle.std.proofs.Common.{◌≡◌, [], ◌++◌, map, drop}
use Rattle.verilog_rules.specs.Collected.{declaration, names_of}
use Rattle.verilog_mean.specs.Names.{repeated}
use Rattle.verilog_rules.proofs.once.table_of.Given as goal

abbrev pub invariant-loop-d : goal.invariant-loop-d
invariant-loop-d l = (l.table ++ map declaration (drop l.d-index l.all) ≡ map declaration l.all) × (repeated (names_of l.table) (map declaration (drop l.d-index l.all)) ≡ repeated [] (map declaration l.all))
