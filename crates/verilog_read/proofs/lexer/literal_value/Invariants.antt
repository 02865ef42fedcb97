use Rattle.std.proofs.Common.{◌≡◌, ◌≤◌, length}
use Rattle.verilog_read.specs.Runs.{value_after}
use Rattle.verilog_tree.specs.Lex.{in_literal}
use Rattle.verilog_read.specs.Runs.{AllPass}
use Rattle.verilog_read.proofs.lexer.literal_value.Given as goal

abbrev pub invariant-loop-rest : goal.invariant-loop-rest
invariant-loop-rest l = (value_after l.base 0 l.digits ≡ value_after l.base l.value l.rest) × (l.value ≤ l.most) × AllPass (in_literal l.base) l.rest

abbrev pub decreases-loop-rest : goal.decreases-loop-rest
decreases-loop-rest l = length l.rest
