use Rattle.std.proofs.Common.{◌≡◌, ◌≤◌, length}
use Rattle.std.specs.Str.Parse.{digits_value_after}
use Rattle.verilog_tree.specs.Bytes.{is_digit}
use Rattle.verilog_read.specs.Runs.{AllPass}
use Rattle.verilog_read.proofs.lexer.decimal.Given as goal

abbrev pub invariant-loop-rest : goal.invariant-loop-rest
invariant-loop-rest l = (digits_value_after 10 0 l.digits ≡ digits_value_after 10 l.value l.rest) × (l.value ≤ l.most) × AllPass is_digit l.rest

abbrev pub decreases-loop-rest : goal.decreases-loop-rest
decreases-loop-rest l = length l.rest
