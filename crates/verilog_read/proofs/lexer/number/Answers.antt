use Rattle.verilog_tree.specs.Bytes.{is_digit}
use Rattle.verilog_read.proofs.Values.{run_passes, number_is}
use Rattle.verilog_read.proofs.lexer.number.Goals as goal

pub number_behind-requires-clause-digits : goal.number_behind-requires-clause-digits
number_behind-requires-clause-digits c = run_passes is_digit c.args.bytes.now c.behind-rest.result.now c.requires.some c.behind-rest.ensures.same c.requires.first

pub returns-clause-token : goal.returns-clause-token
returns-clause-token c = rw (number_is c.args.bytes.now c.behind-rest.result.now c.requires.some c.behind-rest.ensures.same) c.number_behind.ensures.token
