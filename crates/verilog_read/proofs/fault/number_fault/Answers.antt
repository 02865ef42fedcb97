use Rattle.verilog_tree.specs.Bytes.{is_digit}
use Rattle.verilog_read.proofs.Values.{run_passes}
use Rattle.verilog_read.proofs.Faults.{number_fault_is}
use Rattle.verilog_read.proofs.fault.number_fault.Goals as goal

pub behind_digits-requires-clause-digits : goal.behind_digits-requires-clause-digits
behind_digits-requires-clause-digits c = run_passes is_digit c.args.bytes.now c.behind-rest.result.now c.requires.some c.behind-rest.ensures.same c.requires.first

pub returns-clause-place : goal.returns-clause-place
returns-clause-place c = rw (number_fault_is c.args.bytes.now c.behind-rest.result.now c.requires.some c.behind-rest.ensures.same) c.behind_digits.ensures.place
