use Rattle.verilog_read.proofs.Words.{same_test}
use Rattle.verilog_read.proofs.cursor.same.Goals as goal

pub returns : goal.returns
returns c = same_test c.is.result c.args.name.now c.args.word.now c.is.ensures
