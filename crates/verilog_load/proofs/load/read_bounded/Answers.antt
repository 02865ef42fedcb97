use Rattle.std.proofs.Common.{length}
use Rattle.tree_bounds.proofs.Trees.{text_bounded}
use Rattle.verilog_load.proofs.Reading.{short_enough, only_memory, unread_told}
use Rattle.verilog_load.proofs.load.read_bounded.Goals as goal

pub returns-in-Ok-clause-short : goal.returns-in-Ok-clause-short
returns-in-Ok-clause-short c = short_enough (length c.args.bytes.now) c.in-Ok.tree c.in-Ok.ensures.long

pub returns-in-Ok-clause-bounded : goal.returns-in-Ok-clause-bounded
returns-in-Ok-clause-bounded c = text_bounded c.args.bytes.now c.in-Ok.tree c.in-Ok.ensures.found (short_enough (length c.args.bytes.now) c.in-Ok.tree c.in-Ok.ensures.long)

pub returns-in-Err-clause-told : goal.returns-in-Err-clause-told
returns-in-Err-clause-told c = unread_told c.args.bytes.now c.in-Err.refusal c.in-Err.ensures.long c.in-Err.ensures.told c.in-Err.ensures.only c.in-Err.ensures.place

pub returns-in-Err-clause-refused : goal.returns-in-Err-clause-refused
returns-in-Err-clause-refused c = λ t short reads. only_memory c.in-Err.refusal t (c.in-Err.ensures.only t short reads)
