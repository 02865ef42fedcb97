use Rattle.std.proofs.Common.{◌∙◌, arith}
use Rattle.verilog_read.proofs.Deep.{before-more}
use Rattle.verilog_read.proofs.refusal.before_last.Goals as goal

pub loop-rest-preserved : goal.loop-rest-preserved
loop-rest-preserved c = c.loop-rest.invariant ∙ before-more c.args.n c.loop-rest.rest.now c.in-len1-up.len_at_least (λ h. omega (arith, h))
