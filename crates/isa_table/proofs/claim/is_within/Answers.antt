use Rattle.std.proofs.Common.{arith}
use Rattle.isa_table.proofs.Overlap.{within_iff}
use Rattle.isa_table.proofs.claim.is_within.Goals as goal

pub returns : goal.returns
returns c = within_iff c.args.claim.value c.args.claim.mask (omega arith) (omega arith)
