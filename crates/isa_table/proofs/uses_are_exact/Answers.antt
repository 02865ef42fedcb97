use Rattle.isa_table.proofs.Uses.{exact_at}
use Rattle.isa_table.proofs.uses_are_exact.Goals as goal

pub returns : goal.returns
returns c i h = exact_at i
