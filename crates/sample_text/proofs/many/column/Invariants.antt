use Rattle.sample_text.specs.Draft.{IsDraft}
use Rattle.sample_text.proofs.many.column.Given as goal

abbrev pub invariant-loop-k : goal.invariant-loop-k
invariant-loop-k l = IsDraft l.draft.m l.draft.pool l.draft.nets.items
