use Rattle.sample_text.specs.Draft.{IsDraft}
use Rattle.sample_text.proofs.few.small.Given as goal

abbrev pub invariant-loop-k : goal.invariant-loop-k
invariant-loop-k l = IsDraft l.draft.m l.draft.pool l.draft.nets.items

abbrev pub invariant-loop-k-2 : goal.invariant-loop-k-2
invariant-loop-k-2 l = IsDraft l.draft.m l.draft.pool l.draft.nets.items
