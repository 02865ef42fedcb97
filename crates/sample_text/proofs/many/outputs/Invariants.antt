use Rattle.sample_text.specs.Draft.{IsDraft}
use Rattle.sample_text.proofs.many.outputs.Given as goal

abbrev pub invariant-loop-port : goal.invariant-loop-port
invariant-loop-port l = IsDraft l.draft.m l.draft.pool l.draft.nets.items
