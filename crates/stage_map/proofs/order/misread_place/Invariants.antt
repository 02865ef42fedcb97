use Rattle.stage_map.specs.Stages.{IsFirstOf, HasOrderFault}
use Rattle.stage_map.proofs.order.misread_place.Given as goal

abbrev pub invariant-loop-k : goal.invariant-loop-k
invariant-loop-k l = IsFirstOf l.uses (HasOrderFault l.uses) l.k l.best
