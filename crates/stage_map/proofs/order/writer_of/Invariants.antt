use Rattle.stage_map.specs.Stages.{IsFirstOf, IsWrite}
use Rattle.stage_map.proofs.order.writer_of.Given as goal

abbrev pub invariant-loop-k : goal.invariant-loop-k
invariant-loop-k l = IsFirstOf l.uses (IsWrite l.uses l.name) l.k l.best
