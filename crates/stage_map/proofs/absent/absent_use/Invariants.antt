use Rattle.stage_map.specs.Stages.{IsFirstOf, IsUseFault}
use Rattle.stage_map.proofs.absent.absent_use.Given as goal

abbrev pub invariant-loop-k : goal.invariant-loop-k
invariant-loop-k l = IsFirstOf l.uses (IsUseFault l.stages l.uses) l.k l.best
