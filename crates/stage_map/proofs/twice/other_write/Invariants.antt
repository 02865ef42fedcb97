use Rattle.stage_map.specs.Stages.{IsFirstOf, IsTwice}
use Rattle.stage_map.proofs.twice.other_write.Given as goal

abbrev pub invariant-loop-j : goal.invariant-loop-j
invariant-loop-j l = IsFirstOf l.uses (IsTwice l.uses l.i) l.j l.best
