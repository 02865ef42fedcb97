use Rattle.stage_map.specs.Search.{IsFirstPair}
use Rattle.stage_map.proofs.twice.first_pair.Given as goal

abbrev pub invariant-loop-i : goal.invariant-loop-i
invariant-loop-i l = IsFirstPair l.uses l.i l.best
