use Rattle.stage_map.specs.Stages.{PlacesThere}
use Rattle.stage_map.proofs.absent.absent_place.Given as goal

abbrev pub invariant-loop-e : goal.invariant-loop-e
invariant-loop-e l = PlacesThere l.stages l.places.items l.e
