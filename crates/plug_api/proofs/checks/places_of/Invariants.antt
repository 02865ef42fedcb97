use Rattle.std.proofs.Common.{◌≡◌, take}
use Rattle.plug_api.specs.Accept.{places_of}
use Rattle.plug_api.proofs.checks.places_of.Given as goal

abbrev pub invariant-loop-spec : goal.invariant-loop-spec
invariant-loop-spec l = l.places.items ≡ places_of l.commit (take l.spec-index l.specs.items)
