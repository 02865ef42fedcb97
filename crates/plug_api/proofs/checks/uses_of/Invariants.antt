use Rattle.std.proofs.Common.{◌≡◌, take}
use Rattle.plug_api.specs.Accept.{uses_of}
use Rattle.plug_api.proofs.checks.uses_of.Given as goal

abbrev pub invariant-loop-spec : goal.invariant-loop-spec
invariant-loop-spec l = l.uses.items ≡ uses_of (take l.spec-index l.specs.items)
