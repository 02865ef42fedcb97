use Rattle.std.proofs.Common.{◌≡◌, take}
use Rattle.plug_api.proofs.copies.copy_services.Given as goal

abbrev pub invariant-loop-k : goal.invariant-loop-k
invariant-loop-k l = l.copies.items ≡ take l.k l.services.items
