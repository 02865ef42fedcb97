use Rattle.std.proofs.Common.{rules}
use Rattle.hw_module.proofs.Ranges.{bare_is}
use Rattle.hw_module.proofs.module.Module.with_room.Goals as goal

pub invariant_of-result : goal.invariant_of-result
invariant_of-result c =
    (bare_is _ (search rules) (search rules) (search rules) (search rules), search rules, search rules, search rules, search rules, search rules, search rules)
