use Rattle.plug_api.specs.Picks.{IsUnknown}
use Rattle.plug_api.proofs.picks.pick.Given as goal

abbrev pub invariant-loop-k : goal.invariant-loop-k
invariant-loop-k g l = IsUnknown (λ b. (goal.Plugin-dyn g (b.vtable, b.value)).kind b.value) l.plugs.items l.k l.name
