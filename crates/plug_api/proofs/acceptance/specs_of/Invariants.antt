use Rattle.plug_api.specs.SoFar.{AreSaid}
use Rattle.plug_api.proofs.acceptance.specs_of.Given as goal

abbrev pub invariant-loop-i : goal.invariant-loop-i
invariant-loop-i g l = AreSaid (λ b. (goal.Plugin-dyn g (b.vtable, b.value)).spec_now b.value) l.plugs.items l.picks.items l.i l.specs.items
