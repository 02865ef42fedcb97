use Rattle.plug_api.specs.SoFar.{AreSoundSoFar}
use Rattle.plug_api.proofs.law.decides_each.Given as goal

abbrev pub invariant-loop-k : goal.invariant-loop-k
invariant-loop-k g l = AreSoundSoFar (λ b. (goal.Plugin-dyn g (b.vtable, b.value)).first_fault b.value) (λ b. (goal.Plugin-dyn g (b.vtable, b.value)).spec_taken b.value) l.plugs.items l.k
