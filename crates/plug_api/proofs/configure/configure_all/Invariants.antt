use Rattle.std.proofs.Common.{length}
use Rattle.plug_api.specs.SoFar.{TakenSoFar}
use Rattle.plug_api.proofs.configure.configure_all.Given as goal

abbrev pub invariant-loop-i : goal.invariant-loop-i
invariant-loop-i g l =
    TakenSoFar (λ b. (goal.Plugin-dyn g (b.vtable, b.value)).kind b.value) (λ b. (goal.Plugin-dyn g (b.vtable, b.value)).taken b.value) (λ b. (goal.Plugin-dyn g (b.vtable, b.value)).spec_now b.value)
    (λ b. (goal.Plugin-dyn g (b.vtable, b.value)).first_fault b.value) (λ b. (goal.Plugin-dyn g (b.vtable, b.value)).spec_taken b.value)
    (λ b plan p. (goal.Plugin-dyn g (b.vtable, b.value)).begun b.value plan p) (λ b plan p. (goal.Plugin-dyn g (b.vtable, b.value)).builds b.value plan p)
    (λ b e plan p. (goal.Plugin-dyn g (b.vtable, b.value)).begun_for b.value e plan p) (λ b e plan p. (goal.Plugin-dyn g (b.vtable, b.value)).builds_for b.value e plan p)
    l.fn.plugs.items l.plugs.items l.picks.items l.entries.items (length l.entries.items) l.i
