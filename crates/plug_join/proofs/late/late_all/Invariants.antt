use Rattle.plug_build.specs.World.{world_of}
use Rattle.plug_join.specs.Joined.{LateSoFar, pipe_share, size_of}
use Rattle.plug_join.proofs.late.late_all.Given as goal

abbrev pub invariant-loop-entry : goal.invariant-loop-entry
invariant-loop-entry g l =
    LateSoFar (λ x. (goal.Plugin-dyn g (x.vtable, x.value)).spec_now x.value) (λ x. (goal.Plugin-dyn g (x.vtable, x.value)).begun x.value) (λ x. (goal.Plugin-dyn g (x.vtable, x.value)).builds x.value)
    l.plugs.items l.plan l.initial.pool (pipe_share l.plan) (size_of (world_of l.initial.pool l.initial.b l.reg)) l.entry-index (world_of l.pool l.b l.reg)
