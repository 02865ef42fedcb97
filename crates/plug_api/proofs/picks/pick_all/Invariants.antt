use Rattle.plug_api.specs.Picks.{ArePicks}
use Rattle.plug_api.proofs.picks.pick_all.Given as goal

abbrev pub invariant-loop-entry : goal.invariant-loop-entry
invariant-loop-entry g l = ArePicks (λ b. (goal.Plugin-dyn g (b.vtable, b.value)).kind b.value) l.plugs.items l.entries.items l.entry l.picks.items
