use Rattle.std.specs.Prelude.{◌≡◌, ◌≤◌, length}
use Rattle.pipe_join.specs.Pipelined.{AreCommits}
use Rattle.pipe_join.proofs.commits.commits_of.Given as goal

abbrev pub invariant-loop-entry : goal.invariant-loop-entry
invariant-loop-entry g l =
    (length l.commits.items ≡ l.entry) × AreCommits (λ b. (goal.Plugin-dyn g (b.vtable, b.value)).spec_now b.value) l.plugs.items l.plan.picks l.entry l.commits.items

abbrev pub invariant-loop-more : goal.invariant-loop-more
invariant-loop-more g l =
    (l._more ≤ length l.commits.items) × (length l.plan.picks ≤ l._more) × AreCommits (λ b. (goal.Plugin-dyn g (b.vtable, b.value)).spec_now b.value) l.plugs.items l.plan.picks (length l.plan.picks) l.commits.items
