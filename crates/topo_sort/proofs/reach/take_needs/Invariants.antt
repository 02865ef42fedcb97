use Rattle.std.proofs.Common.{◌≡◌, ◌⊎◌, ℕ, ◌<◌}
use Rattle.topo_sort.specs.Graph.{need, Leads}
use Rattle.topo_sort.specs.Reach.{Grows, IsFound, IsReached}
use Rattle.topo_sort.proofs.reach.take_needs.Given as goal

abbrev pub invariant-loop-i : goal.invariant-loop-i
invariant-loop-i l = Grows l.initial.reached l.reached × ((j : ℕ) → j < l.i → IsFound l.reached (need l.edges l.node j))
    × ((root : ℕ) → IsReached l.edges root l.initial.reached → (root ≡ l.node) ⊎ Leads l.edges root l.node → IsReached l.edges root l.reached)
