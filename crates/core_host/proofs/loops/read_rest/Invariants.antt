use Rattle.std.proofs.Common.{◌≡◌, ◌≤◌, ◌+◌, ◌-◌, ℕ, length}
use Rattle.core_host.specs.declared.host.Port.{Port}
use Rattle.core_host.specs.Outside.{SameButOne, Splits}
use Rattle.core_host.proofs.loops.read_rest.Given as goal

abbrev pub invariant-loop-buffer : goal.invariant-loop-buffer
invariant-loop-buffer g l =
    Splits (g.H.Host.files l.initial.host) (g.H.Host.left l.initial.host l.file) l.read.items (g.H.Host.left l.host l.file)
    × (length l.read.items ≤ l.limit + 1)
    × g.H.Host.given l.host l.file
    × SameButOne l.file (g.H.Host.left l.initial.host) (g.H.Host.left l.host)
    × (g.H.Host.files l.host ≡ g.H.Host.files l.initial.host)
    × ((m : ℕ) → g.H.Host.given l.initial.host m → g.H.Host.given l.host m)
    × ((m : ℕ) → g.H.Host.given l.initial.host m → g.H.Host.opened l.host m ≡ g.H.Host.opened l.initial.host m)
    × ((p : Port) → g.H.Host.pushed l.host p ≡ g.H.Host.pushed l.initial.host p)
    × (g.H.Host.read_faults l.initial.host ≤ g.H.Host.read_faults l.host)
    × (g.H.Host.write_faults l.initial.host ≤ g.H.Host.write_faults l.host)

abbrev pub decreases-loop-buffer : goal.decreases-loop-buffer
decreases-loop-buffer g l = (l.limit + 1) - length l.read.items
