use Rattle.std.proofs.Common.{◌≡◌, ◌≤◌, ◌-◌, ℕ, length, take}
use Rattle.core_host.specs.declared.host.Port.{Port}
use Rattle.core_host.specs.Outside.{Appends}
use Rattle.core_host.proofs.loops.push_all.Given as goal

abbrev pub invariant-loop-done : goal.invariant-loop-done
invariant-loop-done g l =
    (l.done ≤ length l.bytes)
    × Appends (g.H.Host.pushed l.initial.host l.port) (take l.done l.bytes) (g.H.Host.pushed l.host l.port)
    × ((p : Port) → ¬ (p ≡ l.port) → g.H.Host.pushed l.host p ≡ g.H.Host.pushed l.initial.host p)
    × ((m : ℕ) → g.H.Host.left l.host m ≡ g.H.Host.left l.initial.host m)
    × (g.H.Host.files l.host ≡ g.H.Host.files l.initial.host)
    × ((m : ℕ) → g.H.Host.given l.initial.host m → g.H.Host.given l.host m)
    × ((m : ℕ) → g.H.Host.given l.initial.host m → g.H.Host.opened l.host m ≡ g.H.Host.opened l.initial.host m)
    × (g.H.Host.read_faults l.initial.host ≤ g.H.Host.read_faults l.host)
    × (g.H.Host.write_faults l.initial.host ≤ g.H.Host.write_faults l.host)

abbrev pub decreases-loop-done : goal.decreases-loop-done
decreases-loop-done g l = length l.bytes - l.done
