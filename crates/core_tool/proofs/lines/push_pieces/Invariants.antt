use Rattle.std.proofs.Common.{◌≡◌, ◌≤◌, ℕ, drop}
use Rattle.core_host.specs.declared.host.Port.{Port}
use Rattle.core_host.specs.declared.host.Port.TheVariants.{Notes}
use Rattle.core_tool.specs.Pieces.{joined}
use Rattle.core_tool.proofs.Pieces.{Pushed}
use Rattle.core_tool.proofs.lines.push_pieces.Given as goal

abbrev pub invariant-loop-piece : goal.invariant-loop-piece
invariant-loop-piece g l =
    Pushed (g.H.Host.pushed l.initial.host Notes) (g.H.Host.pushed l.host Notes) (joined l.pieces) (joined (drop l.piece-index l.pieces))
    × ((p : Port) → ¬ (p ≡ Notes) → g.H.Host.pushed l.host p ≡ g.H.Host.pushed l.initial.host p)
    × ((m : ℕ) → g.H.Host.left l.host m ≡ g.H.Host.left l.initial.host m)
    × (g.H.Host.files l.host ≡ g.H.Host.files l.initial.host)
    × ((m : ℕ) → g.H.Host.given l.initial.host m → g.H.Host.given l.host m)
    × ((m : ℕ) → g.H.Host.given l.initial.host m → g.H.Host.opened l.host m ≡ g.H.Host.opened l.initial.host m)
    × (g.H.Host.read_faults l.initial.host ≤ g.H.Host.read_faults l.host)
    × (g.H.Host.write_faults l.initial.host ≤ g.H.Host.write_faults l.host)
