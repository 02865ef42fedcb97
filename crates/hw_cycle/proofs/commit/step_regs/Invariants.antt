use Rattle.std.proofs.Common.{◌≡◌, ℕ, ◌<◌, get_or}
use Rattle.hw_module.specs.Rows.{reg_at}
use Rattle.hw_cycle.specs.Levels.{driven_by}
use Rattle.hw_cycle.specs.Commit.{next_in}
use Rattle.hw_cycle.proofs.commit.step_regs.Given as goal

abbrev pub invariant-loop-r : goal.invariant-loop-r
invariant-loop-r l = (r : ℕ) → r < l.r → get_or l.regs r 0 ≡ next_in l.reset (reg_at l.rows r).reset (driven_by l.values (reg_at l.rows r).next)
