use Rattle.std.proofs.Common.{◌≡◌, ℕ, ◌<◌, ◌≤◌, Some, MatchOption}
use Rattle.hw_module.specs.Rows.{wire_at}
use Rattle.hw_cycle.proofs.settle.next_level.Given as goal

abbrev pub invariant-loop-w : goal.invariant-loop-w
invariant-loop-w l = record {
  above : (next : ℕ) → l.found ≡ Some next → l.level < next;
  gap : MatchOption l.found ((w : ℕ) → w < l.w → (wire_at l.rows w).level ≤ l.level)
      (λ next. (w : ℕ) → w < l.w → (wire_at l.rows w).level < next → (wire_at l.rows w).level ≤ l.level);
}
