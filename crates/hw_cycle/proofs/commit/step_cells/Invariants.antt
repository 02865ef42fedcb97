use Rattle.std.proofs.Common.{◌≡◌, ℕ, ◌<◌, ◌≤◌}
use Rattle.hw_module.specs.Rows.{array_at}
use Rattle.hw_cycle.specs.State.{cells_at}
use Rattle.hw_cycle.specs.Commit.{written_in}
use Rattle.hw_cycle.proofs.commit.step_cells.Given as goal

abbrev pub invariant-loop-a : goal.invariant-loop-a
invariant-loop-a l = record {
  done : (a : ℕ) → a < l.a → cells_at l.cells a ≡ written_in l.values (array_at l.rows a).write (cells_at l.fn.cells a);
  rest : (a : ℕ) → l.a ≤ a → cells_at l.cells a ≡ cells_at l.fn.cells a;
}
