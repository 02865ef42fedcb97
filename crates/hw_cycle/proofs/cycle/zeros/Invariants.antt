use Rattle.std.proofs.Common.{◌≡◌, ℕ, ◌^◌, ◌<◌, length, replicate}
use Rattle.hw_module.specs.Rows.{array_at}
use Rattle.hw_cycle.specs.State.{cells_at}
use Rattle.hw_cycle.proofs.cycle.zeros.Given as goal

abbrev pub invariant-loop-a : goal.invariant-loop-a
invariant-loop-a l = record {
  many : length l.arrays.items ≡ l.a;
  zero : (a : ℕ) → a < l.a → cells_at l.arrays.items a ≡ replicate (2 ^ (array_at l.rows a).bits) 0;
}
