use Rattle.std.proofs.Common.{◌≡◌, ◌*◌, ◌-◌, ◌≤◌}
use Rattle.hw_pool.specs.Meaning.{Env}
use Rattle.hw_pool.specs.Scope.{Scope}
use Rattle.hw_gates.specs.Places.{Has, IsIn, Step, value_in}
use Rattle.hw_words.specs.Shifts.{reverse_of}
use Rattle.hw_words.proofs.shift.reverse.Given as goal

-- the bits so far are in reverse
abbrev pub invariant-loop-k : goal.invariant-loop-k
invariant-loop-k l = record {
  value : (env : Env) → value_in env l.pool l.so_far ≡ reverse_of (value_in env l.fn.pool l.a) l.k;
  net : Has l.pool l.so_far;
  scope : (s : Scope) → IsIn s l.fn.pool l.a → IsIn s l.pool l.so_far;
  width : l.so_far.width ≡ l.k;
  level : l.so_far.level ≤ l.a.level;
  a : Has l.pool l.a;
  step : Step l.fn.pool l.pool (2 * l.k - 1);
}
