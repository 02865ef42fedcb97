use Rattle.std.proofs.Common.{◌≡◌, ◌*◌}
use Rattle.hw_pool.specs.Meaning.{Env}
use Rattle.hw_pool.specs.Scope.{Scope}
use Rattle.hw_gates.specs.Places.{Is, IsIn, Step, value_in}
use Rattle.muldiv_law.specs.Steps.{halves, several}
use Rattle.muldiv_nets.proofs.steps.several.Given as goal

-- both halves are those behind so many steps
abbrev pub invariant-loop-k : goal.invariant-loop-k
invariant-loop-k l = record {
  hi : (env : Env) → value_in env l.pool l.upper
      ≡ (several (value_in env l.fn.pool l.f2) (value_in env l.fn.pool l.f1) (value_in env l.fn.pool l.other) (value_in env l.fn.pool l.inv) l.k
      (halves (value_in env l.fn.pool l.fn.hi) (value_in env l.fn.pool l.fn.lo))).hi;
  lo : (env : Env) → value_in env l.pool l.lower
      ≡ (several (value_in env l.fn.pool l.f2) (value_in env l.fn.pool l.f1) (value_in env l.fn.pool l.other) (value_in env l.fn.pool l.inv) l.k
      (halves (value_in env l.fn.pool l.fn.hi) (value_in env l.fn.pool l.fn.lo))).lo;
  upper : Is l.pool l.upper 32 4;
  lower : Is l.pool l.lower 32 4;
  scope : (s : Scope) → IsIn s l.fn.pool l.f2 → IsIn s l.fn.pool l.f1 → IsIn s l.fn.pool l.other → IsIn s l.fn.pool l.inv → IsIn s l.fn.pool l.fn.hi → IsIn s l.fn.pool l.fn.lo
      → IsIn s l.pool l.upper × IsIn s l.pool l.lower;
  f2 : Is l.pool l.f2 1 4;
  f1 : Is l.pool l.f1 1 4;
  other : Is l.pool l.other 33 4;
  inv : Is l.pool l.inv 1 4;
  step : Step l.fn.pool l.pool (39 * l.k);
}
