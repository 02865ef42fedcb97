use Rattle.std.proofs.Common.{◌≡◌, ℕ, suc, ◌+◌, ◌*◌, ◌<◌, ◌≤◌, ◌⊎◌}
use Rattle.hw_pool.specs.Meaning.{Env}
use Rattle.hw_gates.specs.Places.{Is, IsIn, Step, value_in}
use Rattle.hw_module.specs.Checked.{DriversFit}
use Rattle.hw_module.specs.Rows.{reg_at}
use Rattle.hw_module.specs.Scope.{scope_of}
use Rattle.plug_fetch.specs.Machine.{before, held_after}
use Rattle.plug_fetch.specs.Registers.{Drives, IsPlaceDriven, seen_in}
use Rattle.plug_fetch.proofs.places.drive_places.Given as goal

abbrev pub invariant-loop-i : goal.invariant-loop-i
invariant-loop-i l = record {
  driven : (j : ℕ) → j < l.i → IsPlaceDriven l.b.design l.pool l.fn.b.entry l.fn.first l.fn.depth j (λ (env : Env). seen_in env l.fn.pool l.fn.c l.fn.first);
  before_is : (env : Env) → value_in env l.pool l.before ≡ before l.fn.depth (seen_in env l.fn.pool l.fn.c l.fn.first) l.i;
  last_is : (k : ℕ) → l.i ≡ suc k → (env : Env) → value_in env l.pool l.last ≡ held_after l.fn.depth (seen_in env l.fn.pool l.fn.c l.fn.first) k;
  before_net : Is l.pool l.before 1 8;
  before_in : IsIn (scope_of l.fn.b.design) l.pool l.before;
  last_net : Is l.pool l.last 1 8;
  last_in : IsIn (scope_of l.fn.b.design) l.pool l.last;
  others : (k : ℕ) → (k < l.fn.first) ⊎ (l.fn.first + 4 * l.i ≤ k) → reg_at l.b.design.regs k ≡ reg_at l.fn.b.design.regs k;
  drives : Drives (4 * l.i) l.fn.b l.b;
  drivers : DriversFit l.b.design l.pool;
  step : Step l.fn.pool l.pool (21 * l.i + 1);
}
