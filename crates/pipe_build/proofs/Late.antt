-- Results on their way, behind more nodes and with a greater bound of the level; and the places by their numbers.
use Rattle.std.proofs.Common.{◌≡◌, ℕ, zero, suc, ◌+◌, ◌*◌, ◌-◌, ◌<◌, ◌≤◌, arith, ap, refl, subst, true, false}
use Rattle.hw_pool.specs.Nodes.{PoolValue}
use Rattle.hw_pool.specs.Meaning.{Env}
use Rattle.hw_pool.specs.Scope.{Scope}
use Rattle.pipe_steps.specs.Numbers.{tail_from}
use Rattle.pipe_steps.specs.Values.{LateValue, StageValue, leaving, place_stage, places_behind}
use Rattle.pipe_build.specs.declared.nets.LateNets.{LateNets}
use Rattle.pipe_build.specs.declared.nets.StageNets.{StageNets}
use Rattle.pipe_build.specs.Late.{BearsLate, BearsStage, late_at, stage_at}
use Rattle.pipe_build.specs.Bears.{Later}
use Rattle.pipe_build.proofs.Bears.{bears_later}

pub late_on : {s t : Scope} {old new : PoolValue} {level : ℕ} {f : Env → LateValue} {x : LateNets} → Later s old t new → BearsLate s old level f x → BearsLate t new level f x
late_on on h = record { writes = bears_later on h.writes; rd = bears_later on h.rd; value = bears_later on h.value }

pub stage_on : {s t : Scope} {old new : PoolValue} {f : Env → StageValue} {x : StageNets} → Later s old t new → BearsStage s old f x → BearsStage t new f x
stage_on on h = record { writes = bears_later on h.writes; rd = bears_later on h.rd; ready = bears_later on h.ready; value = bears_later on h.value }

-- what leaves one or two places is what the last of them holds
pub leaves_last : (env : Env) (made : LateValue) (reg places : ℕ) → 1 ≤ places → places ≤ 2 → leaving env made (tail_from reg places) ≡ late_at (reg + 3 * (places - 1)) env
leaves_last env made reg zero least most = absurd (omega arith)
leaves_last env made reg (suc zero) least most = let e : reg ≡ reg + 3 * (1 - 1) = omega arith in ap (λ (r : ℕ). late_at r env) e
leaves_last env made reg (suc (suc zero)) least most = refl
leaves_last env made reg (suc (suc (suc k))) least most = absurd (omega arith)

-- what Hazard sees of the first two places
module _ (s : Scope) (pool : PoolValue) (x : StageNets) (reg : ℕ) where
  pub second_is : (places : ℕ) → (0 < places → BearsStage s pool (stage_at true (reg + 3 * 0)) x) → (places ≤ 0 → BearsStage s pool (stage_at false reg) x)
      → BearsStage s pool (λ env. place_stage env (tail_from reg places)) x
  second_is zero there beyond = beyond (omega arith)
  second_is (suc k) there beyond = let e : reg + 3 * 0 ≡ reg = omega arith in subst (λ (r : ℕ). BearsStage s pool (stage_at true r) x) e (there (omega arith))

  pub third_is : (places : ℕ) → (1 < places → BearsStage s pool (stage_at true (reg + 3 * 1)) x) → (places ≤ 1 → BearsStage s pool (stage_at false reg) x)
      → BearsStage s pool (λ env. place_stage env (places_behind (tail_from reg places))) x
  third_is zero there beyond = beyond (omega arith)
  third_is (suc zero) there beyond = beyond (omega arith)
  third_is (suc (suc k)) there beyond = there (omega arith)
