-- Results on their way to the registers.
use Rattle.std.specs.Prelude.{ℕ, ◌+◌, ◌*◌, ◌<◌, Bool, true, false, length}
use Rattle.hw_pool.specs.Nodes.{PoolValue}
use Rattle.hw_pool.specs.Meaning.{Env}
use Rattle.hw_pool.specs.Scope.{Scope}
use Rattle.hw_module.specs.Rows.{ModuleValue}
use Rattle.pipe_drive.specs.Rows.{PlaceRows}
use Rattle.pipe_steps.specs.Values.{LateValue, StageValue}
use Rattle.pipe_build.specs.declared.nets.LateNets.{LateNets}
use Rattle.pipe_build.specs.declared.nets.StageNets.{StageNets}
use Rattle.pipe_build.specs.Bears.{Bears}
use Rattle.pipe_build.specs.Made.{IsReg}

module _ (s : Scope) (pool : PoolValue) where
  pub record BearsLate (level : ℕ) (f : Env → LateValue) (n : LateNets) : Type 0 where
    pub writes : Bears s pool 1 level (λ env. (f env).writes) n.writes
    pub rd : Bears s pool 5 level (λ env. (f env).rd) n.rd
    pub value : Bears s pool 32 level (λ env. (f env).value) n.value

  pub record BearsStage (f : Env → StageValue) (n : StageNets) : Type 0 where
    pub writes : Bears s pool 1 4 (λ env. (f env).writes) n.writes
    pub rd : Bears s pool 5 4 (λ env. (f env).rd) n.rd
    pub ready : Bears s pool 1 4 (λ env. (f env).ready) n.ready
    pub value : Bears s pool 32 4 (λ env. (f env).value) n.value

-- the three registers of a place
pub record IsPlace (m : ModuleValue) (reg : ℕ) : Type 0 where
  pub writes : IsReg m reg 1
  pub rd : IsReg m (reg + 1) 5
  pub value : IsReg m (reg + 2) 32

-- so many places, one behind the other
abbrev pub HasTail : ModuleValue → (first places : ℕ) → Type 0
HasTail m first places = (k : ℕ) → k < places → IsPlace m (first + 3 * k)

-- what a place holds
abbrev pub late_at : (reg : ℕ) → Env → LateValue
late_at reg env = record { writes = env.regs reg; rd = env.regs (reg + 1); value = env.regs (reg + 2) }

-- what Hazard sees of it, zeros where it is not there
abbrev pub stage_at : (there : Bool) → (reg : ℕ) → Env → StageValue
stage_at false reg env = record { writes = 0; rd = 0; ready = 0; value = 0 }
stage_at true reg env = record { writes = env.regs reg; rd = env.regs (reg + 1); ready = 1; value = env.regs (reg + 2) }

-- so many places, none of which has a driver, one behind the other
abbrev pub ArePlaces : ModuleValue → (first places : ℕ) → Type 0
ArePlaces m first places = (k : ℕ) → k < places → (first + 3 * k + 2 < length m.regs) × PlaceRows m (first + 3 * k)
