-- What is said of the nets of a stage and of an operand.
use Rattle.std.specs.Prelude.{ℕ, [], ◌∷◌}
use Rattle.hw_pool.specs.Nodes.{PoolValue}
use Rattle.hw_pool.specs.Meaning.{Env}
use Rattle.hw_pool.specs.Scope.{Scope}
use Rattle.hw_gates.specs.Places.{Is, IsIn, value_in}
use Rattle.plug_hazard.specs.declared.circuit.Stage.{Stage}
use Rattle.plug_hazard.specs.declared.circuit.Operand.{Operand}
use Rattle.service_ports.specs.declared.ports.HazardStage.{HazardStage}
use Rattle.plug_kit.specs.declared.inputs.HazardInputs.{HazardInputs}
use Rattle.plug_hazard.specs.Machine.{Told, Chosen}
use Rattle.plug_hazard.specs.Law.{Now}

abbrev pub told_in : Env → PoolValue → Stage → Told
told_in env p s = record { writes = value_in env p s.writes; rd = value_in env p s.rd; ready = value_in env p s.ready; value = value_in env p s.value }

abbrev pub chosen_in : Env → PoolValue → Operand → Chosen
chosen_in env p o = record { value = value_in env p o.value; bad = value_in env p o.bad }

-- the nets of a stage, with their widths, of level 5 at most
pub record IsStage (p : PoolValue) (s : Stage) : Type 0 where
  pub writes : Is p s.writes 1 5
  pub rd : Is p s.rd 5 5
  pub ready : Is p s.ready 1 5
  pub value : Is p s.value 32 5

pub record IsOperand (p : PoolValue) (o : Operand) : Type 0 where
  pub value : Is p o.value 32 5
  pub bad : Is p o.bad 1 5

-- what they take from outside is in a scope
pub record IsStageIn (scope : Scope) (p : PoolValue) (s : Stage) : Type 0 where
  pub writes : IsIn scope p s.writes
  pub rd : IsIn scope p s.rd
  pub ready : IsIn scope p s.ready
  pub value : IsIn scope p s.value

pub record IsOperandIn (scope : Scope) (p : PoolValue) (o : Operand) : Type 0 where
  pub value : IsIn scope p o.value
  pub bad : IsIn scope p o.bad

-- ---- what stands at the inputs, by their forward wires

-- what a stage shows
abbrev pub told_over : HazardStage → Env → Told
told_over w env = record { writes = env.wires w.writes; rd = env.wires w.rd; ready = env.wires w.ready; value = env.wires w.value }

-- one cycle, where what RegFile says stands on two forward wires
abbrev pub now_over : HazardInputs → (wire_a wire_b : ℕ) → Env → Now
now_over w wire_a wire_b env = record {
  stages = told_over w.first env ∷ told_over w.second env ∷ told_over w.third env ∷ [];
  ra = env.wires w.ra;
  rb = env.wires w.rb;
  uses_a = env.wires w.uses_a;
  uses_b = env.wires w.uses_b;
  plain_a = env.wires wire_a;
  plain_b = env.wires wire_b;
}
