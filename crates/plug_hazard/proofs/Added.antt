-- What is said of stages and operands stays while nodes are added.
use Rattle.std.proofs.Common.{◌≡◌, ℕ, Bool, ◌∷◌, [], refl}
use Rattle.hw_pool.specs.Nodes.{PoolValue}
use Rattle.hw_pool.specs.Meaning.{Env}
use Rattle.hw_pool.specs.Scope.{Scope}
use Rattle.hw_gates.specs.Places.{Step}
use Rattle.hw_gates.proofs.Steps.{kept, stays, stays_in}
use Rattle.plug_hazard.specs.declared.circuit.Stage.{Stage}
use Rattle.plug_hazard.specs.declared.circuit.Operand.{Operand}
use Rattle.plug_hazard.specs.Machine.{Told, chosen_of, three}
use Rattle.plug_hazard.specs.Nets.{IsOperand, IsOperandIn, IsStage, IsStageIn, chosen_in, told_in}

module _ (old new : PoolValue) (n : ℕ) (step : Step old new n) where
  pub told_kept : (env : Env) (s : Stage) → IsStage old s → told_in env new s ≡ told_in env old s
  told_kept env s is = λ i. record {
    writes = kept env old new n s.writes step is.writes.0 i;
    rd = kept env old new n s.rd step is.rd.0 i;
    ready = kept env old new n s.ready step is.ready.0 i;
    value = kept env old new n s.value step is.value.0 i;
  }

  pub stage_in : (scope : Scope) (s : Stage) → IsStage old s → IsStageIn scope old s → IsStageIn scope new s
  stage_in scope s is h = record {
    writes = stays_in scope old new n s.writes step is.writes.0 h.writes;
    rd = stays_in scope old new n s.rd step is.rd.0 h.rd;
    ready = stays_in scope old new n s.ready step is.ready.0 h.ready;
    value = stays_in scope old new n s.value step is.value.0 h.value;
  }

  pub operand_in : (scope : Scope) (o : Operand) → IsOperand old o → IsOperandIn scope old o → IsOperandIn scope new o
  operand_in scope o is h = record {
    value = stays_in scope old new n o.value step is.value.0 h.value;
    bad = stays_in scope old new n o.bad step is.bad.0 h.bad;
  }

-- where one truth value is that of all three stages
pub for_all : (r : ℕ) (b : Bool) (x y z : Told) (plain : ℕ) → chosen_of r (three b b b) (x ∷ y ∷ z ∷ []) plain ≡ chosen_of r (λ i. b) (x ∷ y ∷ z ∷ []) plain
unfolding chosen_of
for_all r b x y z plain = refl
