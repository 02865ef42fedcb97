-- What the second call knows of Predict's ports.
use Rattle.std.proofs.Common.{◌≡◌, ◌∙◌, ℕ, ap, sym, subst, refl, arith, true, false, ◌||◌, eqb, Option, None, Some}
use Rattle.std.proofs.lemmas.Bool.{both_ways, eq-eqb, or_left, or_right}
use Rattle.hw_pool.specs.Nodes.{PoolValue}
use Rattle.hw_pool.specs.Meaning.{Env}
use Rattle.hw_pool.specs.Frame.{Adds}
use Rattle.hw_gates.specs.Places.{place, worth, value_in, Is, IsIn}
use Rattle.hw_gates.proofs.Has.{has_of, is_in}
use Rattle.hw_module.specs.Rows.{ModuleValue}
use Rattle.hw_module.specs.Scope.{scope_of}
use Rattle.service_reg.specs.declared.service.Service.TheVariants.{Predict}
use Rattle.service_ports.specs.declared.ports.PredictPorts.{PredictPorts}
use Rattle.service_ports.specs.Ports.{Ports, predict_ports, output_level, output_widths}
use Rattle.service_ports.specs.Registry.{Offered, RegistryValue, offered_as, ports_in, single}
use Rattle.service_ports.proofs.Offers.{none_some}
use Rattle.plug_part.specs.Of.{port_trees}
use Rattle.plug_part.specs.Owned.{is_input_of, is_predict_input, ports_of}
use Rattle.plug_build.specs.Fits.{AreOutputs, IsInput, IsOutput, OffersFit}
use Rattle.plug_build.proofs.Frame.{ports_kept}
use Rattle.plug_kit.proofs.Rows.{some_eq}
use Rattle.plug_icache.specs.Builds.{guess_in}
use Rattle.plug_icache.specs.Late.{predict_in}

pub from_ports : (o : Option (ℕ × PredictPorts)) (q : PredictPorts) → ports_in o ≡ Some q → (by : ℕ) × (o ≡ Some (by, q))
from_ports None q h = absurd (none_some None q refl h)
from_ports (Some o) q h = let same : o.1 ≡ q = some_eq h in (o.0, λ i. Some (o.0, same i))

module _ (d : ModuleValue) (pool : PoolValue) (r : RegistryValue) (fit : OffersFit d pool r) where
  of-ports : (o : Option Offered) (p : Ports) → ports_of o ≡ Some p → (x : Offered) × (o ≡ Some x) × (x.ports ≡ p)
  of-ports None p h = absurd (none_some None p refl h)
  of-ports (Some x) p h = (x, refl, some_eq h)

  -- its answer stays
  pub predict_kept : (new : PoolValue) (n : ℕ) → Adds pool new n → predict_in new r ≡ predict_in pool r
  predict_kept new n adds = ports_kept pool new n adds d (output_level Predict) (output_widths Predict) (ports_of (single r Predict))
      (λ p e.
      let x = of-ports (single r Predict) p e in
      subst (λ (q : Ports). AreOutputs d pool (output_level Predict) q.outputs (output_widths Predict)) x.2 (fit.singles Predict x.0 x.1).outputs)

  module _ (by : ℕ) (q : PredictPorts) (is : r.predict ≡ Some (by, q)) where
    answer : IsOutput d pool 1 32 q.next
    answer = (fit.singles Predict (record { by = by; ports = predict_ports q }) (ap (offered_as predict_ports) is)).outputs.0

    pub answer_net : Is pool q.next 32 8
    answer_net = (has_of pool q.next answer.scope.is, answer.wide, (let l = answer.level in omega arith))

    pub answer_in : IsIn (scope_of d) pool q.next
    answer_in = is_in (scope_of d) pool q.next answer.scope

    pub answer_is : (env : Env) (a : ℕ) → value_in env pool q.next ≡ guess_in (predict_in pool r) a env
    unfolding place worth
    answer_is env a = ap (λ (o : Option (ℕ × PredictPorts)). guess_in (port_trees pool.nodes (ports_of (offered_as predict_ports o))) a env) (sym is)

    pub apart : q.pc ≡ q.word → ⊥
    apart same = both_ways (eqb q.pc q.word || false) (fit.singles Predict (record { by = by; ports = predict_ports q }) (ap (offered_as predict_ports) is)).apart.0
        (or_left (eqb q.pc q.word) false (eq-eqb q.pc q.word same))

    pub asked : IsInput d by q.pc (32, 1) × IsInput d by q.word (32, 1)
    asked = let h = (fit.singles Predict (record { by = by; ports = predict_ports q }) (ap (offered_as predict_ports) is)).inputs in (h.0, h.1.0)

-- both are inputs of Predict
module _ (r : RegistryValue) (by : ℕ) (q : PredictPorts) (is : r.predict ≡ Some (by, q)) where
  among : (k : ℕ) → (eqb k q.pc || (eqb k q.word || false)) ≡ true → is_predict_input r k ≡ true
  among k h = ap (λ (o : Option (ℕ × PredictPorts)). is_input_of (ports_of (offered_as predict_ports o)) k) is ∙ h

  pub pc_input : is_predict_input r q.pc ≡ true
  pc_input = among q.pc (or_left (eqb q.pc q.pc) _ (eq-eqb q.pc q.pc refl))

  pub word_input : is_predict_input r q.word ≡ true
  word_input = among q.word (or_right (eqb q.word q.pc) _ (or_left (eqb q.word q.word) false (eq-eqb q.word q.word refl)))

-- it is offered once
pub same_ports : (o : Option (ℕ × PredictPorts)) (by to : ℕ) (p q : PredictPorts) → o ≡ Some (by, p) → o ≡ Some (to, q) → p ≡ q
same_ports o by to p q first second = ap (λ (x : ℕ × PredictPorts). x.1) (some_eq (sym first ∙ second))
