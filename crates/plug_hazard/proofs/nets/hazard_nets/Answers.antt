use Rattle.std.proofs.Common.{◌≡◌, ◌∙◌, ◌+◌, ℕ, ◌∷◌, [], ap}
use Rattle.hw_pool.specs.Meaning.{Env}
use Rattle.hw_pool.specs.Scope.{Scope}
use Rattle.hw_gates.specs.Places.{IsIn, Step, value_in}
use Rattle.hw_gates.proofs.Steps.{◌▸◌, kept, stays, stays_in}
use Rattle.hw_module.specs.Scope.{scope_of}
use Rattle.plug_kit.proofs.Gates.{gate_output}
use Rattle.plug_hazard.specs.Machine.{Chosen, chosen_of, hold_of}
use Rattle.plug_hazard.specs.Nets.{IsOperandIn, chosen_in, told_in, told_over}
use Rattle.plug_hazard.proofs.Added.{told_kept, stage_in, operand_in, for_all}
use Rattle.plug_hazard.proofs.nets.hazard_nets.Goals as goal

-- the steps from behind each read to behind all reads
module _ (c : goal.After-result-5-1) where
  from_plain_a : Step c.wire_net-plain_a.new.pool c.wire_net-plain_b.new.pool 1
  from_plain_a = c.wire_net-plain_b.ensures.step

  from_uses_b : Step c.wire_net-uses_b.new.pool c.wire_net-plain_b.new.pool 2
  from_uses_b = c.wire_net-plain_a.ensures.step ▸ from_plain_a

  from_uses_a : Step c.wire_net-uses_a.new.pool c.wire_net-plain_b.new.pool 3
  from_uses_a = c.wire_net-uses_b.ensures.step ▸ from_uses_b

  from_rb : Step c.wire_net-rb.new.pool c.wire_net-plain_b.new.pool 4
  from_rb = c.wire_net-uses_a.ensures.step ▸ from_uses_a

  from_ra : Step c.wire_net-ra.new.pool c.wire_net-plain_b.new.pool 5
  from_ra = c.wire_net-rb.ensures.step ▸ from_rb

  from_third : Step c.stage_nets-third.new.pool c.wire_net-plain_b.new.pool 6
  from_third = c.wire_net-ra.ensures.step ▸ from_ra

  from_second : Step c.stage_nets-second.new.pool c.wire_net-plain_b.new.pool 10
  from_second = c.stage_nets-third.ensures.step ▸ from_third

  from_first : Step c.stage_nets-first.new.pool c.wire_net-plain_b.new.pool 14
  from_first = c.stage_nets-second.ensures.step ▸ from_second

  left : Step c.wire_net-plain_b.new.pool c.choose_operand-left.new.pool 22
  left = c.choose_operand-left.ensures.step

  right : Step c.choose_operand-left.new.pool c.choose_operand-right.new.pool 22
  right = c.choose_operand-right.ensures.step

  last : Step c.choose_operand-right.new.pool c.hold-hold.new.pool 3
  last = c.hold-hold.ensures.step

  both : Step c.wire_net-plain_b.new.pool c.choose_operand-right.new.pool 44
  both = left ▸ right

  -- what the operands are
  left_is : (env : Env) → chosen_in env c.choose_operand-left.new.pool c.choose_operand-left.result
      ≡ chosen_of (env.wires c.args.w.ra) (λ i. c.args.bypass) (told_over c.args.w.first env ∷ told_over c.args.w.second env ∷ told_over c.args.w.third env ∷ []) (env.wires c.args.wire_a)
  left_is env =
      let r = kept env _ _ _ c.wire_net-ra.result from_ra c.wire_net-ra.ensures.net ∙ c.wire_net-ra.ensures.value env in
      let x = told_kept _ _ _ from_first env c.stage_nets-first.result c.stage_nets-first.ensures.net ∙ c.stage_nets-first.ensures.told env in
      let y = told_kept _ _ _ from_second env c.stage_nets-second.result c.stage_nets-second.ensures.net ∙ c.stage_nets-second.ensures.told env in
      let z = told_kept _ _ _ from_third env c.stage_nets-third.result c.stage_nets-third.ensures.net ∙ c.stage_nets-third.ensures.told env in
      let plain = kept env _ _ _ c.wire_net-plain_a.result from_plain_a c.wire_net-plain_a.ensures.net ∙ c.wire_net-plain_a.ensures.value env in
      c.choose_operand-left.ensures.chosen env ∙ for_all _ c.args.bypass _ _ _ _ ∙ (λ i. chosen_of (r i) (λ k. c.args.bypass) (x i ∷ y i ∷ z i ∷ []) (plain i))

  right_is : (env : Env) → chosen_in env c.choose_operand-right.new.pool c.choose_operand-right.result
      ≡ chosen_of (env.wires c.args.w.rb) (λ i. c.args.bypass) (told_over c.args.w.first env ∷ told_over c.args.w.second env ∷ told_over c.args.w.third env ∷ []) (env.wires c.args.wire_b)
  right_is env =
      let r = kept env _ _ _ c.wire_net-rb.result (from_rb ▸ left) c.wire_net-rb.ensures.net ∙ c.wire_net-rb.ensures.value env in
      let x = told_kept _ _ _ (from_first ▸ left) env c.stage_nets-first.result c.stage_nets-first.ensures.net ∙ c.stage_nets-first.ensures.told env in
      let y = told_kept _ _ _ (from_second ▸ left) env c.stage_nets-second.result c.stage_nets-second.ensures.net ∙ c.stage_nets-second.ensures.told env in
      let z = told_kept _ _ _ (from_third ▸ left) env c.stage_nets-third.result c.stage_nets-third.ensures.net ∙ c.stage_nets-third.ensures.told env in
      let plain = kept env _ _ _ c.wire_net-plain_b.result left c.wire_net-plain_b.ensures.net ∙ c.wire_net-plain_b.ensures.value env in
      c.choose_operand-right.ensures.chosen env ∙ for_all _ c.args.bypass _ _ _ _ ∙ (λ i. chosen_of (r i) (λ k. c.args.bypass) (x i ∷ y i ∷ z i ∷ []) (plain i))

  -- what they take from outside is in the module's scope
  left_in : IsOperandIn (scope_of c.args.b.now.design) c.choose_operand-left.new.pool c.choose_operand-left.result
  left_in =
      let s : Scope = scope_of c.args.b.now.design in
      c.choose_operand-left.ensures.scope s
      (stays_in s _ _ _ c.wire_net-ra.result from_ra c.wire_net-ra.ensures.net c.wire_net-ra.ensures.scope)
      (stays_in s _ _ _ c.wire_net-plain_a.result from_plain_a c.wire_net-plain_a.ensures.net c.wire_net-plain_a.ensures.scope)
      (stage_in _ _ _ from_first s c.stage_nets-first.result c.stage_nets-first.ensures.net c.stage_nets-first.ensures.scope)
      (stage_in _ _ _ from_second s c.stage_nets-second.result c.stage_nets-second.ensures.net c.stage_nets-second.ensures.scope)
      (stage_in _ _ _ from_third s c.stage_nets-third.result c.stage_nets-third.ensures.net c.stage_nets-third.ensures.scope)

  right_in : IsOperandIn (scope_of c.args.b.now.design) c.choose_operand-right.new.pool c.choose_operand-right.result
  right_in =
      let s : Scope = scope_of c.args.b.now.design in
      c.choose_operand-right.ensures.scope s
      (stays_in s _ _ _ c.wire_net-rb.result (from_rb ▸ left) c.wire_net-rb.ensures.net c.wire_net-rb.ensures.scope)
      (stays_in s _ _ _ c.wire_net-plain_b.result left c.wire_net-plain_b.ensures.net c.wire_net-plain_b.ensures.scope)
      (stage_in _ _ _ (from_first ▸ left) s c.stage_nets-first.result c.stage_nets-first.ensures.net c.stage_nets-first.ensures.scope)
      (stage_in _ _ _ (from_second ▸ left) s c.stage_nets-second.result c.stage_nets-second.ensures.net c.stage_nets-second.ensures.scope)
      (stage_in _ _ _ (from_third ▸ left) s c.stage_nets-third.result c.stage_nets-third.ensures.net c.stage_nets-third.ensures.scope)

  hold_in_scope : IsIn (scope_of c.args.b.now.design) c.hold-hold.new.pool c.hold-hold.result
  hold_in_scope =
      let s : Scope = scope_of c.args.b.now.design in
      c.hold-hold.ensures.scope s
      (stays_in s _ _ _ c.wire_net-uses_a.result (from_uses_a ▸ both) c.wire_net-uses_a.ensures.net c.wire_net-uses_a.ensures.scope)
      (operand_in _ _ _ right s c.choose_operand-left.result c.choose_operand-left.ensures.net left_in)
      (stays_in s _ _ _ c.wire_net-uses_b.result (from_uses_b ▸ both) c.wire_net-uses_b.ensures.net c.wire_net-uses_b.ensures.scope)
      right_in

pub returns-clause-outputs : goal.returns-clause-outputs
returns-clause-outputs c =
    let d = c.args.b.now.design in
    let s : Scope = scope_of d in
    let q = c.hold-hold.new.pool in
    let a = c.choose_operand-left.result.value in
    let b = c.choose_operand-right.result.value in
    let more = right c ▸ last c in (
      gate_output d q 1 5 c.hold-hold.result c.hold-hold.ensures.net (hold_in_scope c),
      (
        gate_output d q 32 5 a (stays _ _ _ a 32 5 more c.choose_operand-left.ensures.net.value) (stays_in s _ _ _ a more c.choose_operand-left.ensures.net.value.0 (left_in c).value),
        (
          gate_output d q 32 5 b (stays _ _ _ b 32 5 (last c) c.choose_operand-right.ensures.net.value) (stays_in s _ _ _ b (last c) c.choose_operand-right.ensures.net.value.0 (right_in c).value),
          tt,
        ),
      ),
    )

pub returns-clause-hold : goal.returns-clause-hold
returns-clause-hold c = λ env.
    let x = kept env _ _ _ c.wire_net-uses_a.result (from_uses_a c ▸ both c) c.wire_net-uses_a.ensures.net ∙ c.wire_net-uses_a.ensures.value env in
    let y = kept env _ _ _ c.wire_net-uses_b.result (from_uses_b c ▸ both c) c.wire_net-uses_b.ensures.net ∙ c.wire_net-uses_b.ensures.value env in
    let p = kept env _ _ _ c.choose_operand-left.result.bad (right c) c.choose_operand-left.ensures.net.bad.0 ∙ ap (λ (v : Chosen). v.bad) (left_is c env) in
    let r = right_is c env in
    c.hold-hold.ensures.value env ∙ (λ i. hold_of (x i) (p i) (y i) (r i).bad)

pub returns-clause-a : goal.returns-clause-a
returns-clause-a c = λ env.
    kept env _ _ _ c.choose_operand-left.result.value (right c ▸ last c) c.choose_operand-left.ensures.net.value.0 ∙ (λ i. (left_is c env i).value)

pub returns-clause-b : goal.returns-clause-b
returns-clause-b c = λ env.
    kept env _ _ _ c.choose_operand-right.result.value (last c) c.choose_operand-right.ensures.net.value.0 ∙ (λ i. (right_is c env i).value)

pub returns-clause-step : goal.returns-clause-step
returns-clause-step c = c.stage_nets-first.ensures.step ▸ (from_first c ▸ (both c ▸ last c))
