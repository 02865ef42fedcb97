use Rattle.std.proofs.Common.{◌≡◌, ◌∙◌, refl, sym}
use Rattle.plug_kit.proofs.Steps.{inputs_then}
use Rattle.plug_kit.proofs.inputs.hazard_inputs.Goals as goal

pub returns-clause-made : goal.returns-clause-made
returns-clause-made c =
    let e = c.args.b.now.entry in
    let e1 : e ≡ c.stage_inputs-first.new.b.entry = sym c.stage_inputs-first.ensures.entry in
    let e2 : e ≡ c.stage_inputs-second.new.b.entry = e1 ∙ sym c.stage_inputs-second.ensures.entry in
    let e3 : e ≡ c.stage_inputs-third.new.b.entry = e2 ∙ sym c.stage_inputs-third.ensures.entry in
    let e4 : e ≡ c.input_wire-ra.new.b.entry = e3 ∙ sym c.input_wire-ra.ensures.entry in
    let e5 : e ≡ c.input_wire-rb.new.b.entry = e4 ∙ sym c.input_wire-rb.ensures.entry in
    let e6 : e ≡ c.input_wire-uses_a.new.b.entry = e5 ∙ sym c.input_wire-uses_a.ensures.entry in
    inputs_then e _ _ _ _ _ _ _ (c.stage_inputs-first.ensures.made e refl)
    (inputs_then e _ _ _ _ _ _ _ (c.stage_inputs-second.ensures.made e e1)
    (inputs_then e _ _ _ _ _ _ _ (c.stage_inputs-third.ensures.made e e2)
    (inputs_then e _ _ _ _ _ _ _ (c.input_wire-ra.ensures.made e e3)
    (inputs_then e _ _ _ _ _ _ _ (c.input_wire-rb.ensures.made e e4)
    (inputs_then e _ _ _ _ _ _ _ (c.input_wire-uses_a.ensures.made e e5)
    (c.input_wire-uses_b.ensures.made e e6))))))
