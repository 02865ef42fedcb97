use Rattle.std.proofs.Common.{◌≡◌, ◌∙◌, sym}
use Rattle.plug_kit.proofs.Steps.{inputs_then}
use Rattle.plug_kit.proofs.inputs.stage_inputs.Goals as goal

pub returns-clause-made : goal.returns-clause-made
returns-clause-made c = λ e is.
    let e1 : e ≡ c.input_wire-writes.new.b.entry = is ∙ sym c.input_wire-writes.ensures.entry in
    let e2 : e ≡ c.input_wire-rd.new.b.entry = e1 ∙ sym c.input_wire-rd.ensures.entry in
    let e3 : e ≡ c.input_wire-ready.new.b.entry = e2 ∙ sym c.input_wire-ready.ensures.entry in
    inputs_then e _ _ _ _ _ _ _ (c.input_wire-writes.ensures.made e is)
    (inputs_then e _ _ _ _ _ _ _ (c.input_wire-rd.ensures.made e e1)
    (inputs_then e _ _ _ _ _ _ _ (c.input_wire-ready.ensures.made e e2)
    (c.input_wire-value.ensures.made e e3)))
