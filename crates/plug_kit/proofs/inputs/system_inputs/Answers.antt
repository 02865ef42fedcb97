use Rattle.std.proofs.Common.{◌≡◌, ◌∙◌, refl, sym}
use Rattle.plug_kit.proofs.Steps.{inputs_then}
use Rattle.plug_kit.proofs.inputs.system_inputs.Goals as goal

pub returns-clause-made : goal.returns-clause-made
returns-clause-made c =
    let e = c.args.b.now.entry in
    let e1 : e ≡ c.input_wire-event.new.b.entry = sym c.input_wire-event.ensures.entry in
    let e2 : e ≡ c.input_wire-kind.new.b.entry = e1 ∙ sym c.input_wire-kind.ensures.entry in
    let e3 : e ≡ c.input_wire-pc.new.b.entry = e2 ∙ sym c.input_wire-pc.ensures.entry in
    let e4 : e ≡ c.input_wire-cause.new.b.entry = e3 ∙ sym c.input_wire-cause.ensures.entry in
    inputs_then e _ _ _ _ _ _ _ (c.input_wire-event.ensures.made e refl)
    (inputs_then e _ _ _ _ _ _ _ (c.input_wire-kind.ensures.made e e1)
    (inputs_then e _ _ _ _ _ _ _ (c.input_wire-pc.ensures.made e e2)
    (inputs_then e _ _ _ _ _ _ _ (c.input_wire-cause.ensures.made e e3)
    (c.input_wire-tval.ensures.made e e4))))
