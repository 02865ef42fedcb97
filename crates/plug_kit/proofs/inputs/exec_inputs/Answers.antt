use Rattle.std.proofs.Common.{◌≡◌, ◌∙◌, refl, sym}
use Rattle.plug_kit.proofs.Steps.{inputs_then}
use Rattle.plug_kit.proofs.inputs.exec_inputs.Goals as goal

pub returns-clause-made : goal.returns-clause-made
returns-clause-made c =
    let e = c.args.b.now.entry in
    let e1 : e ≡ c.input_wire-go.new.b.entry = sym c.input_wire-go.ensures.entry in
    let e2 : e ≡ c.input_wire-row.new.b.entry = e1 ∙ sym c.input_wire-row.ensures.entry in
    let e3 : e ≡ c.input_wire-pc.new.b.entry = e2 ∙ sym c.input_wire-pc.ensures.entry in
    let e4 : e ≡ c.input_wire-word.new.b.entry = e3 ∙ sym c.input_wire-word.ensures.entry in
    let e5 : e ≡ c.input_wire-left.new.b.entry = e4 ∙ sym c.input_wire-left.ensures.entry in
    let e6 : e ≡ c.input_wire-right.new.b.entry = e5 ∙ sym c.input_wire-right.ensures.entry in
    inputs_then e _ _ _ _ _ _ _ (c.input_wire-go.ensures.made e refl)
    (inputs_then e _ _ _ _ _ _ _ (c.input_wire-row.ensures.made e e1)
    (inputs_then e _ _ _ _ _ _ _ (c.input_wire-pc.ensures.made e e2)
    (inputs_then e _ _ _ _ _ _ _ (c.input_wire-word.ensures.made e e3)
    (inputs_then e _ _ _ _ _ _ _ (c.input_wire-left.ensures.made e e4)
    (inputs_then e _ _ _ _ _ _ _ (c.input_wire-right.ensures.made e e5)
    (c.input_wire-clear.ensures.made e e6))))))
