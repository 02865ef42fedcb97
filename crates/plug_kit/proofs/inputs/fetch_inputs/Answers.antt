use Rattle.std.proofs.Common.{◌≡◌, ◌∙◌, refl, sym}
use Rattle.plug_kit.proofs.Steps.{inputs_then}
use Rattle.plug_kit.proofs.inputs.fetch_inputs.Goals as goal

pub returns-clause-made : goal.returns-clause-made
returns-clause-made c =
    let e = c.args.b.now.entry in
    let e1 : e ≡ c.input_wire-take.new.b.entry = sym c.input_wire-take.ensures.entry in
    let e2 : e ≡ c.input_wire-redirect.new.b.entry = e1 ∙ sym c.input_wire-redirect.ensures.entry in
    let e3 : e ≡ c.input_wire-redirect_pc.new.b.entry = e2 ∙ sym c.input_wire-redirect_pc.ensures.entry in
    inputs_then e _ _ _ _ _ _ _ (c.input_wire-take.ensures.made e refl)
    (inputs_then e _ _ _ _ _ _ _ (c.input_wire-redirect.ensures.made e e1)
    (inputs_then e _ _ _ _ _ _ _ (c.input_wire-redirect_pc.ensures.made e e2)
    (c.input_wire-fence.ensures.made e e3)))
