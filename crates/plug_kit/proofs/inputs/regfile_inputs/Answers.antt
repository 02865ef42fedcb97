use Rattle.std.proofs.Common.{◌≡◌, ◌∙◌, refl, sym}
use Rattle.plug_kit.proofs.Steps.{inputs_then}
use Rattle.plug_kit.proofs.inputs.regfile_inputs.Goals as goal

pub returns-clause-made : goal.returns-clause-made
returns-clause-made c =
    let e = c.args.b.now.entry in
    let e1 : e ≡ c.input_wire-ra.new.b.entry = sym c.input_wire-ra.ensures.entry in
    let e2 : e ≡ c.input_wire-rb.new.b.entry = e1 ∙ sym c.input_wire-rb.ensures.entry in
    let e3 : e ≡ c.input_wire-we.new.b.entry = e2 ∙ sym c.input_wire-we.ensures.entry in
    let e4 : e ≡ c.input_wire-wa.new.b.entry = e3 ∙ sym c.input_wire-wa.ensures.entry in
    inputs_then e _ _ _ _ _ _ _ (c.input_wire-ra.ensures.made e refl)
    (inputs_then e _ _ _ _ _ _ _ (c.input_wire-rb.ensures.made e e1)
    (inputs_then e _ _ _ _ _ _ _ (c.input_wire-we.ensures.made e e2)
    (inputs_then e _ _ _ _ _ _ _ (c.input_wire-wa.ensures.made e e3)
    (c.input_wire-wd.ensures.made e e4))))
