use Rattle.std.proofs.Common.{◌≡◌, refl, sym}
use Rattle.plug_kit.proofs.Steps.{inputs_then}
use Rattle.plug_kit.proofs.inputs.predict_inputs.Goals as goal

pub returns-clause-made : goal.returns-clause-made
returns-clause-made c =
    let e = c.args.b.now.entry in
    let e1 : e ≡ c.input_wire-pc.new.b.entry = sym c.input_wire-pc.ensures.entry in
    inputs_then e _ _ _ _ _ _ _ (c.input_wire-pc.ensures.made e refl)
    (c.input_wire-word.ensures.made e e1)
