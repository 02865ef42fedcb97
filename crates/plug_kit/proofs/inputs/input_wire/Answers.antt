use Rattle.plug_kit.proofs.Steps.{one_input}
use Rattle.plug_kit.proofs.inputs.input_wire.Goals as goal

pub returns-clause-made : goal.returns-clause-made
returns-clause-made c = λ by same.
    one_input by _ _ _ _ _ _ same c.wire.ensures.makes c.wire.ensures.number c.wire.ensures.count c.wire.ensures.made
    c.wire.ensures.regs c.wire.ensures.arrays c.wire.ensures.outs c.wire.ensures.room c.wire.ensures.drivers
