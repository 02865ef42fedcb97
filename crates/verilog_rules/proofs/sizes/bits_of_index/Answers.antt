use Rattle.verilog_rules.proofs.SizeForms.{width_step, other_size}
use Rattle.verilog_rules.proofs.sizes.bits_of_index.Goals as goal

pub loop-bits-preserved : goal.loop-bits-preserved
loop-bits-preserved c =
    let k = c.loop-bits.bits in
    width_step k c.args.last _ c.loop-bits-test.true (other_size c.from-cells.result c.args.last k c.loop-bits-test.true c.from-cells.ensures c.if-cells-bits.false)
    c.loop-bits.invariant
