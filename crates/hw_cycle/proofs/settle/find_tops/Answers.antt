use Rattle.std.proofs.Common.{rules, ◌∙◌, ◌<◌, length, arith}
use Rattle.hw_cycle.proofs.Steps.{top_wire, tops_set, tops_skip}
use Rattle.hw_cycle.proofs.settle.find_tops.Goals.{then-marks-k, else-marks-k}
use Rattle.hw_cycle.proofs.settle.find_tops.Goals as goal

pub top_of_op-requires-clause-wire : goal.top_of_op-requires-clause-wire
top_of_op-requires-clause-wire c =
    top_wire c.args.m.now c.args.pool.now c.requires.pool c.requires.checked c.args.marks.now c.requires.marks c.loop-k.k c.as_slice-rows.result.now c.get.result.now
    (c.as_slice-rows.ensures.value ∙ c.wires.ensures.rows) c.get.ensures c.if-marks-k.true

pub loop-k-preserved : goal.loop-k-preserved
loop-k-preserved c =
    let short : c.loop-k.k < length c.loop-k.tops = first_of (search rules, grind arith) in
    elim c.if-marks-k.branch [
      | then-marks-k w ↦
          tops_set c.args.m.now c.args.pool.now c.requires.pool c.requires.checked c.args.marks.now c.requires.marks c.loop-k.k w.top_of_op.result c.loop-k.tops c.if-marks-k.tops
          c.as_slice-rows.result.now w.get.result.now (c.as_slice-rows.ensures.value ∙ c.wires.ensures.rows) w.get.ensures short w.top_of_op.ensures w.tops-is c.loop-k.invariant
      | else-marks-k w ↦
          tops_skip c.args.m.now c.args.pool.now c.requires.pool c.requires.checked c.args.marks.now c.requires.marks c.loop-k.k c.loop-k.tops c.if-marks-k.tops
          w.if-marks-k.false w.tops-is c.loop-k.invariant
    ]
