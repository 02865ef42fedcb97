use Rattle.std.proofs.Common.{rules, ◌∙◌, ◌<◌, length, arith}
use Rattle.hw_cycle.proofs.Steps.{wire_live, wires_set, wires_skip}
use Rattle.hw_cycle.proofs.settle.settle_wires.Goals.{then-row-level, else-row-level}
use Rattle.hw_cycle.proofs.settle.settle_wires.Goals as goal

pub driven-requires : goal.driven-requires
driven-requires c =
    let there : c.loop-w.w < length c.as_slice-rows.result.now = first_of (search rules, grind arith) in
    wire_live c.args.m.now c.args.pool.now c.requires.pool c.requires.checked c.args.marks.now c.requires.marks c.loop-w.w (length c.args.values.now) c.as_slice-rows.result.now _
    (c.as_slice-rows.ensures.value ∙ c.wires.ensures.rows) there c.requires.room

pub loop-w-preserved : goal.loop-w-preserved
loop-w-preserved c = λ s ins nodes old.
    let there : c.loop-w.w < length c.as_slice-rows.result.now = first_of (search rules, grind arith) in
    let short : c.loop-w.w < length c.loop-w.wires = first_of (search rules, grind arith) in
    elim c.if-row-level.branch [
      | then-row-level w ↦
          wires_set c.args.m.now c.args.pool.now c.requires.pool c.requires.checked c.args.marks.now c.requires.marks s ins c.args.level c.loop-w.w w.driven.result c.args.values.now
          c.loop-w.wires c.if-row-level.wires c.as_slice-rows.result.now _ (c.as_slice-rows.ensures.value ∙ c.wires.ensures.rows) there short w.if-row-level.true w.driven.ensures w.wires-is nodes
          (c.loop-w.invariant s ins nodes old)
      | else-row-level w ↦
          wires_skip c.args.m.now c.args.pool.now c.requires.pool c.requires.checked c.args.marks.now c.requires.marks s ins c.args.level c.loop-w.w
          c.loop-w.wires c.if-row-level.wires c.as_slice-rows.result.now _ (c.as_slice-rows.ensures.value ∙ c.wires.ensures.rows) there w.if-row-level.false w.wires-is
          (c.loop-w.invariant s ins nodes old)
    ]
