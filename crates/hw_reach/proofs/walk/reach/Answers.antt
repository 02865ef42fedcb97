use Rattle.std.proofs.Common.{◌∙◌, length, refl, arith}
use Rattle.hw_reach.proofs.Marking.{cleared, live_wires, live_regs, live_arrays, live_outs, mark_lists, mark_all}
use Rattle.hw_reach.proofs.walk.reach.Goals as goal

pub mark_wires-requires : goal.mark_wires-requires
mark_wires-requires c = record {
  live = λ k h.
      let l = live_wires c.args.m.now c.args.pool.now c.requires.fits c.deref.result.now (c.deref.ensures.value ∙ c.wires.ensures.rows) k h in
      omega arith;
}

pub mark_regs-requires : goal.mark_regs-requires
mark_regs-requires c = record {
  live = λ k h.
      let l = live_regs c.args.m.now c.args.pool.now c.requires.fits c.deref-2.result.now (c.deref-2.ensures.value ∙ c.regs.ensures.rows) k h in
      omega arith;
}

pub mark_arrays-requires : goal.mark_arrays-requires
mark_arrays-requires c = record {
  live = λ k h.
      let l = live_arrays c.args.m.now c.args.pool.now c.requires.fits c.deref-3.result.now (c.deref-3.ensures.value ∙ c.arrays.ensures.rows) k h in
      omega arith;
}

pub mark_outs-requires : goal.mark_outs-requires
mark_outs-requires c = record {
  live = λ k h.
      let l = live_outs c.args.m.now c.args.pool.now c.requires.fits c.deref-4.result.now (c.deref-4.ensures.value ∙ c.outs.ensures.rows) c.outs.ensures.ranges.ports k h in
      omega arith;
}

pub returns : goal.returns
returns c =
    mark_all c.args.m.now c.args.pool.now.nodes c.fill.new.self c.mark_outs.new.marks c.mark_parts.new.marks
    (cleared c.fill.new.self (length c.args.marks.now) c.fill.ensures.len (λ k l. c.fill.ensures.clones k _ l refl))
    (mark_lists c.args.m.now c.deref.result.now c.deref-2.result.now c.deref-3.result.now c.deref-4.result.now
    c.fill.new.self c.mark_wires.new.marks c.mark_regs.new.marks c.mark_arrays.new.marks c.mark_outs.new.marks
    (c.deref.ensures.value ∙ c.wires.ensures.rows) (c.deref-2.ensures.value ∙ c.regs.ensures.rows) (c.deref-3.ensures.value ∙ c.arrays.ensures.rows) (c.deref-4.ensures.value ∙ c.outs.ensures.rows)
    c.outs.ensures.ranges.ports c.mark_wires.ensures c.mark_regs.ensures c.mark_arrays.ensures c.mark_outs.ensures)
    c.mark_parts.ensures
    (omega arith)
