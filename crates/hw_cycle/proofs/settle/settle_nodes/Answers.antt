use Rattle.std.proofs.Common.{rules, ◌∙◌, ◌≡◌, ◌<◌, length, get_or, arith, sym}
use Rattle.hw_cycle.specs.State.{held_in}
use Rattle.hw_cycle.specs.Inputs.{ins_of}
use Rattle.hw_cycle.specs.Levels.{IsMarked}
use Rattle.hw_cycle.proofs.Steps.{known, node_can, nodes_set, nodes_skip}
use Rattle.hw_cycle.proofs.settle.settle_nodes.Goals.{then-is_due, else-is_due}
use Rattle.hw_cycle.proofs.settle.settle_nodes.Goals as goal

pub value_of-requires-clause-can : goal.value_of-requires-clause-can
value_of-requires-clause-can c =
    let due : IsMarked c.args.order.now.marks.now c.loop-k.k × (get_or c.args.order.now.tops.now c.loop-k.k 0 ≡ c.args.level) = search rules in
    let live : c.loop-k.k < length c.args.pool.now.nodes = (known c.args.m.now c.args.pool.now c.requires.pool c.requires.checked c.args.order.now.marks.now c.requires.marks c.loop-k.k due.0).live in
    node_can c.args.m.now c.args.pool.now c.requires.pool c.requires.checked c.args.order.now.marks.now c.requires.marks (held_in c.args.taken.now.regs.now c.args.taken.now.cells.now) (ins_of c.args.taken.now.ins.now) c.requires.held
    c.args.level c.loop-k.k c.loop-k.values (length c.args.wires.now) (length c.args.taken.now.regs.now) c.args.taken.now.cells.now c.requires.shaped.wires_many c.requires.shaped.regs_many
    c.requires.shaped.arrays_many c.requires.shaped.counts c.get.result.now c.get.ensures due.0 (sym (c.requires.tops c.loop-k.k live due.0) ∙ due.1) c.loop-k.invariant

pub loop-k-preserved : goal.loop-k-preserved
loop-k-preserved c =
    let short : c.loop-k.k < length c.loop-k.values = first_of (search rules, grind arith) in
    let live : c.loop-k.k < length c.args.pool.now.nodes = first_of (search rules, grind arith) in
    elim c.if-is_due.branch [
      | then-is_due w ↦
          let due : IsMarked c.args.order.now.marks.now c.loop-k.k × (get_or c.args.order.now.tops.now c.loop-k.k 0 ≡ c.args.level) = search rules in
          nodes_set c.args.m.now c.args.pool.now c.requires.pool c.requires.checked c.args.order.now.marks.now c.requires.marks (held_in c.args.taken.now.regs.now c.args.taken.now.cells.now) (ins_of c.args.taken.now.ins.now)
          c.args.level c.loop-k.k w.value_of.result c.loop-k.values c.args.wires.now c.if-is_due.values w.get.result.now w.get.ensures short due.0
          (sym (c.requires.tops c.loop-k.k live due.0) ∙ due.1) w.value_of.ensures w.values-is c.requires.wires c.loop-k.invariant
      | else-is_due w ↦
          let other : IsMarked c.args.order.now.marks.now c.loop-k.k × (get_or c.args.order.now.tops.now c.loop-k.k 0 ≡ c.args.level) → ⊥ = first_of (search rules, grind arith) in
          nodes_skip c.args.m.now c.args.pool.now c.requires.pool c.requires.checked c.args.order.now.marks.now c.requires.marks (held_in c.args.taken.now.regs.now c.args.taken.now.cells.now) (ins_of c.args.taken.now.ins.now)
          c.args.level c.loop-k.k c.loop-k.values c.if-is_due.values (λ h. other (h.0, c.requires.tops c.loop-k.k live h.0 ∙ h.1)) w.values-is c.loop-k.invariant
    ]
