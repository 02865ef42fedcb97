use Rattle.std.proofs.Common.{◌∙◌, ◌≡◌, ℕ, ◌<◌, ◌≤◌, List, length, subst}
use Rattle.hw_module.specs.declared.rows.WireRow.{WireRow}
use Rattle.hw_module.specs.Rows.{wire_at}
use Rattle.hw_cycle.specs.State.{held_in}
use Rattle.hw_cycle.specs.Inputs.{ins_of}
use Rattle.hw_cycle.proofs.Steps.{wires_on, nodes_on, nodes_end}
use Rattle.hw_cycle.proofs.settle.settle.Goals as goal

pub levels-preserved : goal.levels-preserved
levels-preserved c =
    let s = held_in c.args.taken.now.regs.now c.args.taken.now.cells.now in
    let ins = ins_of c.args.taken.now.ins.now in
    let rows : c.as_slice.result.now ≡ c.args.m.now.wires = c.as_slice.ensures.value ∙ c.wires.ensures.rows in
    let gap : (w : ℕ) → w < length c.args.m.now.wires → (wire_at c.args.m.now.wires w).level < c.in-Some.next → (wire_at c.args.m.now.wires w).level ≤ c.levels.level =
    subst (λ (l : List WireRow). (w : ℕ) → w < length l → (wire_at l w).level < c.in-Some.next → (wire_at l w).level ≤ c.levels.level) rows c.in-Some.ensures.gap in
    record {
      wires =
          wires_on c.args.m.now c.args.pool.now c.requires.pool c.requires.checked c.args.order.now.marks.now c.requires.marks s ins c.levels.level c.in-Some.next c.settle_wires.new.wires gap
          (c.settle_wires.ensures s ins c.levels.invariant.nodes c.levels.invariant.wires);
      nodes =
          nodes_on c.args.m.now c.args.pool.now c.requires.pool c.requires.checked c.args.order.now.marks.now c.requires.marks s ins c.levels.level c.in-Some.next c.settle_nodes.new.values gap
          c.settle_nodes.ensures;
    }

pub returns-in-None : goal.returns-in-None
returns-in-None c =
    let rows : c.as_slice.result.now ≡ c.args.m.now.wires = c.as_slice.ensures.value ∙ c.wires.ensures.rows in
    let all : (w : ℕ) → w < length c.args.m.now.wires → (wire_at c.args.m.now.wires w).level ≤ c.levels.level =
    subst (λ (l : List WireRow). (w : ℕ) → w < length l → (wire_at l w).level ≤ c.levels.level) rows c.in-None.ensures.gap in
    nodes_end c.args.m.now c.args.pool.now c.requires.pool c.requires.checked c.args.order.now.marks.now c.requires.marks (held_in c.args.taken.now.regs.now c.args.taken.now.cells.now) (ins_of c.args.taken.now.ins.now)
    c.levels.level c.settle_nodes.new.values all c.settle_nodes.ensures
