use Rattle.std.proofs.Common.{◌≡◌, ◌∙◌, length, get_or, ap, sym}
use Rattle.hw_module.specs.Rows.{reg_at}
use Rattle.hw_cycle.specs.State.{held_in}
use Rattle.hw_cycle.specs.Inputs.{ins_of}
use Rattle.hw_cycle.specs.Levels.{driven_by}
use Rattle.hw_cycle.specs.Commit.{next_in}
use Rattle.hw_cycle.proofs.Tables.{reset_place}
use Rattle.hw_cycle.proofs.Commits.{out_live, reg_live, out_is, reg_is, cell_is, can_write, held_after, cells_many}
use Rattle.hw_cycle.proofs.cycle.commit.Goals as goal

pub put_outs-requires-clause-live : goal.put_outs-requires-clause-live
put_outs-requires-clause-live c =
    out_live c.args.m.now c.args.pool.now c.live.ensures.pool c.requires.checked (held_in c.args.regs.now c.args.cells.now) (ins_of c.args.ins.now) (length c.args.values.now) c.requires.room

pub step_regs-requires-clause-live : goal.step_regs-requires-clause-live
step_regs-requires-clause-live c =
    reg_live c.args.m.now c.args.pool.now c.live.ensures.pool c.requires.checked (held_in c.args.regs.now c.args.cells.now) (ins_of c.args.ins.now) (length c.args.values.now) c.requires.room

pub step_cells-requires-clause-can : goal.step_cells-requires-clause-can
step_cells-requires-clause-can c =
    can_write c.args.m.now c.args.pool.now c.live.ensures.pool c.requires.checked (held_in c.args.regs.now c.args.cells.now) (ins_of c.args.ins.now) c.args.values.now c.requires.settled
    c.requires.held c.requires.room c.requires.shaped.counts

pub returns-clause-outs : goal.returns-clause-outs
returns-clause-outs c = λ p h o.
    c.put_outs.ensures p h o
    ∙ out_is c.args.m.now c.args.pool.now c.live.ensures.pool c.requires.checked (held_in c.args.regs.now c.args.cells.now) (ins_of c.args.ins.now) c.args.values.now c.requires.settled p h

pub returns-clause-regs : goal.returns-clause-regs
returns-clause-regs c = λ r h.
    let reset : get_or c.args.ins.now 1 0 ≡ ins_of c.args.ins.now 1 = ap (λ p. get_or c.args.ins.now p 0) (sym reset_place) in
    c.step_regs.ensures.next r h
    ∙ ap (λ v. next_in v (reg_at c.args.m.now.regs r).reset (driven_by c.args.values.now (reg_at c.args.m.now.regs r).next)) reset
    ∙ reg_is c.args.m.now c.args.pool.now c.live.ensures.pool c.requires.checked (held_in c.args.regs.now c.args.cells.now) (ins_of c.args.ins.now) c.args.values.now c.requires.settled r h

pub returns-clause-cells : goal.returns-clause-cells
returns-clause-cells c = λ a h.
    c.step_cells.ensures a h
    ∙ cell_is c.args.m.now c.args.pool.now c.live.ensures.pool c.requires.checked (held_in c.args.regs.now c.args.cells.now) (ins_of c.args.ins.now) c.args.values.now c.requires.settled a h

pub returns-clause-held : goal.returns-clause-held
returns-clause-held c =
    held_after c.args.m.now c.args.pool.now c.live.ensures.pool c.requires.checked (held_in c.args.regs.now c.args.cells.now) (held_in c.step_regs.new.regs c.step_cells.new.cells)
    (ins_of c.args.ins.now) c.step_regs.ensures.ranges c.requires.held (returns-clause-regs c) (returns-clause-cells c)

pub returns-clause-counts : goal.returns-clause-counts
returns-clause-counts c = λ a h.
    ap length (returns-clause-cells c a h)
    ∙ cells_many c.args.m.now c.args.pool.now c.live.ensures.pool c.requires.checked (held_in c.args.regs.now c.args.cells.now) (ins_of c.args.ins.now) a
