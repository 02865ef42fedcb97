use Rattle.std.proofs.Common.{◌<◌, length, get_or, [], None, arith}
use Rattle.hw_module.specs.declared.rows.Owner.TheVariants.{Pipe}
use Rattle.hw_module.specs.declared.rows.RegRow.{RegRow}
use Rattle.hw_module.specs.Rows.{reg_at}
use Rattle.hw_reach.specs.Marking.{Marks, IsDriver}
use Rattle.hw_reach.proofs.Marking.{each_driver, row_here, mark_step}
use Rattle.hw_reach.proofs.walk.mark_regs.Goals as goal

abbrev past_end : RegRow
past_end = record { owner = Pipe; width = 0; reset = None; next = None }

pub mark_driver-requires : goal.mark_driver-requires
mark_driver-requires c = record {
  live = each_driver (λ k. k < length c.loop-r.marks) (get_or c.args.rows.now c.loop-r.r past_end).next (λ k h.
      let l : k < length c.args.marks.now =
      c.requires.live k (record {
        at = c.loop-r.r;
        below = c.loop-r-test.true;
        here = row_here (λ (row : RegRow). IsDriver row.next k) c.args.rows.now c.loop-r.r past_end (reg_at [] 0) c.loop-r-test.true h;
      }) in
      omega arith);
}

pub loop-r-preserved : goal.loop-r-preserved
loop-r-preserved c =
    mark_step (λ i k. IsDriver (reg_at c.args.rows.now i).next k) c.loop-r.r c.args.marks.now c.loop-r.marks c.mark_driver.new.marks c.loop-r.invariant
    (row_here (λ (row : RegRow). Marks (IsDriver row.next) c.loop-r.marks c.mark_driver.new.marks) c.args.rows.now c.loop-r.r past_end (reg_at [] 0)
    c.loop-r-test.true c.mark_driver.ensures)
