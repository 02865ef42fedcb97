use Rattle.std.proofs.Common.{◌<◌, length, get_or, [], None, arith}
use Rattle.hw_module.specs.declared.rows.Owner.TheVariants.{Pipe}
use Rattle.hw_module.specs.declared.rows.WireRow.{WireRow}
use Rattle.hw_module.specs.Rows.{wire_at}
use Rattle.hw_reach.specs.Marking.{Marks, IsDriver}
use Rattle.hw_reach.proofs.Marking.{each_driver, row_here, mark_step}
use Rattle.hw_reach.proofs.walk.mark_wires.Goals as goal

abbrev past_end : WireRow
past_end = record { owner = Pipe; width = 0; level = 0; driver = None }

pub mark_driver-requires : goal.mark_driver-requires
mark_driver-requires c = record {
  live = each_driver (λ k. k < length c.loop-w.marks) (get_or c.args.rows.now c.loop-w.w past_end).driver (λ k h.
      let l : k < length c.args.marks.now =
      c.requires.live k (record {
        at = c.loop-w.w;
        below = c.loop-w-test.true;
        here = row_here (λ (row : WireRow). IsDriver row.driver k) c.args.rows.now c.loop-w.w past_end (wire_at [] 0) c.loop-w-test.true h;
      }) in
      omega arith);
}

pub loop-w-preserved : goal.loop-w-preserved
loop-w-preserved c =
    mark_step (λ i k. IsDriver (wire_at c.args.rows.now i).driver k) c.loop-w.w c.args.marks.now c.loop-w.marks c.mark_driver.new.marks c.loop-w.invariant
    (row_here (λ (row : WireRow). Marks (IsDriver row.driver) c.loop-w.marks c.mark_driver.new.marks) c.args.rows.now c.loop-w.w past_end (wire_at [] 0)
    c.loop-w-test.true c.mark_driver.ensures)
