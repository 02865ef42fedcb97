use Rattle.std.proofs.Common.{◌<◌, length, get_or, [], None, arith}
use Rattle.hw_module.specs.declared.rows.Owner.TheVariants.{Pipe}
use Rattle.hw_module.specs.declared.rows.ArrayRow.{ArrayRow}
use Rattle.hw_module.specs.Rows.{array_at}
use Rattle.hw_reach.specs.Marking.{Marks, IsOfWrite}
use Rattle.hw_reach.proofs.Marking.{each_of_write, row_here, mark_step}
use Rattle.hw_reach.proofs.walk.mark_arrays.Goals as goal

abbrev past_end : ArrayRow
past_end = record { owner = Pipe; width = 0; bits = 0; write = None }

pub mark_write-requires : goal.mark_write-requires
mark_write-requires c = record {
  live = each_of_write (λ k. k < length c.loop-a.marks) (get_or c.args.rows.now c.loop-a.a past_end).write (λ k h.
      let l : k < length c.args.marks.now =
      c.requires.live k (record {
        at = c.loop-a.a;
        below = c.loop-a-test.true;
        here = row_here (λ (row : ArrayRow). IsOfWrite row.write k) c.args.rows.now c.loop-a.a past_end (array_at [] 0) c.loop-a-test.true h;
      }) in
      omega arith);
}

pub loop-a-preserved : goal.loop-a-preserved
loop-a-preserved c =
    mark_step (λ i k. IsOfWrite (array_at c.args.rows.now i).write k) c.loop-a.a c.args.marks.now c.loop-a.marks c.mark_write.new.marks c.loop-a.invariant
    (row_here (λ (row : ArrayRow). Marks (IsOfWrite row.write) c.loop-a.marks c.mark_write.new.marks) c.args.rows.now c.loop-a.a past_end (array_at [] 0)
    c.loop-a-test.true c.mark_write.ensures)
