use Rattle.std.proofs.Common.{◌<◌, length, None, get_or, arith}
use Rattle.hw_reach.proofs.Marking.{each_driver}
use Rattle.hw_reach.proofs.walk.mark_outs.Goals as goal

pub mark_driver-requires : goal.mark_driver-requires
mark_driver-requires c = record {
  live = each_driver (λ k. k < length c.loop-port.marks) (get_or c.args.outs.now c.loop-port.port None) (λ k h.
      let l : k < length c.args.marks.now = c.requires.live k (record { at = c.loop-port.port; below = c.loop-port-test.true; here = h }) in
      omega arith);
}
