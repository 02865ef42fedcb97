use Rattle.std.proofs.Common.{◌+◌, ◌-◌, arith}
use Rattle.hw_reach.proofs.Marking.{close_start, close_over, close_then}
use Rattle.hw_reach.proofs.walk.mark_parts.Goals as goal
use Rattle.hw_reach.proofs.walk.mark_parts.Goals.{then-marks-k, else-marks-k}

pub loop-done-init : goal.loop-done-init
loop-done-init c = close_start c.args.pool.now.nodes c.args.marks.now (c.live-live.result - 0) (omega arith)

pub loop-done-preserved : goal.loop-done-preserved
loop-done-preserved c = elim c.if-marks-k.branch [
  | then-marks-k w ↦
      close_then c.args.pool.now.nodes (c.live-live.result - (c.loop-done.done + 1)) (c.live-live.result - 1 - c.loop-done.done) (c.live-live.result - c.loop-done.done)
      c.args.marks.now c.loop-done.marks w.mark_children.new.marks c.if-marks-k.marks w.get.result.now
      c.live-live.ensures.pool (omega arith) (omega arith) (omega arith) w.marks-is w.get.ensures c.loop-done.invariant w.if-marks-k.true w.mark_children.ensures
  | else-marks-k w ↦
      close_over c.args.pool.now.nodes (c.live-live.result - (c.loop-done.done + 1)) (c.live-live.result - 1 - c.loop-done.done) (c.live-live.result - c.loop-done.done)
      c.args.marks.now c.loop-done.marks c.if-marks-k.marks (omega arith) (omega arith) w.marks-is c.loop-done.invariant w.if-marks-k.false
]
