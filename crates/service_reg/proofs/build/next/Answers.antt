use Rattle.std.proofs.lemmas.Bool.Decides.{not_from_Decides}
use Rattle.service_reg.proofs.Places.{next_of, ready_of, blocked_of, blocked_more}
use Rattle.service_reg.proofs.build.next.Goals.{else-not-is_among-via-then-not-is_among+else-is_none, else-not-is_among-via-else-not-is_among}
use Rattle.service_reg.proofs.build.next.Goals as goal

pub returns-then-is_none : goal.returns-then-is_none
returns-then-is_none c =
    next_of c.args.specs.now c.args.placed.now c.loop-x.x c.loop-x-test.true (not_from_Decides c.is_among.result c.is_among.ensures c.if-not-is_among.true)
    (ready_of c.args.specs.now c.args.placed.now c.loop-x.x c.blocker.result c.blocker.ensures (c.if-is_none.ensures)) c.loop-x.invariant

pub loop-x-preserved : goal.loop-x-preserved
loop-x-preserved c = elim c.else-not-is_among.branch [
  | else-not-is_among-via-then-not-is_among+else-is_none w ↦ blocked_more c.args.specs.now c.args.placed.now c.loop-x.x c.loop-x.invariant
      (λ n. blocked_of c.args.specs.now c.args.placed.now c.loop-x.x w.blocker.result w.blocker.ensures w.if-is_none.ensures)
  | else-not-is_among-via-else-not-is_among w ↦ blocked_more c.args.specs.now c.args.placed.now c.loop-x.x c.loop-x.invariant
      (λ n. absurd (n (c.is_among.ensures.0 w.if-not-is_among.false)))
]
