use Rattle.std.proofs.lemmas.Bool.Decides.{not_from_Decides}
use Rattle.std.specs.List.{Contains}
use Rattle.service_reg.specs.Search.{Reaches}
use Rattle.service_reg.proofs.Offers.{each_more}
use Rattle.service_reg.proofs.stand.further.Goals.{else-not-is_among-via-then-not-is_among+else-reaches, else-not-is_among-via-else-not-is_among}
use Rattle.service_reg.proofs.stand.further.Goals as goal

pub loop-y-preserved : goal.loop-y-preserved
loop-y-preserved c = each_more (λ y. Reaches c.args.specs.now c.args.found.now c.args.x y → Contains c.args.found.now y) c.loop-y.y c.loop-y.invariant
    (elim c.else-not-is_among.branch [
      | else-not-is_among-via-then-not-is_among+else-reaches w ↦
          λ r. absurd (not_from_Decides w.reaches.result w.reaches.ensures w.if-reaches.false r)
      | else-not-is_among-via-else-not-is_among w ↦ λ r. c.is_among.ensures.0 w.if-not-is_among.false
    ])
