use Rattle.std.proofs.Common.{inl, inr, arith}
use Rattle.std.proofs.lemmas.Bool.Decides.{not_from_Decides}
use Rattle.std.specs.List.{Contains}
use Rattle.service_reg.specs.Services.{StandsOn}
use Rattle.service_reg.proofs.Offers.{each_more}
use Rattle.service_reg.proofs.stand.reaches.Goals.{else-is_among-via-then-is_among+else-stands_on-2, else-is_among-via-else-is_among}
use Rattle.service_reg.proofs.stand.reaches.Goals as goal

pub loop-z-preserved : goal.loop-z-preserved
loop-z-preserved c = each_more (λ z. Contains c.args.found.now z → StandsOn c.args.specs.now z c.args.y → ⊥) c.loop-z.z c.loop-z.invariant
    (elim c.else-is_among.branch [
      | else-is_among-via-then-is_among+else-stands_on-2 w ↦
          λ n. not_from_Decides w.stands_on-then-is_among.result w.stands_on-then-is_among.ensures w.if-stands_on-2.false
      | else-is_among-via-else-is_among w ↦ λ n p. not_from_Decides c.is_among.result c.is_among.ensures w.if-is_among.false n
    ])

pub returns : goal.returns
returns c = (
  λ e. cc,
  λ r. absurd (elim r [
    | inl p ↦ not_from_Decides c.stands_on.result c.stands_on.ensures c.if-stands_on.false p
    | inr q ↦ let t = c.loop-z-test.false in let l = q.1.1.entry in c.loop-z.invariant q.0 (omega (arith, t, l)) q.1.0 q.1.1
  ]),
)
