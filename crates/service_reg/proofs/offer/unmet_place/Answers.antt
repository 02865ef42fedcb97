use Rattle.std.proofs.Common.{◌≡◌, get_or, ◌∙◌, subst, arith}
use Rattle.service_reg.specs.declared.service.Service.{Service}
use Rattle.service_reg.specs.declared.service.Service.TheVariants.{Fetch}
use Rattle.service_reg.specs.Services.{IsOffered}
use Rattle.service_reg.proofs.Offers.{each_more, service_any}
use Rattle.service_reg.proofs.offer.unmet_place.Goals as goal

pub loop-k-preserved : goal.loop-k-preserved
loop-k-preserved c =
    let t = c.loop-k-test.true in let n = c.len-k-end.ensures in
    let e : c.index.result.now ≡ get_or c.args.services.now.items c.loop-k.k Fetch =
    c.index.ensures ∙ service_any c.args.services.now.items c.loop-k.k c.index.result.now Fetch (omega (arith, t, n)) in
    let here : IsOffered c.args.specs.now (get_or c.args.services.now.items c.loop-k.k Fetch) =
    subst (λ (s : Service). IsOffered c.args.specs.now s) e (c.is_offered.ensures.0 c.if-not-is_offered.false) in
    each_more (λ i. IsOffered c.args.specs.now (get_or c.args.services.now.items i Fetch)) c.loop-k.k c.loop-k.invariant here
