use Rattle.std.proofs.Common.{◌≡◌, get_or, ◌∙◌, subst, arith}
use Rattle.std.proofs.lemmas.Bool.Decides.{not_from_Decides}
use Rattle.std.specs.List.{Contains}
use Rattle.service_reg.specs.declared.service.Service.{Service}
use Rattle.service_reg.specs.declared.service.Service.TheVariants.{Fetch}
use Rattle.service_reg.proofs.Offers.{each_more, service_any, share_none}
use Rattle.service_reg.proofs.stand.shares.Goals as goal

pub loop-k-preserved : goal.loop-k-preserved
loop-k-preserved c =
    let t = c.loop-k-test.true in let n = c.len-k-end.ensures in
    let e : c.index.result.now ≡ get_or c.args.wanted.now.items c.loop-k.k Fetch =
    c.index.ensures ∙ service_any c.args.wanted.now.items c.loop-k.k c.index.result.now Fetch (omega (arith, t, n)) in
    let here : Contains c.args.offered.now.items (get_or c.args.wanted.now.items c.loop-k.k Fetch) → ⊥ =
    subst (λ (s : Service). Contains c.args.offered.now.items s → ⊥) e (not_from_Decides c.has.result c.has.ensures c.if-has.false) in
    each_more (λ i. Contains c.args.offered.now.items (get_or c.args.wanted.now.items i Fetch) → ⊥) c.loop-k.k c.loop-k.invariant here

pub returns : goal.returns
returns c = let t = c.loop-k-test.false in let n = c.len-k-end.ensures in
    (λ e. cc, λ w. absurd (share_none c.args.wanted.now.items c.args.offered.now.items (λ i l. c.loop-k.invariant i (omega (arith, t, n, l))) w))
