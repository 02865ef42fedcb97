use Rattle.std.proofs.Common.{◌∙◌, ap}
use Rattle.std.proofs.lemmas.Bool.Decides.{not_from_Decides}
use Rattle.service_reg.specs.declared.service.ServiceUse.{ServiceUse}
use Rattle.service_reg.specs.Services.{no_use}
use Rattle.service_reg.proofs.Offers.{stands_by_use, use_any}
use Rattle.service_reg.proofs.stand.stands_on.Goals as goal

pub returns-else-shares : goal.returns-else-shares
returns-else-shares c =
    let specs = c.args.specs.now in
    let x = c.args.x in
    let y = c.args.y in
    stands_by_use specs x y c.items.result.now.items c.items-else-shares.result.now.items c.items-offered.result.now.items c.requires.x c.requires.y
    (c.items.ensures ∙ ap (λ (u : ServiceUse). u.needs) (use_any specs x c.index-specs-x.result no_use c.requires.x))
    (c.items-else-shares.ensures ∙ ap (λ (u : ServiceUse). u.uses) (use_any specs x c.index-specs-x-else-shares.result no_use c.requires.x))
    (c.items-offered.ensures ∙ ap (λ (u : ServiceUse). u.offers) (use_any specs y c.index-specs-y.result no_use c.requires.y))
    c.shares-else-shares.result (not_from_Decides c.shares.result c.shares.ensures c.if-shares.false) c.shares-else-shares.ensures
