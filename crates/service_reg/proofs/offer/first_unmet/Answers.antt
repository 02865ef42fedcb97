use Rattle.std.proofs.Common.{◌≡◌, List, length, ◌∙◌, ap, subst}
use Rattle.service_reg.specs.declared.service.Service.{Service}
use Rattle.service_reg.specs.declared.service.Service.TheVariants.{Fetch}
use Rattle.service_reg.specs.declared.service.ServiceUse.{ServiceUse}
use Rattle.service_reg.specs.Services.{no_use, needs_at, AreOffered}
use Rattle.service_reg.proofs.Offers.{each_more, service_any, use_any, unmet_of}
use Rattle.service_reg.proofs.offer.first_unmet.Goals as goal

pub returns-in-Some : goal.returns-in-Some
returns-in-Some c =
    let e : c.items-needs.result.now.items ≡ needs_at c.args.specs.now c.loop-entry.entry =
    c.items-needs.ensures ∙ ap (λ (u : ServiceUse). u.needs) (use_any c.args.specs.now c.loop-entry.entry c.index-specs-entry.result no_use c.loop-entry-test.true) in
    unmet_of c.args.specs.now c.loop-entry.entry c.in-Some.place c.items-needs.result.now.items c.index.result.now e c.loop-entry-test.true c.loop-entry.invariant c.in-Some.ensures
    (c.index.ensures ∙ service_any c.items-needs.result.now.items c.in-Some.place c.index.result.now Fetch c.in-Some.ensures.0)

pub loop-entry-preserved : goal.loop-entry-preserved
loop-entry-preserved c =
    let e : c.items-needs.result.now.items ≡ needs_at c.args.specs.now c.loop-entry.entry =
    c.items-needs.ensures ∙ ap (λ (u : ServiceUse). u.needs) (use_any c.args.specs.now c.loop-entry.entry c.index-specs-entry.result no_use c.loop-entry-test.true) in
    each_more (λ x. AreOffered c.args.specs.now (needs_at c.args.specs.now x) (length (needs_at c.args.specs.now x))) c.loop-entry.entry c.loop-entry.invariant
    (subst (λ (xs : List Service). AreOffered c.args.specs.now xs (length xs)) e c.in_default.ensures)
