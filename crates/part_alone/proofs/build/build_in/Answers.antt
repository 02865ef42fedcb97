use Rattle.std.proofs.Common.{ℕ, refl, sym, subst}
use Rattle.hw_module.specs.declared.rows.Owner.TheVariants.{Entry}
use Rattle.plug_build.specs.World.{Builds, late_rights, part_in, world_of}
use Rattle.plug_api.specs.Calls.{IsLawful, OffersItsOwn, half_cost, takes_of}
use Rattle.part_alone.specs.Built.{world_in}
use Rattle.part_alone.proofs.Offered.{has_built, needs_late, predict_late}
use Rattle.part_alone.proofs.build.build_in.Goals as goal

pub late-requires-clause-lawful : goal.late-requires-clause-lawful
late-requires-clause-lawful g c = subst (λ (e : ℕ). IsLawful (g.P.Plugin.spec_now c.args.plug.now) c.args.plan.now e) (sym c.early.ensures.entry) c.requires.lawful

pub late-requires-clause-begun : goal.late-requires-clause-begun
late-requires-clause-begun g c =
    subst
    (λ (e : ℕ). g.P.Plugin.begun c.args.plug.now c.args.plan.now
    (part_in (takes_of (g.P.Plugin.spec_now c.args.plug.now)) e (world_of c.early.new.pool c.early.new.b c.early.new.reg)))
    (sym c.early.ensures.entry) c.early.ensures.begun

pub late-requires-clause-offered : goal.late-requires-clause-offered
late-requires-clause-offered g c = subst (λ (e : ℕ). OffersItsOwn (g.P.Plugin.spec_now c.args.plug.now) e c.early.new.reg) (sym c.early.ensures.entry) c.early.ensures.offered

pub late-requires-clause-needs : goal.late-requires-clause-needs
late-requires-clause-needs g c = needs_late (g.P.Plugin.spec_now c.args.plug.now) _ _ _ c.early.ensures.offers c.requires.needs

pub late-requires-clause-predict : goal.late-requires-clause-predict
late-requires-clause-predict g c =
    predict_late (g.P.Plugin.spec_now c.args.plug.now) c.args.part.now.builder.entry c.args.part.now.reg c.early.new.reg c.early.new.b.design c.early.ensures.offers c.requires.predict c.early.ensures.offered c.requires.none

pub returns : goal.returns
returns g c =
    has_built (g.P.Plugin.spec_now c.args.plug.now) _ _ _ _ _ (world_in c.args.part.now) (world_of c.early.new.pool c.early.new.b c.early.new.reg)
    (world_of c.late.new.pool c.late.new.b c.early.new.reg) c.late.ensures.fits c.early.ensures.offers c.early.ensures.offered refl c.early.ensures.adds
    (subst (λ (e : ℕ). Builds (Entry e) (late_rights c.early.new.reg e) (half_cost (g.P.Plugin.spec_now c.args.plug.now) c.args.plan.now) (world_of c.early.new.pool c.early.new.b c.early.new.reg)
    (world_of c.late.new.pool c.late.new.b c.early.new.reg)) c.early.ensures.entry c.late.ensures.adds) c.early.ensures.offer
