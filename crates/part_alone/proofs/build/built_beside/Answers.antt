use Rattle.std.proofs.Common.{sym, subst}
use Rattle.plug_build.specs.World.{BuilderValue, world_of}
use Rattle.plug_api.specs.Calls.{IsLawful}
use Rattle.plug_api.specs.declared.spec.PlugSpec.{PlugSpec}
use Rattle.part_alone.specs.Built.{MayBuild}
use Rattle.part_alone.proofs.Offered.{beside_may, cheap, first_may}
use Rattle.part_alone.proofs.build.built_beside.Goals as goal

pub build_in-requires : goal.build_in-requires
build_in-requires g c =
    let alone = c.requires.alone in
    let other = g.P.Plugin.spec_now c.args.other.now in
    first_may other c.in_ok-plan.plan _ _ c.in_ok-part.ensures.bare c.in_ok-part.ensures.entry c.in_ok-part.ensures.room (c.in_ok-plan.ensures.first other c.requires.claims)
    (cheap other c.in_ok-plan.plan alone.rows alone.few) alone.needs alone.none

pub build_in-requires-2 : goal.build_in-requires-2
build_in-requires-2 g c =
    let spec = g.Q.Plugin.spec_now c.args.plug.now in
    let other = g.P.Plugin.spec_now c.args.other.now in
    subst (λ (b : BuilderValue). MayBuild spec c.in_ok-plan.plan b.entry (world_of c.build_in.new.part.pool b c.build_in.new.part.reg)) (sym c.set_entry.ensures)
    (beside_may other spec c.in_ok-plan.plan _ _ _ c.in_ok-part.ensures.entry c.in_ok-part.ensures.bare c.in_ok-part.ensures.room c.in_ok-build_in.ensures c.requires.beside
    (subst (λ (s : PlugSpec). IsLawful s c.in_ok-plan.plan 1) c.spec.ensures.now c.in_ok-plan.ensures.second))
