use Rattle.part_alone.proofs.Offered.{first_may}
use Rattle.part_alone.proofs.build.built.Goals as goal

pub build_in-requires : goal.build_in-requires
build_in-requires g c =
    first_may (g.P.Plugin.spec_now c.args.plug.now) c.args.plan.now _ _ c.in_ok-part.ensures.bare c.in_ok-part.ensures.entry c.in_ok-part.ensures.room c.requires.lawful c.requires.few c.requires.needs c.requires.predict
