use Rattle.part_alone.proofs.Offered.{cheap}
use Rattle.part_alone.proofs.build.built_alone.Goals as goal

pub built-requires-clause-few : goal.built-requires-clause-few
built-requires-clause-few g c = cheap (g.P.Plugin.spec_now c.args.plug.now) c.in_ok-plan.plan c.requires.rows c.requires.few
