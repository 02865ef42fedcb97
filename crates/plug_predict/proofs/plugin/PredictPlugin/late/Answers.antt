use Rattle.service_reg.specs.declared.service.Service.TheVariants.{Fetch, Predict, DataBus}
use Rattle.plug_api.specs.Calls.{takes_of, terms_of}
use Rattle.plug_build.specs.World.{world_of}
use Rattle.plug_kinds.specs.declared.kind.Kind.TheVariants as kind
use Rattle.plug_kinds.specs.Kinds.{params_of, spec_of}
use Rattle.plug_kit.proofs.Bare.{bare_done}
use Rattle.plug_predict.specs.Params.{style_of}
use Rattle.plug_predict.proofs.Parts.{parts_meet_laws}
use Rattle.plug_predict.proofs.plugin.PredictPlugin.late.Goals as goal

pub returns-clause-done : goal.returns-clause-done
returns-clause-done c =
    let begun = c.requires.begun in
    bare_done (takes_of (spec_of kind.Predict (params_of c.args.self.now.state.taken))) Predict c.args.b.now.entry (world_of c.args.pool.now c.args.b.now c.args.reg.now)
    begun.builds.ports begun.builds.only.is begun.bare (c.requires.offered Fetch) (c.requires.offered DataBus)

pub returns-clause-law : goal.returns-clause-law
returns-clause-law c = λ p builds.
    parts_meet_laws (style_of (params_of c.args.self.now.state.taken)) (terms_of (spec_of kind.Predict (params_of c.args.self.now.state.taken)) c.args.plan.now) p builds
