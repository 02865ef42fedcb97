use Rattle.service_reg.specs.declared.service.Service.TheVariants.{Fetch, Decoder, DataBus}
use Rattle.plug_api.specs.Calls.{takes_of}
use Rattle.plug_build.specs.World.{world_of}
use Rattle.plug_kinds.specs.declared.kind.Kind.TheVariants as kind
use Rattle.plug_kinds.specs.Kinds.{params_of, spec_of}
use Rattle.plug_kit.proofs.Bare.{bare_done}
use Rattle.plug_decoder.proofs.Plans.{lawful_parts_meet_laws}
use Rattle.plug_decoder.proofs.plugin.DecoderPlugin.late.Goals as goal

pub returns-clause-done : goal.returns-clause-done
returns-clause-done c =
    let begun = c.requires.begun in
    bare_done (takes_of (spec_of kind.Decoder (params_of c.args.self.now.state.taken))) Decoder c.args.b.now.entry (world_of c.args.pool.now c.args.b.now c.args.reg.now)
    begun.builds.ports begun.builds.only.is begun.bare (c.requires.offered Fetch) (c.requires.offered DataBus)

pub returns-clause-law : goal.returns-clause-law
returns-clause-law c = λ p builds. lawful_parts_meet_laws _ c.args.plan.now c.args.b.now.entry c.requires.lawful p builds
