use Rattle.plug_build.specs.World.{world_of}
use Rattle.plug_kinds.specs.Kinds.{params_of}
use Rattle.plug_muldiv.proofs.Parts.{is_done, meets_laws}
use Rattle.plug_muldiv.proofs.plugin.MuldivPlugin.late.Goals as goal

pub returns-clause-done : goal.returns-clause-done
returns-clause-done c = is_done (params_of c.args.self.now.state.taken) c.args.b.now.entry (world_of c.args.pool.now c.args.b.now c.args.reg.now) c.requires.begun c.requires.offered

pub returns-clause-law : goal.returns-clause-law
returns-clause-law c = λ p builds. meets_laws (params_of c.args.self.now.state.taken) c.args.plan.now p c.args.self.now.faultless builds
