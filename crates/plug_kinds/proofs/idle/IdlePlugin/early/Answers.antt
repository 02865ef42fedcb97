use Rattle.plug_api.specs.Calls.{takes_of}
use Rattle.plug_build.specs.World.{world_of}
use Rattle.plug_kinds.proofs.Nothing.{idle_open, idle_part}
use Rattle.plug_kinds.proofs.idle.IdlePlugin.early.Goals as goal

pub returns-clause-open : goal.returns-clause-open
returns-clause-open c = idle_open c.args.b.now.entry (world_of c.args.pool.now c.args.b.now c.args.reg.now) c.requires.nothing

pub returns-clause-begun : goal.returns-clause-begun
returns-clause-begun c = idle_part (takes_of c.args.self.now.state.spec) c.args.b.now.entry (world_of c.args.pool.now c.args.b.now c.args.reg.now) c.requires.nothing
