use Rattle.std.proofs.Common.{◌≡◌, ◌∙◌, ap, [], rules}
use Rattle.plug_api.specs.Calls.{takes_of}
use Rattle.plug_api.specs.Spec.{is_among}
use Rattle.plug_build.specs.World.{world_of}
use Rattle.plug_kinds.proofs.Nothing.{idle_done}
use Rattle.plug_kinds.proofs.idle.IdlePlugin.late.Goals as goal

pub returns-clause-done : goal.returns-clause-done
returns-clause-done c =
    let none : c.args.self.now.state.spec.offers ≡ [] = search rules in
    idle_done (takes_of c.args.self.now.state.spec) c.args.b.now.entry (world_of c.args.pool.now c.args.b.now c.args.reg.now) c.requires.begun
    (λ s. c.requires.offered s ∙ ap (λ l. is_among l s) none)
