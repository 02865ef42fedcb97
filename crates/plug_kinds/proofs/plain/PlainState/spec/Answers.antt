use Rattle.std.proofs.Common.{rules}
use Rattle.plug_api.specs.Spec.{IsSpec}
use Rattle.plug_kinds.proofs.Faults.{own_sound}
use Rattle.plug_kinds.proofs.plain.PlainState.spec.Goals as goal

pub returns-clause-sound : goal.returns-clause-sound
returns-clause-sound c =
    let fit : IsSpec c.args.self.now.spec = search rules in
    own_sound c.args.self.now.spec fit
