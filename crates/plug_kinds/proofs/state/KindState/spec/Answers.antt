use Rattle.plug_kinds.proofs.Fits.{fits}
use Rattle.plug_kinds.proofs.Faults.{kind_sound}
use Rattle.plug_kinds.specs.Kinds.{params_of}
use Rattle.plug_kinds.proofs.state.KindState.spec.Goals as goal

pub returns-clause-is_spec : goal.returns-clause-is_spec
returns-clause-is_spec c = fits c.args.self.now.kind (params_of c.args.self.now.taken)

pub returns-clause-sound : goal.returns-clause-sound
returns-clause-sound c = kind_sound c.args.self.now.kind
