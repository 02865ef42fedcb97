use Rattle.plug_kinds.specs.declared.kind.Kind.TheVariants.{Predict}
use Rattle.plug_kinds.proofs.Faults.{kind_sound}
use Rattle.plug_predict.proofs.plugin.PredictPlugin.spec.Goals as goal

pub returns-clause-sound : goal.returns-clause-sound
returns-clause-sound c = kind_sound Predict
