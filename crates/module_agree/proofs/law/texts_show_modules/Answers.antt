use Rattle.module_agree.proofs.Traces.{shows_module, inputs_fit}
use Rattle.module_agree.proofs.law.texts_show_modules.Goals as goal

pub returns-clause-shows : goal.returns-clause-shows
returns-clause-shows c = λ m pool fits t means ports s ins. shows_module m pool fits t means s ins ports

pub returns-clause-inputs : goal.returns-clause-inputs
returns-clause-inputs c = λ t ports ins is. inputs_fit t ports ins is
