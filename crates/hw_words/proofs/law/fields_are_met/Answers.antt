use Rattle.hw_words.proofs.Fields.{field_met}
use Rattle.hw_words.proofs.law.fields_are_met.Goals as goal

pub returns : goal.returns
returns c = field_met
