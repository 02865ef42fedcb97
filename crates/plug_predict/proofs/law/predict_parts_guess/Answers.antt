use Rattle.plug_predict.proofs.Parts.{parts_guess}
use Rattle.plug_predict.proofs.law.predict_parts_guess.Goals as goal

pub returns : goal.returns
returns c = record { guess = parts_guess }
