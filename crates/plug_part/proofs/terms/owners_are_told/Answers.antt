use Rattle.plug_part.proofs.Owners.{owners_are_told as told}
use Rattle.plug_part.proofs.terms.owners_are_told.Goals as goal

pub returns : goal.returns
returns c = record { told = told }
