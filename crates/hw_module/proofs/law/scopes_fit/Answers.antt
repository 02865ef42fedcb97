use Rattle.hw_module.proofs.Scopes.{scope_from, fits_of, kept_grown}
use Rattle.hw_module.proofs.law.scopes_fit.Goals as goal

pub returns-clause-scope : goal.returns-clause-scope
returns-clause-scope c = scope_from

pub returns-clause-fits : goal.returns-clause-fits
returns-clause-fits c = fits_of

pub returns-clause-grown : goal.returns-clause-grown
returns-clause-grown c = kept_grown
