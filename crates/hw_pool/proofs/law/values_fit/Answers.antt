use Rattle.hw_pool.proofs.Bounds.{value-fits}
use Rattle.hw_pool.proofs.law.values_fit.Goals as goal

pub returns : goal.returns
returns c = value-fits
