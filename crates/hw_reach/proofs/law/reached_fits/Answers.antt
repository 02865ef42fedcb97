use Rattle.hw_reach.proofs.Reached.{reached_fits}
use Rattle.hw_reach.proofs.law.reached_fits.Goals as goal

pub returns : goal.returns
returns c = reached_fits
