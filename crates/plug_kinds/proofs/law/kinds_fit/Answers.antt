use Rattle.plug_kinds.proofs.Fits.{fits}
use Rattle.plug_kinds.proofs.law.kinds_fit.Goals as goal

pub returns : goal.returns
returns c = fits
