use Rattle.hw_module.proofs.Scopes.{fits_of, kept_grown}
use Rattle.sample_text.proofs.drivers.next.Goals as goal

pub next-requires-clause-fits : goal.next-requires-clause-fits
next-requires-clause-fits c = fits_of _ _ _ c.requires

pub returns-clause-nets : goal.returns-clause-nets
returns-clause-nets c nets are k there = kept_grown _ _ _ _ _ c.next.ensures.grows (are k there)
