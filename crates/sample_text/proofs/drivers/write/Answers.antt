use Rattle.hw_module.proofs.Scopes.{fits_of, kept_grown}
use Rattle.sample_text.proofs.drivers.write.Goals as goal

pub write-requires-clause-enable : goal.write-requires-clause-enable
write-requires-clause-enable c = fits_of _ _ _ c.requires.enable

pub write-requires-clause-addr : goal.write-requires-clause-addr
write-requires-clause-addr c = fits_of _ _ _ c.requires.addr

pub write-requires-clause-value : goal.write-requires-clause-value
write-requires-clause-value c = fits_of _ _ _ c.requires.value

pub returns-clause-nets : goal.returns-clause-nets
returns-clause-nets c nets are k there = kept_grown _ _ _ _ _ c.write.ensures.grows (are k there)
