use Rattle.hw_module.proofs.Scopes.{fits_of}
use Rattle.sample_text.proofs.nodes.cell.Goals as goal

pub read-requires-clause-addr : goal.read-requires-clause-addr
read-requires-clause-addr c = fits_of _ _ _ c.requires.addr
