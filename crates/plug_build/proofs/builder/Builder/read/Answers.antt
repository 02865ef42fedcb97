use Rattle.plug_build.proofs.Steps.{fits_step}
use Rattle.plug_build.proofs.builder.Builder.read.Goals as goal

pub read-requires-clause-addr : goal.read-requires-clause-addr
read-requires-clause-addr c = fits_step _ c.self.inside.entry _ _ _ c.self.view_is c.requires.addr
