use Rattle.plug_build.proofs.Steps.{fits_step, kept_step}
use Rattle.plug_build.proofs.builder.Builder.next.Goals as goal

pub next-requires-clause-fits : goal.next-requires-clause-fits
next-requires-clause-fits c = fits_step _ c.self.inside.entry _ _ _ c.self.view_is c.requires.scope

pub returns-clause-kept : goal.returns-clause-kept
returns-clause-kept c = λ pool n h. kept_step _ _ c.self.inside.entry 1 _ pool n c.self.view_is c.next.ensures.grows h
