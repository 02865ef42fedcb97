use Rattle.plug_build.proofs.Steps.{fits_step, kept_step}
use Rattle.plug_build.proofs.builder.Builder.drive.Goals as goal

pub drive-requires-clause-fits : goal.drive-requires-clause-fits
drive-requires-clause-fits c = fits_step _ c.self.inside.entry _ _ _ c.self.view_is c.requires.scope

pub returns-clause-kept : goal.returns-clause-kept
returns-clause-kept c = λ pool n h. kept_step _ _ c.self.inside.entry 1 _ pool n c.self.view_is c.drive.ensures.grows h
