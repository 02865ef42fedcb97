use Rattle.plug_build.proofs.Steps.{fits_step, kept_step}
use Rattle.plug_build.proofs.builder.Builder.write.Goals as goal

pub write-requires-clause-enable : goal.write-requires-clause-enable
write-requires-clause-enable c = fits_step _ c.self.inside.entry _ _ _ c.self.view_is c.requires.enable

pub write-requires-clause-addr : goal.write-requires-clause-addr
write-requires-clause-addr c = fits_step _ c.self.inside.entry _ _ _ c.self.view_is c.requires.addr

pub write-requires-clause-value : goal.write-requires-clause-value
write-requires-clause-value c = fits_step _ c.self.inside.entry _ _ _ c.self.view_is c.requires.value

pub returns-clause-kept : goal.returns-clause-kept
returns-clause-kept c = λ pool n h. kept_step _ _ c.self.inside.entry 1 _ pool n c.self.view_is c.write.ensures.grows h
