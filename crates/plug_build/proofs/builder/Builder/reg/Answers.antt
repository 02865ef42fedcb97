use Rattle.plug_build.proofs.Steps.{kept_step}
use Rattle.plug_build.proofs.builder.Builder.reg.Goals as goal

pub returns-clause-kept : goal.returns-clause-kept
returns-clause-kept c = λ pool n h. kept_step _ _ c.self.inside.entry 1 _ pool n c.self.view_is c.reg.ensures.grows h
