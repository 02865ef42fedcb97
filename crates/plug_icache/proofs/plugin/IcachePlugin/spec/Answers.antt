use Rattle.std.proofs.Common.{subst}
use Rattle.plug_api.specs.Spec.{IsSound, IsSpec}
use Rattle.stage_map.specs.declared.config.PlugEntry.{PlugEntry}
use Rattle.plug_kinds.specs.declared.kind.Kind.{Kind}
use Rattle.plug_kinds.specs.Kinds.{fault_of, params_of, spec_of}
use Rattle.plug_icache.proofs.plugin.IcachePlugin.spec.Goals as goal

pub returns-clause-is_spec : goal.returns-clause-is_spec
returns-clause-is_spec c = subst (λ (k : Kind). IsSpec (spec_of k (params_of c.args.self.now.state.taken))) c.args.self.now.is_icache c.spec.ensures.is_spec

pub returns-clause-sound : goal.returns-clause-sound
returns-clause-sound c = subst (λ (k : Kind). IsSound (λ (e : PlugEntry). fault_of k e.params) (λ (e : PlugEntry). spec_of k e.params)) c.args.self.now.is_icache c.spec.ensures.sound
