use Rattle.std.proofs.Common.{subst}
use Rattle.stage_map.specs.declared.config.PlugEntry.{PlugEntry}
use Rattle.plug_api.specs.Spec.{IsSound}
use Rattle.plug_kinds.specs.declared.kind.Kind.{Kind}
use Rattle.plug_kinds.specs.Kinds.{fault_of, spec_of}
use Rattle.plug_decoder.proofs.plugin.DecoderPlugin.spec.Goals as goal

pub returns-clause-sound : goal.returns-clause-sound
returns-clause-sound c = subst (λ (k : Kind). IsSound (λ (e : PlugEntry). fault_of k e.params) (λ (e : PlugEntry). spec_of k e.params)) c.args.self.now.is_decoder c.spec.ensures.sound
