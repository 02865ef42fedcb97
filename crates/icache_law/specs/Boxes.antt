-- Boxes of the kind `icache`, whatever their type.
use Rattle.std.specs.Prelude.{◌≡◌, Option}
use Rattle.stage_map.specs.declared.config.PlugEntry.{PlugEntry}
use Rattle.plug_part.specs.Part.{Part}
use Rattle.plug_api.specs.declared.spec.ParamFault.{ParamFault}
use Rattle.plug_api.specs.declared.spec.Plan.{Plan}
use Rattle.plug_api.specs.declared.spec.PlugSpec.{PlugSpec}
use Rattle.plug_kinds.specs.declared.kind.Kind.TheVariants as kind
use Rattle.plug_kinds.specs.Kinds.{fault_of, spec_of}
use Rattle.plug_icache.specs.Builds.{BuildsIcache}
use Rattle.plug_icache.specs.Sizes.{lines_of, log_of, words_of}

-- it finds the faults of an entry that the kind finds, says of itself once it took an entry what the kind says, and then builds parts with
-- the kind's equations
pub record IsIcacheBox {B : Type 0} (fault : B → PlugEntry → Option ParamFault) (spec : B → PlugEntry → PlugSpec) (test_for : B → PlugEntry → Plan → Part → Type 0) (box : B) : Type 0 where
  pub faults : (e : PlugEntry) → fault box e ≡ fault_of kind.Icache e.params
  pub says : (e : PlugEntry) → spec box e ≡ spec_of kind.Icache e.params
  pub builds : (e : PlugEntry) (plan : Plan) (p : Part) → test_for box e plan p → BuildsIcache (log_of (lines_of e.params)) (log_of (words_of e.params)) plan.shape.reset_pc p
