-- The parts of this kind.
use Rattle.std.specs.Prelude.{◌≡◌, List, None}
use Rattle.stage_map.specs.declared.config.Param.{Param}
use Rattle.plug_part.specs.Part.{Part}
use Rattle.plug_part.specs.Meets.{MeetsLaws}
use Rattle.plug_api.specs.declared.spec.Plan.{Plan}
use Rattle.plug_api.specs.Calls.{terms_of}
use Rattle.plug_kinds.specs.declared.kind.Kind.TheVariants as kind
use Rattle.plug_kinds.specs.Kinds.{fault_of, spec_of}
use Rattle.unit_steps.specs.Parts.{BuildsWorking}
use Rattle.plug_muldiv.specs.Machine.{machine_of, muldiv_widths, unroll_of}

-- a part of the unit with these parameters
abbrev pub BuildsMuldiv : List Param → Part → Type 0
BuildsMuldiv ps p = BuildsWorking (machine_of (unroll_of ps)) muldiv_widths p

-- they meet the laws by what the kind says of itself, where none of the parameters is refused
abbrev pub MuldivPartsMeetLaws : Type 0
MuldivPartsMeetLaws = (ps : List Param) (plan : Plan) (p : Part) → fault_of kind.Muldiv ps ≡ None → BuildsMuldiv ps p → MeetsLaws (terms_of (spec_of kind.Muldiv ps) plan) p
