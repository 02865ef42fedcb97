-- Parts of both units meet the law of Exec, by what their kinds say.
use Rattle.std.proofs.Common.{ℕ, List, arith, codes, refl}
use Rattle.stage_map.specs.declared.config.Param.{Param}
use Rattle.plug_part.specs.Part.{Part}
use Rattle.plug_part.specs.Meets.{MeetsLaws}
use Rattle.plug_build.specs.World.{World, part_in}
use Rattle.plug_build.specs.Done.{IsDone}
use Rattle.plug_api.specs.declared.spec.Plan.{Plan}
use Rattle.plug_api.specs.Calls.{OffersItsOwn, takes_of, terms_of}
use Rattle.plug_kinds.specs.declared.kind.Kind.TheVariants as kind
use Rattle.plug_kinds.specs.Kinds.{spec_of}
use Rattle.unit_parts.specs.Computing.{BuildsComputing}
use Rattle.unit_parts.proofs.Units.{units_meet_laws, unit_is_done}
use Rattle.unit_steps.specs.Parts.{BuildsWorking}
use Rattle.unit_steps.proofs.Parts.{parts_meet_laws, part_is_done}
use Rattle.plug_shift.specs.Machine.{barrel_value, light_machine, light_widths}
use Rattle.plug_shift.specs.Rows.{shift_rows}
use Rattle.plug_shift.proofs.Barrel.{is_right}
use Rattle.plug_shift.proofs.Light.{rows_end}

pub barrel_meets : (ps : List Param) (plan : Plan) (p : Part) → BuildsComputing barrel_value p → MeetsLaws (terms_of (spec_of kind.ShiftBarrel ps) plan) p
barrel_meets ps plan p builds = units_meet_laws barrel_value (codes "shift_barrel") shift_rows 1024 plan p refl is_right builds

pub barrel_done : (ps : List Param) (e : ℕ) (w : World) → BuildsComputing barrel_value (part_in (takes_of (spec_of kind.ShiftBarrel ps)) e w) → OffersItsOwn (spec_of kind.ShiftBarrel ps) e w.reg → IsDone e w
barrel_done ps e w begun offered = unit_is_done barrel_value (takes_of (spec_of kind.ShiftBarrel ps)) e w begun offered

pub light_meets : (ps : List Param) (plan : Plan) (p : Part) → BuildsWorking light_machine light_widths p → MeetsLaws (terms_of (spec_of kind.ShiftLight ps) plan) p
light_meets ps plan p builds =
    parts_meet_laws light_machine light_widths shift_rows (spec_of kind.ShiftLight ps) plan p refl refl refl (λ word a b working held. refl) (rows_end 33 (omega arith)) builds

pub light_done : (ps : List Param) (e : ℕ) (w : World) → BuildsWorking light_machine light_widths (part_in (takes_of (spec_of kind.ShiftLight ps)) e w) → OffersItsOwn (spec_of kind.ShiftLight ps) e w.reg → IsDone e w
light_done ps e w begun offered = part_is_done light_machine light_widths (takes_of (spec_of kind.ShiftLight ps)) e w begun offered
