-- The unit's parts meet the law of Exec, since its one row computes its value; and they are done.
use Rattle.std.proofs.Common.{ℕ, ap, sym, refl, arith, ◌∷◌, [], codes}
use Rattle.core_words.specs.Values.{bits_of}
use Rattle.hw_words.proofs.Shifts.{right_zeros}
use Rattle.isa_table.specs.Rows.Action.{Computes}
use Rattle.plug_part.specs.Part.{Part}
use Rattle.plug_part.specs.Meets.{MeetsLaws}
use Rattle.plug_build.specs.World.{World, part_in}
use Rattle.plug_build.specs.Done.{IsDone}
use Rattle.plug_api.specs.declared.spec.Plan.{Plan}
use Rattle.plug_api.specs.Calls.{OffersItsOwn, takes_of, terms_of}
use Rattle.unit_parts.specs.Computing.{BuildsComputing}
use Rattle.unit_parts.specs.Says.{RowsCompute}
use Rattle.unit_parts.proofs.Units.{units_meet_laws, unit_is_done}
use Rattle.plug_srl.specs.Says.{srl_spec, srl_value}

computes : RowsCompute (33 ∷ []) srl_value
computes = (λ set word pc a b is a_fits b_fits. ap Computes (sym (right_zeros (bits_of b 4 0) (omega arith) a a_fits)), tt)

pub parts_meet_laws : (plan : Plan) (p : Part) → BuildsComputing srl_value p → MeetsLaws (terms_of srl_spec plan) p
parts_meet_laws plan p builds = units_meet_laws srl_value (codes "srl") (33 ∷ []) 128 plan p refl computes builds

pub parts_are_done : (e : ℕ) (w : World) → BuildsComputing srl_value (part_in (takes_of srl_spec) e w) → OffersItsOwn srl_spec e w.reg → IsDone e w
parts_are_done e w begun offered = unit_is_done srl_value (takes_of srl_spec) e w begun offered
