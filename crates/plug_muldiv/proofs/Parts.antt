-- The parts meet the law of Exec, by what the kind says; and they are done.
use Rattle.std.proofs.Common.{ℕ, List, refl}
use Rattle.stage_map.specs.declared.config.Param.{Param}
use Rattle.plug_build.specs.World.{World, part_in}
use Rattle.plug_build.specs.Done.{IsDone}
use Rattle.plug_api.specs.Calls.{OffersItsOwn, takes_of}
use Rattle.plug_kinds.specs.declared.kind.Kind.TheVariants as kind
use Rattle.plug_kinds.specs.Kinds.{spec_of}
use Rattle.unit_steps.proofs.Parts.{parts_meet_laws, part_is_done}
use Rattle.plug_muldiv.specs.Machine.{machine_of, muldiv_widths, own_rows, unroll_of}
use Rattle.plug_muldiv.specs.Builds.{BuildsMuldiv, MuldivPartsMeetLaws}
use Rattle.plug_muldiv.proofs.Unroll.{divides}
use Rattle.plug_muldiv.proofs.Ends.{rows_end}

pub meets_laws : MuldivPartsMeetLaws
meets_laws ps plan p none builds =
    parts_meet_laws (machine_of (unroll_of ps)) muldiv_widths own_rows (spec_of kind.Muldiv ps) plan p refl refl refl (λ word a b working held. refl)
    (rows_end (unroll_of ps) (divides ps none)) builds

pub is_done : (ps : List Param) (e : ℕ) (w : World) → BuildsMuldiv ps (part_in (takes_of (spec_of kind.Muldiv ps)) e w) → OffersItsOwn (spec_of kind.Muldiv ps) e w.reg → IsDone e w
is_done ps e w begun offered = part_is_done (machine_of (unroll_of ps)) muldiv_widths (takes_of (spec_of kind.Muldiv ps)) e w begun offered
