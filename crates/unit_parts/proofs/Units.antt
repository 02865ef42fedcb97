-- Units whose rows compute their value: their laws, and that nothing is left to drive.
use Rattle.std.proofs.Common.{◌≡◌, ◌∙◌, ◌^◌, ◌<◌, ℕ, true, false, Bool, ◌||◌, eqb, List, [], ◌∷◌, map, Some, refl, ap, subst, inl, inr}
use Rattle.std.proofs.lemmas.Bool.{and_parts, both_ways, or_cases, eqb-true}
use Rattle.std.specs.List.{list_all}
use Rattle.isa_table.specs.Rows.Action.{Computes}
use Rattle.isa_model.specs.Machine.{Set}
use Rattle.service_reg.specs.declared.service.Service.{Service}
use Rattle.service_reg.specs.declared.service.Service.TheVariants.{Fetch, Exec, DataBus}
use Rattle.plug_law.specs.Table.{row_numbered, table_of}
use Rattle.plug_part.specs.Owned.{offers}
use Rattle.plug_part.specs.Terms.{claims_row}
use Rattle.plug_build.specs.World.{World, part_in}
use Rattle.plug_build.specs.Done.{IsDone}
use Rattle.plug_api.specs.Spec.{is_among}
use Rattle.plug_api.specs.Calls.{terms_of}
use Rattle.plug_kit.proofs.Bare.{bare_done}
use Rattle.plug_kinds.specs.Kinds.{claim_of}
use Rattle.unit_parts.specs.Computing.{BuildsComputing}
use Rattle.unit_parts.specs.Says.{unit_spec, is_unit_row, RowsCompute, UnitsMeetLaws}
use Rattle.unit_parts.proofs.Says.{each_row, no_fence}
use Rattle.unit_parts.proofs.Parts.{parts_meet_laws}

no_fencei : (rows : List ℕ) → list_all is_unit_row rows ≡ true → claims_row (map claim_of rows) 40 ≡ false
no_fencei [] h = refl
no_fencei (row ∷ rows) h =
    ap (λ b. b || claims_row (map claim_of rows) 40) (no_fence row (and_parts _ _ h).0) ∙ no_fencei rows (and_parts _ _ h).1

all_compute : (f : (word pc a b : ℕ) → ℕ) (rows : List ℕ) → RowsCompute rows f → (set : Set) (number word pc a b : ℕ) → claims_row (map claim_of rows) number ≡ true
    → (table_of set).row_of word ≡ Some number → a < 2 ^ 32 → b < 2 ^ 32 → (row_numbered number).action pc word a b ≡ Computes (f word pc a b)
all_compute f [] each set number word pc a b claimed found a_fits b_fits = absurd (both_ways false refl claimed)
all_compute f (row ∷ rows) each set number word pc a b claimed found a_fits b_fits = elim (or_cases (eqb row number) (claims_row (map claim_of rows) number) claimed) [
  | inl is ↦
      subst (λ n. (table_of set).row_of word ≡ Some n → (row_numbered n).action pc word a b ≡ Computes (f word pc a b)) (eqb-true row number is)
      (λ there. each.0 set word pc a b there a_fits b_fits) found
  | inr later ↦ all_compute f rows each.1 set number word pc a b later found a_fits b_fits
]

pub units_meet_laws : UnitsMeetLaws
units_meet_laws f name rows fixed plan p units each builds =
    parts_meet_laws f (terms_of (unit_spec name rows fixed) plan) p builds refl refl (no_fencei rows (each_row rows units))
    (λ number word pc a b claimed found a_fits b_fits. all_compute f rows each _ number word pc a b claimed found a_fits b_fits)

pub unit_is_done : (f : (word pc a b : ℕ) → ℕ) (takes : Service → Bool) (e : ℕ) (w : World) → BuildsComputing f (part_in takes e w)
    → ((s : Service) → offers w.reg e s ≡ is_among (Exec ∷ []) s) → IsDone e w
unit_is_done f takes e w begun offered = bare_done takes Exec e w begun.ports begun.only.is begun.bare (offered Fetch) (offered DataBus)
