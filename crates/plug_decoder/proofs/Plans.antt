-- The claims of a lawful plan.
use Rattle.std.proofs.Common.{ℕ, refl, sym, inl, inr}
use Rattle.std.proofs.lemmas.Bool.{cases_order}
use Rattle.plug_part.specs.Part.{Part}
use Rattle.plug_part.specs.Terms.{RowsDiffer}
use Rattle.plug_part.specs.Meets.{MeetsLaws}
use Rattle.plug_part.proofs.Owners.{owners_are_told}
use Rattle.plug_api.specs.declared.spec.PlugSpec.{PlugSpec}
use Rattle.plug_api.specs.declared.spec.Plan.{Plan}
use Rattle.plug_api.specs.Calls.{IsLawful, terms_of}
use Rattle.plug_decoder.specs.Law.{AreClaims, NoneOverlap}
use Rattle.plug_decoder.specs.Builds.{BuildsDecoder}
use Rattle.plug_decoder.specs.Lawful.{LawfulAreClaims, LawfulPartsMeetLaws}
use Rattle.plug_decoder.proofs.Parts.{parts_meet_laws}

module _ (spec : PlugSpec) (plan : Plan) (entry : ℕ) (is : IsLawful spec plan entry) where
  none_overlap : NoneOverlap plan.rows
  none_overlap i j l m differ both = elim (cases_order i j) [
    | inl same ↦ differ same
    | inr other ↦ elim other [
      | inl less ↦ is.apart i j less m both
      | inr more ↦ is.apart j i more l (both.0, both.1, both.3, both.2)
    ]
  ]

  rows_differ : RowsDiffer plan.rows
  rows_differ i j l m same = elim (cases_order i j) [
    | inl e ↦ e
    | inr other ↦ elim other [
      | inl less ↦ absurd (is.rows_differ i j less m same)
      | inr more ↦ absurd (is.rows_differ j i more l (sym same))
    ]
  ]

  are_claims : AreClaims plan.rows
  are_claims = record {
    below = λ k l. (is.in_table k l).known;
    mask = λ k l. (is.in_table k l).mask;
    value = λ k l. (is.in_table k l).value;
    none_overlap = none_overlap;
  }

  parts_meet : (p : Part) → BuildsDecoder plan.rows plan.owners p → MeetsLaws (terms_of spec plan) p
  parts_meet p b = parts_meet_laws plan.rows plan.owners (terms_of spec plan) p b are_claims refl (λ number. refl) (λ k l. owners_are_told plan.rows plan.owners rows_differ k l)

pub lawful_are_claims : LawfulAreClaims
lawful_are_claims = are_claims

pub lawful_parts_meet_laws : LawfulPartsMeetLaws
lawful_parts_meet_laws = parts_meet
