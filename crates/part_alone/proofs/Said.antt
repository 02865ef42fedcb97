-- What the kinds that build say of themselves.
use Rattle.std.proofs.lemmas.Bool.{both_ways}
use Rattle.std.proofs.Common.{◌≡◌, ◌≤◌, List, [], ◌∷◌, true, false, refl, arith, sym, subst}
use Rattle.service_reg.specs.declared.service.Service.{Service}
use Rattle.service_reg.specs.declared.service.Service.TheVariants.{Fetch, Predict, Decoder, RegFile, Hazard, Exec, DataBus, System}
use Rattle.stage_map.specs.declared.config.Param.{Param}
use Rattle.plug_api.specs.declared.spec.PlugSpec.{PlugSpec}
use Rattle.plug_api.specs.Spec.{is_among}
use Rattle.plug_kinds.specs.declared.kind.Kind.{Kind}
use Rattle.plug_kinds.specs.declared.kind.Kind.TheVariants as kind
use Rattle.plug_kinds.specs.Kinds.{row_of, spec_of}
use Rattle.part_alone.specs.Built.{IsAlone, IsBeside}

pub kind_alone : (kind : Kind) (params : List Param) (spec : PlugSpec) → spec ≡ spec_of kind params → (row_of kind).per_row ≡ 0 → (row_of kind).fixed ≤ 4160 → (row_of kind).needs ≡ []
    → (is_among (row_of kind).offers Fetch ≡ true → is_among (row_of kind).offers Predict ≡ false) → IsAlone spec
kind_alone kind params spec is rows few needs none = subst IsAlone (sym is) (record { rows = rows; few = few; needs = needs; none = none })

-- Hazard stands beside the registers, which offer nothing else
hazard-apart : (s : Service) → is_among (Hazard ∷ []) s ≡ true → is_among (RegFile ∷ []) s ≡ false
hazard-apart Fetch is = refl
hazard-apart Predict is = refl
hazard-apart Decoder is = refl
hazard-apart RegFile is = absurd (both_ways false refl is)
hazard-apart Hazard is = refl
hazard-apart Exec is = refl
hazard-apart DataBus is = refl
hazard-apart System is = refl

pub hazard_beside : (params : List Param) (other spec : PlugSpec) → other ≡ spec_of kind.Regfile [] → spec ≡ spec_of kind.Hazard params → IsBeside other spec
hazard_beside params other spec regs is =
    subst (λ (o : PlugSpec). IsBeside o spec) (sym regs)
    (subst (λ (h : PlugSpec). IsBeside (spec_of kind.Regfile []) h) (sym is)
    (record { rows = refl; few = omega arith; needs = λ s needed. needed; apart = hazard-apart; ibus = refl; dbus = refl; predict = refl }))

-- the unit of FENCE.I stands beside what fetches
fencei-apart : (s : Service) → is_among (Exec ∷ []) s ≡ true → is_among (Fetch ∷ []) s ≡ false
fencei-apart Fetch is = absurd (both_ways false refl is)
fencei-apart Predict is = refl
fencei-apart Decoder is = refl
fencei-apart RegFile is = refl
fencei-apart Hazard is = refl
fencei-apart Exec is = refl
fencei-apart DataBus is = refl
fencei-apart System is = refl

pub fencei_beside : (params : List Param) (other spec : PlugSpec) → other ≡ spec_of kind.Fetch [] → spec ≡ spec_of kind.Fencei params → IsBeside other spec
fencei_beside params other spec fetch is =
    subst (λ (o : PlugSpec). IsBeside o spec) (sym fetch)
    (subst (λ (h : PlugSpec). IsBeside (spec_of kind.Fetch []) h) (sym is)
    (record { rows = refl; few = omega arith; needs = λ s needed. needed; apart = fencei-apart; ibus = refl; dbus = refl; predict = refl }))
