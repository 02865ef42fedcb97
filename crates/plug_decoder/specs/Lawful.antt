-- The decoder's law for lawful plans.
use Rattle.std.specs.Prelude.{ℕ}
use Rattle.plug_part.specs.Part.{Part}
use Rattle.plug_part.specs.Meets.{MeetsLaws}
use Rattle.plug_api.specs.declared.spec.PlugSpec.{PlugSpec}
use Rattle.plug_api.specs.declared.spec.Plan.{Plan}
use Rattle.plug_api.specs.Calls.{IsLawful, terms_of}
use Rattle.plug_decoder.specs.Law.{AreClaims}
use Rattle.plug_decoder.specs.Builds.{BuildsDecoder}

-- the claims of a lawful plan are those that the decoder's law needs
abbrev pub LawfulAreClaims : Type 0
LawfulAreClaims = (spec : PlugSpec) (plan : Plan) (entry : ℕ) → IsLawful spec plan entry → AreClaims plan.rows

-- a part that decodes them for their owners meets the laws at the terms of the plan
abbrev pub LawfulPartsMeetLaws : Type 0
LawfulPartsMeetLaws = (spec : PlugSpec) (plan : Plan) (entry : ℕ) → IsLawful spec plan entry → (p : Part) → BuildsDecoder plan.rows plan.owners p → MeetsLaws (terms_of spec plan) p
