use Rattle.std.proofs.Common.{◌≡◌, ℕ, true, false, eqb, ◌||◌, inl, inr, refl, sym}
use Rattle.std.proofs.lemmas.Bool.{both_ways, eqb-true, or_cases}
use Rattle.service_reg.specs.declared.service.Service.TheVariants.{Fetch, Exec, DataBus}
use Rattle.plug_api.specs.Calls.{takes_of, terms_of}
use Rattle.plug_build.specs.World.{world_of}
use Rattle.plug_kinds.specs.declared.kind.Kind.TheVariants as kind
use Rattle.plug_kinds.specs.Kinds.{params_of, spec_of}
use Rattle.plug_kit.proofs.Bare.{bare_done}
use Rattle.plug_fencei.proofs.Parts.{parts_meet_laws}
use Rattle.plug_fencei.proofs.plugin.FenceiPlugin.late.Goals as goal

-- it claims row 40 alone
claims_fence : (number : ℕ) → (eqb 40 number || false) ≡ true → number ≡ 40
claims_fence number h = elim (or_cases (eqb 40 number) false h) [
  | inl e ↦ sym (eqb-true 40 number e)
  | inr e ↦ absurd (both_ways false refl e)
]

pub returns-clause-done : goal.returns-clause-done
returns-clause-done c =
    let begun = c.requires.begun in
    bare_done (takes_of (spec_of kind.Fencei (params_of c.args.self.now.state.taken))) Exec c.args.b.now.entry (world_of c.args.pool.now c.args.b.now c.args.reg.now)
    begun.builds.ports begun.builds.only.is begun.bare (c.requires.offered Fetch) (c.requires.offered DataBus)

pub returns-clause-law : goal.returns-clause-law
returns-clause-law c = λ p builds.
    parts_meet_laws (terms_of (spec_of kind.Fencei (params_of c.args.self.now.state.taken)) c.args.plan.now) p builds refl (λ number claimed. claims_fence number claimed) refl
