use Rattle.std.proofs.Common.{◌≡◌, ◌∙◌, ℕ, ◌<◌, length, get_or, arith, sym, ap, inl, inr}
use Rattle.std.specs.List.{Contains}
use Rattle.std.proofs.lemmas.Bool.{cases_lt, false≢true}
use Rattle.std.proofs.lemmas.List.{get_or_default}
use Rattle.service_reg.specs.declared.service.Service.TheVariants.{System}
use Rattle.service_reg.specs.Services.{use_at}
use Rattle.plug_api.specs.declared.spec.PlugSpec.{PlugSpec}
use Rattle.plug_api.specs.Spec.{no_spec}
use Rattle.plug_api.specs.Accept.{uses_of, use_of}
use Rattle.plug_api.proofs.Gathers.{uses_at, length_map}
use Rattle.plug_api.proofs.checks.offers_system.Goals as goal

pub loop-entry-preserved : goal.loop-entry-preserved
loop-entry-preserved c = λ i l o.
    let e : ℕ = c.loop-entry.entry in
    let h : e < length c.args.specs.now.items = omega arith in
    let it : get_or c.args.specs.now.items e no_spec ≡ c.index.result.now = sym (c.index.ensures ∙ get_or_default c.args.specs.now.items e c.index.result.now no_spec h) in
    let offers : (use_at (uses_of c.args.specs.now.items) e).offers ≡ c.items.result.now.items =
    ap (λ u. u.offers) (uses_at c.args.specs.now.items e h) ∙ ap (λ (s : PlugSpec). s.offers) it ∙ sym c.items.ensures in
    elim (cases_lt i e) [
      | inl early ↦ c.loop-entry.invariant i early o
      | inr late ↦
          let same : i ≡ e = omega arith in
          let here : Contains (use_at (uses_of c.args.specs.now.items) e).offers System = rw same at o in
          let there : Contains c.items.result.now.items System = rw offers at here in
          false≢true (rw c.if-is_system.false at (c.is_system.ensures.1 there))
    ]

pub returns : goal.returns
returns c =
    let all : length (uses_of c.args.specs.now.items) ≡ length c.args.specs.now.items = length_map use_of c.args.specs.now.items in
    (λ f. absurd (false≢true f), λ o. let l = o.1.0 in absurd (c.loop-entry.invariant o.0 (omega (arith, all, l)) o.1.1))
