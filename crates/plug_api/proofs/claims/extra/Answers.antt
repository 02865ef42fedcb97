use Rattle.std.proofs.Common.{◌≡◌, ◌∙◌, ◌<◌, ℕ, length, get_or, false, arith, ap, sym, inl, inr}
use Rattle.std.proofs.lemmas.Bool.{cases_lt}
use Rattle.std.proofs.lemmas.List.{get_or_default}
use Rattle.plug_api.specs.declared.claims.OwnedClaim.{OwnedClaim}
use Rattle.plug_api.specs.Rules.{is_extra, no_owned}
use Rattle.plug_api.proofs.claims.extra.Goals as goal

pub loop-k-preserved : goal.loop-k-preserved
loop-k-preserved c = λ i l.
    let k : ℕ = c.loop-k.k in
    let h : k < length c.args.claims.now.items = omega arith in
    let it : c.index-owned.result.now ≡ get_or c.args.claims.now.items k no_owned = c.index-owned.ensures ∙ get_or_default c.args.claims.now.items k c.index-owned.result.now no_owned h in
    let here : is_extra c.args.isa (get_or c.args.claims.now.items k no_owned).claim.row ≡ false =
    ap (λ (o : OwnedClaim). is_extra c.args.isa o.claim.row) (sym it) ∙ sym c.is_extra.ensures ∙ c.if-is_extra.false in
    elim (cases_lt i k) [
      | inl earlier ↦ c.loop-k.invariant i earlier
      | inr late ↦ let e : i ≡ k = omega arith in ap (λ j. is_extra c.args.isa (get_or c.args.claims.now.items j no_owned).claim.row) e ∙ here
    ]
