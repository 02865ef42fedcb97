use Rattle.std.proofs.Common.{◌≡◌, ℕ, ◌<◌, ◌∙◌, length, get_or, arith}
use Rattle.std.proofs.lemmas.List.{get_or_default}
use Rattle.plug_api.proofs.Said.{said_step}
use Rattle.plug_api.proofs.acceptance.specs_of.Goals as goal

pub loop-i-preserved : goal.loop-i-preserved
loop-i-preserved g c =
    let i : ℕ = c.loop-i.i in
    let low : i < length c.args.picks.now.items = omega arith in
    let pick_is : c.index.result.now ≡ get_or c.args.picks.now.items i 0 = c.index.ensures ∙ get_or_default c.args.picks.now.items i c.index.result.now 0 low in
    rw c.in_ok-push.ensures.items (said_step _ _ _ _ _ _ c.loop-i.invariant (rw pick_is at c.in_ok-spec_at.ensures.copy) c.in_ok-spec_at.ensures.is_spec)
