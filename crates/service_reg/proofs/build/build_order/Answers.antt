use Rattle.std.proofs.Common.{◌≡◌, ℕ, ◌+◌, ◌<◌, List, [], ◌∷◌, length, sym, ◌∙◌, ap, subst, arith}
use Rattle.std.proofs.lemmas.List.{length-append}
use Rattle.service_reg.specs.Services.{IsNext, IsNextEach}
use Rattle.service_reg.specs.Search.{AllBlocked}
use Rattle.service_reg.proofs.Places.{next_more, next_room, built}
use Rattle.service_reg.proofs.build.build_order.Goals as goal

pub loop-x-smaller : goal.loop-x-smaller
loop-x-smaller c =
    let new : IsNext c.args.specs.now c.loop-x.order.items c.in-Some.x = subst (λ (p : List ℕ). IsNext c.args.specs.now p c.in-Some.x) c.as_slice.ensures.value c.in-Some.ensures in
    let r : length c.loop-x.order.items < length c.args.specs.now = next_room c.args.specs.now c.loop-x.order.items c.in-Some.x c.loop-x.invariant new in
    let m : length c.push.new.self.items ≡ length c.loop-x.order.items + 1 = ap length c.in_ok-push.ensures.items ∙ length-append c.loop-x.order.items (c.in-Some.x ∷ []) in
    omega (arith, r, m)

pub loop-x-preserved : goal.loop-x-preserved
loop-x-preserved c =
    let new : IsNext c.args.specs.now c.loop-x.order.items c.in-Some.x = subst (λ (p : List ℕ). IsNext c.args.specs.now p c.in-Some.x) c.as_slice.ensures.value c.in-Some.ensures in
    subst (λ (p : List ℕ). IsNextEach c.args.specs.now p) (sym c.in_ok-push.ensures.items) (next_more c.args.specs.now c.loop-x.order.items c.in-Some.x c.loop-x.invariant new)

pub returns : goal.returns
returns c =
    built c.args.specs.now c.loop-x.order.items c.loop-x.invariant
    (subst (λ (p : List ℕ). AllBlocked c.args.specs.now p (length c.args.specs.now)) c.as_slice.ensures.value c.in_default.ensures)
    c.requires.no_loop
