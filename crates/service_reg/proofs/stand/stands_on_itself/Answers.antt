use Rattle.std.proofs.Common.{◌≡◌, ℕ, ◌+◌, ◌<◌, List, [], ◌∷◌, length, None, Some, sym, ◌∙◌, ap, subst, arith}
use Rattle.std.specs.Bool.{Decides}
use Rattle.std.specs.List.{Contains}
use Rattle.std.proofs.lemmas.List.{length-append}
use Rattle.service_reg.specs.Search.{IsFound, IsFurther}
use Rattle.service_reg.proofs.Places.{found_more, found_room, loop_decides}
use Rattle.service_reg.proofs.stand.stands_on_itself.Goals as goal

pub loop-y-smaller : goal.loop-y-smaller
loop-y-smaller c =
    let new : IsFurther c.args.specs.now c.loop-y.found.items c.args.x (Some c.in-Some.y) = subst (λ (p : List ℕ). IsFurther c.args.specs.now p c.args.x (Some c.in-Some.y)) c.as_slice.ensures.value c.in-Some.ensures in
    let r : length c.loop-y.found.items < length c.args.specs.now = found_room c.args.specs.now c.args.x c.loop-y.found.items c.in-Some.y c.loop-y.invariant new in
    let m : length c.push.new.self.items ≡ length c.loop-y.found.items + 1 = ap length c.in_ok-push.ensures.items ∙ length-append c.loop-y.found.items (c.in-Some.y ∷ []) in
    omega (arith, r, m)

pub loop-y-preserved : goal.loop-y-preserved
loop-y-preserved c =
    let new : IsFurther c.args.specs.now c.loop-y.found.items c.args.x (Some c.in-Some.y) = subst (λ (p : List ℕ). IsFurther c.args.specs.now p c.args.x (Some c.in-Some.y)) c.as_slice.ensures.value c.in-Some.ensures in
    subst (λ (p : List ℕ). IsFound c.args.specs.now c.args.x p) (sym c.in_ok-push.ensures.items) (found_more c.args.specs.now c.args.x c.loop-y.found.items c.in-Some.y c.loop-y.invariant new)

pub returns : goal.returns
returns c =
    loop_decides c.args.specs.now c.args.x c.loop-y.found.items c.is_among.result c.loop-y.invariant
    (subst (λ (p : List ℕ). IsFurther c.args.specs.now p c.args.x None) c.as_slice.ensures.value c.in_default.ensures)
    (subst (λ (p : List ℕ). Decides c.is_among.result (Contains p c.args.x)) c.as_slice-2.ensures.value c.is_among.ensures)
