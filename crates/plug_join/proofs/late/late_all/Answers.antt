use Rattle.std.proofs.Common.{◌≡◌, ◌∙◌, ◌<◌, ◌≤◌, length, refl, arith}
use Rattle.plug_join.proofs.Steps.{needs_here, late_room, late_spare, late_step, late_first}
use Rattle.plug_join.proofs.Ends.{all_joined, all_left}
use Rattle.plug_join.proofs.late.late_all.Goals as goal

pub loop-entry-init : goal.loop-entry-init
loop-entry-init g c = late_first _ _ _ _ _ _ _ _ c.requires.begun.1

pub late_entry-requires-clause-needs : goal.late_entry-requires-clause-needs
late_entry-requires-clause-needs g c =
    let is : c.deref-entry-items.result.now ≡ c.args.plan.now.order = c.deref-entry-items.ensures.value ∙ c.items.ensures in
    let h : c.loop-entry.entry-index < length c.args.plan.now.order = rw is at c.loop-entry-test.true in
    λ d. rw is (needs_here _ _ _ c.requires.plan _ _ _ _ _ _ _ h c.loop-entry.invariant d)

pub late_entry-requires-clause-room : goal.late_entry-requires-clause-room
late_entry-requires-clause-room g c =
    let is : c.deref-entry-items.result.now ≡ c.args.plan.now.order = c.deref-entry-items.ensures.value ∙ c.items.ensures in
    let h : c.loop-entry.entry-index < length c.args.plan.now.order = rw is at c.loop-entry-test.true in
    λ d. rw is (late_room _ _ _ c.requires.plan _ _ _ _ _ _ _ h c.loop-entry.invariant d)

pub late_entry-requires-clause-spare : goal.late_entry-requires-clause-spare
late_entry-requires-clause-spare g c =
    let is : c.deref-entry-items.result.now ≡ c.args.plan.now.order = c.deref-entry-items.ensures.value ∙ c.items.ensures in
    let h : c.loop-entry.entry-index < length c.args.plan.now.order = rw is at c.loop-entry-test.true in
    λ d. rw is (late_spare _ _ _ c.requires.plan _ _ _ _ _ _ _ h c.loop-entry.invariant d)

pub late_entry-requires-clause-begun : goal.late_entry-requires-clause-begun
late_entry-requires-clause-begun g c =
    let is : c.deref-entry-items.result.now ≡ c.args.plan.now.order = c.deref-entry-items.ensures.value ∙ c.items.ensures in
    let h : c.loop-entry.entry-index < length c.args.plan.now.order = rw is at c.loop-entry-test.true in
    λ d. rw is (c.loop-entry.invariant.begun d c.loop-entry.entry-index (omega arith) h)

pub late_entry-requires-clause-offered : goal.late_entry-requires-clause-offered
late_entry-requires-clause-offered g c =
    let is : c.deref-entry-items.result.now ≡ c.args.plan.now.order = c.deref-entry-items.ensures.value ∙ c.items.ensures in
    let h : c.loop-entry.entry-index < length c.args.plan.now.order = rw is at c.loop-entry-test.true in
    λ d. rw is (c.loop-entry.invariant.offered d c.loop-entry.entry-index h)

pub late_entry-requires-clause-predict : goal.late_entry-requires-clause-predict
late_entry-requires-clause-predict g c =
    let is : c.deref-entry-items.result.now ≡ c.args.plan.now.order = c.deref-entry-items.ensures.value ∙ c.items.ensures in
    let h : c.loop-entry.entry-index < length c.args.plan.now.order = rw is at c.loop-entry-test.true in
    λ d. rw is (c.loop-entry.invariant.predict d c.loop-entry.entry-index (omega arith) h)

pub loop-entry-preserved : goal.loop-entry-preserved
loop-entry-preserved g c =
    let is : c.deref-entry-items.result.now ≡ c.args.plan.now.order = c.deref-entry-items.ensures.value ∙ c.items.ensures in
    let h : c.loop-entry.entry-index < length c.args.plan.now.order = rw is at c.loop-entry-test.true in
    let f = rw is at c.late_entry.ensures.frame in
    late_step _ _ _ c.requires.plan _ _ _ _ _ _ _ h c.loop-entry.invariant _ c.late_entry.ensures.fits refl f.0 f.1
    (λ d. rw is at (c.late_entry.ensures.adds d)) (λ d. rw is at (c.late_entry.ensures.builds d)) (rw is at c.late_entry.ensures.done) (λ d p. rw is at (c.late_entry.ensures.law d p))

pub returns : goal.returns
returns g c =
    let is : c.deref-entry-items.result.now ≡ c.args.plan.now.order = c.deref-entry-items.ensures.value ∙ c.items.ensures in
    let over : length c.args.plan.now.order ≤ c.loop-entry.entry-index = rw is at c.loop-entry-test.false in
    let most : c.loop-entry.entry-index ≤ length c.args.plan.now.order = rw is at c.loop-entry.auto.entry-index-end in
    let e : c.loop-entry.entry-index ≡ length c.args.plan.now.order = omega arith in
    let whole = rw e at c.loop-entry.invariant in
    record { done = whole; left = all_left _ _ _ c.requires.plan _ _ _ _ _ whole; joined = all_joined _ _ _ c.requires.plan _ _ _ _ _ _ _ over c.loop-entry.invariant }
