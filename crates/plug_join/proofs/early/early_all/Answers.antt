use Rattle.std.proofs.Common.{◌≡◌, ◌∙◌, ◌<◌, ◌≤◌, length, arith}
use Rattle.plug_join.proofs.Steps.{unoffered_here, outs_here, room_here, spare_here, early_step}
use Rattle.plug_join.proofs.early.early_all.Goals as goal

pub early_entry-requires-clause-unoffered : goal.early_entry-requires-clause-unoffered
early_entry-requires-clause-unoffered g c =
    let is : c.deref-entry-items.result.now ≡ c.args.plan.now.order = c.deref-entry-items.ensures.value ∙ c.items.ensures in
    let h : c.loop-entry.entry-index < length c.args.plan.now.order = rw is at c.loop-entry-test.true in
    λ d. rw is (unoffered_here _ _ _ c.requires.plan _ _ _ _ _ h c.loop-entry.invariant d)

pub early_entry-requires-clause-outs : goal.early_entry-requires-clause-outs
early_entry-requires-clause-outs g c =
    let is : c.deref-entry-items.result.now ≡ c.args.plan.now.order = c.deref-entry-items.ensures.value ∙ c.items.ensures in
    let h : c.loop-entry.entry-index < length c.args.plan.now.order = rw is at c.loop-entry-test.true in
    λ d. rw is (outs_here _ _ _ c.requires.plan _ _ _ _ _ h c.loop-entry.invariant d)

pub early_entry-requires-clause-room : goal.early_entry-requires-clause-room
early_entry-requires-clause-room g c =
    let is : c.deref-entry-items.result.now ≡ c.args.plan.now.order = c.deref-entry-items.ensures.value ∙ c.items.ensures in
    let h : c.loop-entry.entry-index < length c.args.plan.now.order = rw is at c.loop-entry-test.true in
    λ d. rw is (room_here _ _ _ c.requires.plan _ _ _ _ _ h c.loop-entry.invariant d)

pub early_entry-requires-clause-spare : goal.early_entry-requires-clause-spare
early_entry-requires-clause-spare g c =
    let is : c.deref-entry-items.result.now ≡ c.args.plan.now.order = c.deref-entry-items.ensures.value ∙ c.items.ensures in
    let h : c.loop-entry.entry-index < length c.args.plan.now.order = rw is at c.loop-entry-test.true in
    λ d. rw is (spare_here _ _ _ c.requires.plan _ _ _ _ _ h c.loop-entry.invariant d)

pub loop-entry-preserved : goal.loop-entry-preserved
loop-entry-preserved g c =
    let is : c.deref-entry-items.result.now ≡ c.args.plan.now.order = c.deref-entry-items.ensures.value ∙ c.items.ensures in
    let h : c.loop-entry.entry-index < length c.args.plan.now.order = rw is at c.loop-entry-test.true in
    let f = rw is at c.early_entry.ensures.frame in
    early_step _ _ _ c.requires.plan _ _ _ _ _ h c.loop-entry.invariant _ c.early_entry.ensures.fits f.0 f.1
    (λ d. rw is at (c.early_entry.ensures.adds d)) (rw is at c.early_entry.ensures.offers) (λ d. rw is at (c.early_entry.ensures.offered d)) c.early_entry.ensures.offer
    (rw is at c.early_entry.ensures.open) (λ d. rw is at (c.early_entry.ensures.begun d))

pub returns : goal.returns
returns g c =
    let is : c.deref-entry-items.result.now ≡ c.args.plan.now.order = c.deref-entry-items.ensures.value ∙ c.items.ensures in
    let over : length c.args.plan.now.order ≤ c.loop-entry.entry-index = rw is at c.loop-entry-test.false in
    let most : c.loop-entry.entry-index ≤ length c.args.plan.now.order = rw is at c.loop-entry.auto.entry-index-end in
    let e : c.loop-entry.entry-index ≡ length c.args.plan.now.order = omega arith in
    record { begun = rw e at c.loop-entry.invariant }
