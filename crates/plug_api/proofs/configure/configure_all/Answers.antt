use Rattle.std.proofs.Common.{◌≡◌, ℕ, ◌<◌, length, get_or, arith, ◌∙◌, None}
use Rattle.std.proofs.lemmas.List.{get_or_default}
use Rattle.plug_api.specs.Picks.{no_entry}
use Rattle.plug_api.specs.Spec.{no_spec}
use Rattle.plug_api.proofs.Faults.{blames}
use Rattle.plug_api.proofs.Configures.{picks_differ, configure_step, refuse_step, same_kinds_step, shape_step}
use Rattle.plug_api.proofs.configure.configure_all.Goals as goal

pub loop-i-preserved : goal.loop-i-preserved
loop-i-preserved g c =
    let i : ℕ = c.loop-i.i in
    let h : i < length c.args.entries.now.items = omega arith in
    let low : i < length c.args.picks.now.items = omega (arith, c.requires.picks.one_each) in
    let pick_is : c.index.result.now ≡ get_or c.args.picks.now.items i 0 = c.index.ensures ∙ get_or_default c.args.picks.now.items i c.index.result.now 0 low in
    let entry_is : c.index-in-loop-i.result.now ≡ get_or c.args.entries.now.items i no_entry =
    c.index-in-loop-i.ensures ∙ get_or_default c.args.entries.now.items i c.index-in-loop-i.result.now no_entry h in
    record {
      told = configure_step _ _ _ _ _ _ _ _ _ _ _ _ (λ d. picks_differ _ _ d _ _ c.requires.picks c.requires.distinct) h c.loop-i.invariant.told
          (rw pick_is at c.in-Ok.ensures.changed)
          (rw (pick_is, entry_is) at c.in-Ok.ensures.no_fault)
          (rw (pick_is, entry_is) at c.in-Ok.ensures.took)
          (rw (pick_is, entry_is) at c.in-Ok.ensures.spec);
      half = shape_step _ _ _ _ _ _ _ i _ pick_is (λ d j l e. picks_differ _ _ d _ _ c.requires.picks c.requires.distinct j i l h (e ∙ pick_is))
          (λ d. rw pick_is (c.loop-i.invariant.told.rest d i (omega arith) h)) c.in-Ok.ensures.changed.others c.loop-i.invariant.half
          c.in-Ok.ensures.begun_for (rw entry_is at c.in-Ok.ensures.begun);
      whole = shape_step _ _ _ _ _ _ _ i _ pick_is (λ d j l e. picks_differ _ _ d _ _ c.requires.picks c.requires.distinct j i l h (e ∙ pick_is))
          (λ d. rw pick_is (c.loop-i.invariant.told.rest d i (omega arith) h)) c.in-Ok.ensures.changed.others c.loop-i.invariant.whole
          c.in-Ok.ensures.builds_for (rw entry_is at c.in-Ok.ensures.builds);
    }

pub returns-in-Err-clause-kept : goal.returns-in-Err-clause-kept
returns-in-Err-clause-kept g c = same_kinds_step _ (λ b. None) (λ b. no_spec) _ _ _ _ _ _ c.loop-i.invariant.told.configured.kept c.in-Err.ensures.changed

pub returns-in-Err-clause-refused : goal.returns-in-Err-clause-refused
returns-in-Err-clause-refused g c = λ not_memory.
    let i : ℕ = c.loop-i.i in
    let h : i < length c.args.entries.now.items = omega arith in
    let low : i < length c.args.picks.now.items = omega (arith, c.requires.picks.one_each) in
    let pick_is : c.index.result.now ≡ get_or c.args.picks.now.items i 0 = c.index.ensures ∙ get_or_default c.args.picks.now.items i c.index.result.now 0 low in
    let entry_is : c.index-in-loop-i.result.now ≡ get_or c.args.entries.now.items i no_entry =
    c.index-in-loop-i.ensures ∙ get_or_default c.args.entries.now.items i c.index-in-loop-i.result.now no_entry h in
    let b = blames i c.in-Err.fault c.refused.result c.refused.ensures not_memory in (
      i,
      c.in-Err.fault,
      b.is,
      record {
        there = h;
        is = λ d. rw (← c.loop-i.invariant.told.rest d i (omega arith) h) (rw (pick_is, entry_is) at (c.in-Err.ensures.fault b.not_memory d));
        first = c.loop-i.invariant.told.faultless;
        no_memory = b.not_memory;
      },
      refuse_step _ _ _ _ _ _ _ _ _ _ _ _ (λ d. picks_differ _ _ d _ _ c.requires.picks c.requires.distinct) h c.loop-i.invariant.told
          (rw pick_is at c.in-Err.ensures.changed)
          (rw pick_is at c.in-Err.ensures.not_taken)
          (rw pick_is at c.in-Err.ensures.spec_kept),
    )

pub returns-in-Err-clause-stopped : goal.returns-in-Err-clause-stopped
returns-in-Err-clause-stopped g c =
    let i : ℕ = c.loop-i.i in
    let h : i < length c.args.entries.now.items = omega arith in
    let low : i < length c.args.picks.now.items = omega (arith, c.requires.picks.one_each) in
    let pick_is : c.index.result.now ≡ get_or c.args.picks.now.items i 0 = c.index.ensures ∙ get_or_default c.args.picks.now.items i c.index.result.now 0 low in (
      i,
      h,
      refuse_step _ _ _ _ _ _ _ _ _ _ _ _ (λ d. picks_differ _ _ d _ _ c.requires.picks c.requires.distinct) h c.loop-i.invariant.told
          (rw pick_is at c.in-Err.ensures.changed)
          (rw pick_is at c.in-Err.ensures.not_taken)
          (rw pick_is at c.in-Err.ensures.spec_kept),
    )

pub returns-clause-ok : goal.returns-clause-ok
returns-clause-ok g c =
    let e : c.loop-i.i ≡ length c.args.entries.now.items = omega arith in
    rw e at c.loop-i.invariant.told.configured

pub returns-clause-begun : goal.returns-clause-begun
returns-clause-begun g c =
    let e : c.loop-i.i ≡ length c.args.entries.now.items = omega arith in
    rw e at c.loop-i.invariant.half

pub returns-clause-builds : goal.returns-clause-builds
returns-clause-builds g c =
    let e : c.loop-i.i ≡ length c.args.entries.now.items = omega arith in
    rw e at c.loop-i.invariant.whole
