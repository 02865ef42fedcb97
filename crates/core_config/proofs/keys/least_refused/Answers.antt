use Rattle.std.proofs.Common.{sym, ap, ◌∙◌, Some}
use Rattle.toml.specs.View.{members_view, view}
use Rattle.toml.proofs.Views.{Entry}
use Rattle.core_config.specs.Config.{is_refused}
use Rattle.core_config.proofs.KeyLemmas.{first_refused, least_refused-sorted, first_refused-here, first_refused-later}
use Rattle.core_config.proofs.keys.least_refused.Goals as goal

pub returns-then-is_refused : goal.returns-then-is_refused
returns-then-is_refused c =
    let e : Entry = (c.in-Some.key.now, c.in-Some.value.now) in
    let here = c.loop-key.invariant ∙ ap (λ es. first_refused c.args.set (members_view es)) c.in-Some.ensures.steps in
    let key = ap (λ k. is_refused c.args.set k (view c.in-Some.value.now)) (sym c.as_str.ensures.value) in
    ap Some c.as_str-then-is_refused.ensures.value ∙ sym (least_refused-sorted c.args.set c.args.table.now.entries c.iter-key-items.ensures.ordered
    ∙ here ∙ first_refused-here c.args.set e c.next.new.self (key ∙ sym c.is_refused.ensures ∙ c.if-is_refused.true))

pub loop-key-preserved : goal.loop-key-preserved
loop-key-preserved c =
    let e : Entry = (c.in-Some.key.now, c.in-Some.value.now) in
    let here = c.loop-key.invariant ∙ ap (λ es. first_refused c.args.set (members_view es)) c.in-Some.ensures.steps in
    let key = ap (λ k. is_refused c.args.set k (view c.in-Some.value.now)) (sym c.as_str.ensures.value) in
    here ∙ first_refused-later c.args.set e c.next.new.self (key ∙ sym c.is_refused.ensures ∙ c.if-is_refused.false)

pub returns : goal.returns
returns c =
    sym (least_refused-sorted c.args.set c.args.table.now.entries c.iter-key-items.ensures.ordered ∙ c.loop-key.invariant
    ∙ ap (λ es. first_refused c.args.set (members_view es)) c.in-None.ensures.steps.0)
