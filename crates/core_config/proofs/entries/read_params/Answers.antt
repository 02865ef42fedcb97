use Rattle.std.proofs.Common.{◌++◌, sym, ap, ◌∙◌}
use Rattle.std.proofs.lemmas.List.{append-nil}
use Rattle.toml.specs.View.{members_view}
use Rattle.core_config.proofs.EntryLemmas.{scalars, params_of-sorted}
use Rattle.core_config.proofs.entries.read_params.Goals as goal

pub returns : goal.returns
returns c =
    let rest = ap (λ es. c.loop-key.params.items ++ scalars (members_view es)) c.in-None.ensures.steps.0 in
    c.of.ensures ∙ sym (params_of-sorted c.args.table.now.entries c.iter-key-items.ensures.ordered ∙ c.loop-key.invariant ∙ rest ∙ append-nil c.loop-key.params.items)
