use Rattle.std.proofs.Common.{List, sym, subst}
use Rattle.hw_expr.specs.declared.net.Net.{Net}
use Rattle.sample_text.specs.Draft.{IsDraft}
use Rattle.sample_text.proofs.Drafts.{draft_more, draft_still}
use Rattle.sample_text.proofs.draft.Draft.node.Goals as goal

pub returns-in-Ok : goal.returns-in-Ok
returns-in-Ok c =
    subst (λ (list : List Net). IsDraft c.args.self.now.m c.over-made.new.pool list) (sym c.in-Ok.ensures.items)
    (draft_more _ _ _ _ (draft_still _ _ _ _ _ c.over-made.ensures.kept c.over-made.ensures.adds c.requires) c.in-Some.ensures.scope)

pub returns-in-Err : goal.returns-in-Err
returns-in-Err c =
    subst (λ (list : List Net). IsDraft c.args.self.now.m c.over-made.new.pool list) (sym c.in-Err.ensures.items)
    (draft_still _ _ _ _ _ c.over-made.ensures.kept c.over-made.ensures.adds c.requires)

pub returns-in-None : goal.returns-in-None
returns-in-None c = draft_still _ _ _ _ _ c.over-made.ensures.kept c.over-made.ensures.adds c.requires
