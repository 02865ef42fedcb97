use Rattle.std.proofs.Common.{◌≡◌, ◌+◌, length, arith, sym, subst, Option, ℕ}
use Rattle.stage_map.specs.Stages.{HasOrderFault, IsFirstOf}
use Rattle.stage_map.proofs.Firsts.{kept_more}
use Rattle.stage_map.proofs.order.misread_place.Goals as goal

pub loop-k-preserved : goal.loop-k-preserved
loop-k-preserved c =
    let uses = c.args.uses.now in
    subst (λ (b : Option ℕ). IsFirstOf uses (HasOrderFault uses) (c.loop-k.k + 1) b) (sym c.keep_first-best.ensures)
    (kept_more uses (HasOrderFault uses) c.loop-k.k c.loop-k.best c.is_misread-early.result c.loop-k.invariant c.is_misread-early.ensures)

pub returns : goal.returns
returns c =
    let uses = c.args.uses.now in
    let end : c.loop-k.k ≡ length uses = omega arith in
    subst (λ (n : ℕ). IsFirstOf uses (HasOrderFault uses) n c.loop-k.best) end c.loop-k.invariant
