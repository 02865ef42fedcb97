use Rattle.std.proofs.Common.{◌+◌, sym, subst, Option, ℕ}
use Rattle.stage_map.specs.Stages.{IsFirstOf, IsUseFault, LacksStage}
use Rattle.std.specs.Bool.{Decides}
use Rattle.stage_map.specs.declared.keys.PlugUse.{PlugUse}
use Rattle.stage_map.proofs.Firsts.{kept_more}
use Rattle.stage_map.proofs.absent.absent_use.Goals as goal

pub loop-k-preserved : goal.loop-k-preserved
loop-k-preserved c =
    let uses = c.args.uses.now in
    let stages = c.args.stages in
    let k = c.loop-k.k in
    subst (λ (b : Option ℕ). IsFirstOf uses (IsUseFault stages uses) (k + 1) b) (sym c.keep_first-best.ensures)
    (kept_more uses (IsUseFault stages uses) k c.loop-k.best c.lacks_stage-lacks.result c.loop-k.invariant
    (subst (λ (u : PlugUse). Decides c.lacks_stage-lacks.result (LacksStage stages u.at.at)) c.use_at.ensures c.lacks_stage-lacks.ensures))
