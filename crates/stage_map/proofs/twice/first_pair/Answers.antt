use Rattle.std.proofs.Common.{◌+◌, Option, subst, sym}
use Rattle.stage_map.specs.declared.twice.Pair.{Pair}
use Rattle.stage_map.specs.Search.{IsFirstPair}
use Rattle.stage_map.proofs.Pairs.{pair_more}
use Rattle.stage_map.proofs.twice.first_pair.Goals as goal

pub loop-i-preserved : goal.loop-i-preserved
loop-i-preserved c =
    subst (λ (b : Option Pair). IsFirstPair c.args.uses.now (c.loop-i.i + 1) b) (sym c.keep_pair-best.ensures)
    (pair_more c.args.uses.now c.loop-i.i c.loop-i.best c.other_write-other.result c.loop-i.invariant c.other_write-other.ensures)
