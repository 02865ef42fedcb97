use Rattle.std.proofs.Common.{◌≡◌, ◌<◌, length, arith}
use Rattle.plug_api.proofs.Sound.{all_asked, none_asked, one_asked}
use Rattle.plug_api.proofs.law.decides_each.Goals as goal

pub loop-k-init : goal.loop-k-init
loop-k-init g c = none_asked _ _ _

pub loop-k-preserved : goal.loop-k-preserved
loop-k-preserved g c =
    let there : c.loop-k.k < length c.args.plugs.now.items = omega arith in
    one_asked _ _ _ c.loop-k.k c.index.result.now there c.index.ensures c.ask.ensures.no_memory c.ask.ensures.fit c.loop-k.invariant

pub returns : goal.returns
returns g c = λ cfg.
    let all : c.loop-k.k ≡ length c.args.plugs.now.items = omega arith in
    all_asked _ _ _ _ cfg c.loop-k.k c.loop-k.invariant all
