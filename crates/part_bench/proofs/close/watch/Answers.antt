use Rattle.std.proofs.Common.{length, ap}
use Rattle.hw_module.proofs.Scopes.{fits_of, kept_grown}
use Rattle.part_bench.proofs.Steps.{behind, grown}
use Rattle.part_bench.proofs.close.watch.Goals as goal

pub next-requires-clause-fits : goal.next-requires-clause-fits
next-requires-clause-fits c = fits_of _ _ _ (kept_grown c.args.m.now c.reg-reg.new.self 1 c.args.pool.now c.args.net c.reg-reg.ensures.grows c.requires.net)

pub returns : goal.returns
returns c =
    let a = grown c.args.m.now c.reg-reg.new.self c.args.pool.now 1 c.reg-reg.ensures.grows (ap length c.reg-reg.ensures.wires) (c.reg-reg.ensures.drivers c.args.pool.now c.requires.drivers) in
    let b = grown c.reg-reg.new.self c.next.new.self c.args.pool.now 1 c.next.ensures.grows (ap length c.next.ensures.wires) (c.next.ensures.drivers a.drivers) in
    behind _ _ _ _ _ _ a b
