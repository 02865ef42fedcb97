use Rattle.std.proofs.Common.{length, ap}
use Rattle.hw_module.proofs.Scopes.{fits_of, kept_grown}
use Rattle.part_bench.proofs.Steps.{behind, grown, more_nodes}
use Rattle.part_bench.proofs.close.put_register.Goals as goal

pub drive-requires-clause-fits : goal.drive-requires-clause-fits
drive-requires-clause-fits c =
    fits_of _ _ _ (kept_grown c.reg-reg.new.self c.next.new.self 1 c.reg_net-net.new.pool c.reg_net-net.result c.next.ensures.grows c.reg_net-net.ensures.scope)

pub returns : goal.returns
returns c =
    let a = grown c.args.m.now c.reg-reg.new.self c.args.pool.now 1 c.reg-reg.ensures.grows (ap length c.reg-reg.ensures.wires) (c.reg-reg.ensures.drivers c.args.pool.now c.requires.drivers) in
    let b = more_nodes c.reg-reg.new.self c.args.pool.now c.reg_net-net.new.pool 1 c.reg_net-net.ensures.adds c.reg_net-net.ensures.kept a.drivers in
    let d = grown c.reg-reg.new.self c.next.new.self c.reg_net-net.new.pool 1 c.next.ensures.grows (ap length c.next.ensures.wires) (c.next.ensures.drivers b.drivers) in
    let e = grown c.next.new.self c.drive.new.self c.reg_net-net.new.pool 1 c.drive.ensures.grows c.drive.ensures.count (c.drive.ensures.drivers d.drivers) in
    behind _ _ _ _ _ _ a (behind _ _ _ _ _ _ b (behind _ _ _ _ _ _ d e))
