use Rattle.std.proofs.Common.{List, subst, sym}
use Rattle.part_laws.specs.Pipes.{LateOwn}
use Rattle.pipe_steps.specs.Drives.{TailHas}
use Rattle.pipe_steps.specs.Values.{made_late_in}
use Rattle.pipe_build.proofs.PlaceRegs.{places_have, places_move}
use Rattle.pipe_build.proofs.places.drive_places.Goals as goal

pub move_regs-requires-clause-fit : goal.move_regs-requires-clause-fit
move_regs-requires-clause-fit c = places_move c.args.m.now c.args.pool.now c.args.reg c.requires.nets.0 c.args.n c.args.places c.requires.most c.requires.places c.requires.nets.2

pub returns-clause-driven : goal.returns-clause-driven
returns-clause-driven c = λ p is nets.
    let has = places_have c.args.m.now c.args.pool.now c.args.reg p c.args.n c.move_regs.new.m _ c.move_regs.ensures.only.grows c.args.places c.requires.most c.requires.places is nets
    c.move_regs.ensures.driven in
    subst (λ (ts : List LateOwn). TailHas c.move_regs.new.m c.args.pool.now.nodes (λ env. made_late_in p env) ts) (sym is) has
