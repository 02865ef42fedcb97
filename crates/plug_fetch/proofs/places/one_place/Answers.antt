use Rattle.std.proofs.Common.{◌∙◌, ℕ, ◌+◌, ◌*◌, ◌<◌, arith}
use Rattle.hw_gates.proofs.Steps.{adds_of}
use Rattle.hw_module.proofs.Drivers.{drivers_stay}
use Rattle.plug_fetch.proofs.Driven.{next_below, open_at, held_same, put_same}
use Rattle.plug_fetch.proofs.places.one_place.Goals as goal

pub place_nets-nets-requires-clause-next : goal.place_nets-nets-requires-clause-next
place_nets-nets-requires-clause-next c = λ e.
    let i : ℕ = c.args.i in
    let below = next_below i c.args.depth c.requires.within e in
    open_at c.args.b.now.design c.args.b.now.entry (c.args.first + 4 * (i + 1)) (c.args.first + 4 * i + 4) (omega arith) (c.requires.open (i + 1) (omega arith) (omega arith))

pub drive_place-requires-clause-open : goal.drive_place-requires-clause-open
drive_place-requires-clause-open c = c.requires.open c.args.i (omega arith) c.requires.within

pub drive_place-requires-clause-drivers : goal.drive_place-requires-clause-drivers
drive_place-requires-clause-drivers c = drivers_stay c.args.b.now.design c.args.pool.now c.place_nets-nets.new.pool 21 (adds_of _ _ 21 c.place_nets-nets.ensures.step) c.requires.drivers

pub returns-clause-driven : goal.returns-clause-driven
returns-clause-driven c =
    let n = c.place_nets-nets.ensures in
    let p = c.place_nets-nets.result in
    let d = c.drive_place.ensures in
    let first : ℕ = c.args.first in
    let depth : ℕ = c.args.depth in
    let i : ℕ = c.args.i in
    let old = c.args.pool.now in
    let kept = c.args.kept in
    let before = c.args.before in
    let l : i < depth = c.requires.within in
    record {
      held = record { net = p.held; row = d.held; has = n.nets.held.0; value = λ env. n.held env ∙ held_same env old c.args.c first i depth l kept before (c.requires.kept_is env) (c.requires.before_is env) };
      pc = record { net = p.pc; row = d.pc; has = n.nets.pc.0; value = λ env. n.pc env ∙ put_same env old c.args.c first i depth l kept before (c.requires.kept_is env) (c.requires.before_is env) c.args.c.address 1 };
      word = record { net = p.word; row = d.word; has = n.nets.word.0; value = λ env. n.word env ∙ put_same env old c.args.c first i depth l kept before (c.requires.kept_is env) (c.requires.before_is env) c.args.c.payload 2 };
      error = record { net = p.error; row = d.error; has = n.nets.error.0; value = λ env. n.error env ∙ put_same env old c.args.c first i depth l kept before (c.requires.kept_is env) (c.requires.before_is env) c.args.c.failed 3 };
    }
