use Rattle.std.proofs.Common.{◌≡◌, ◌∙◌, ℕ, ◌+◌, ◌*◌, ◌-◌, inl, inr, ap, sym, subst, arith, Some, None}
use Rattle.hw_pool.specs.Meaning.{Env}
use Rattle.hw_gates.specs.Places.{Has, value_in}
use Rattle.hw_expr.specs.declared.net.Net.{Net}
use Rattle.hw_gates.proofs.Steps.{adds_of, kept, ◌▸◌}
use Rattle.hw_module.specs.Scope.{scope_of}
use Rattle.hw_module.proofs.Drivers.{drivers_stay}
use Rattle.plug_fetch.specs.Machine.{Now, idle_of, kept_of, response_of, given_of, owed_of, dropped_of, pc_of, address_of, held_after}
use Rattle.plug_fetch.specs.Machine as machine
use Rattle.plug_fetch.specs.Registers.{IsOpenCommand, driven_row, seen_in}
use Rattle.plug_fetch.proofs.Drives.{drives_then}
use Rattle.plug_fetch.proofs.Driven.{command_stays, cycle_stays, cycle_in_stays, place_stays, seen_stays}
use Rattle.plug_fetch.proofs.command.drive_regs.Goals as goal

pub drive_places-last-requires-clause-cycle : goal.drive_places-last-requires-clause-cycle
drive_places-last-requires-clause-cycle c = cycle_stays c.args.pool.now c.cycle_bits-bits.new.pool 6 c.cycle_bits-bits.ensures.step c.args.c c.requires.cycle

pub drive_places-last-requires-clause-cycle_in : goal.drive_places-last-requires-clause-cycle_in
drive_places-last-requires-clause-cycle_in c =
    cycle_in_stays c.args.pool.now c.cycle_bits-bits.new.pool 6 c.cycle_bits-bits.ensures.step c.args.c (scope_of c.args.b.now.design) c.requires.cycle c.requires.cycle_in

pub drive_places-last-requires-clause-kept : goal.drive_places-last-requires-clause-kept
drive_places-last-requires-clause-kept c = c.cycle_bits-bits.ensures.nets.2

pub drive_places-last-requires-clause-kept_in : goal.drive_places-last-requires-clause-kept_in
drive_places-last-requires-clause-kept_in c =
    let i = c.requires.cycle_in in
    (c.cycle_bits-bits.ensures.scope (scope_of c.args.b.now.design) i.given i.owed i.dropped i.answered).2

pub drive_places-last-requires-clause-kept_is : goal.drive_places-last-requires-clause-kept_is
drive_places-last-requires-clause-kept_is c = λ env.
    c.cycle_bits-bits.ensures.kept env
    ∙ ap machine.kept (sym (seen_stays c.args.pool.now c.cycle_bits-bits.new.pool 6 c.cycle_bits-bits.ensures.step c.args.c c.requires.cycle env c.args.first))

pub drive_places-last-requires-clause-drivers : goal.drive_places-last-requires-clause-drivers
drive_places-last-requires-clause-drivers c = drivers_stay c.args.b.now.design c.args.pool.now c.cycle_bits-bits.new.pool 6 (adds_of _ _ 6 c.cycle_bits-bits.ensures.step) c.requires.drivers

pub drive_command-requires-clause-drivers : goal.drive_command-requires-clause-drivers
drive_command-requires-clause-drivers c =
    drivers_stay c.drive_places-last.new.b.design c.drive_places-last.new.pool c.command_nets-nets.new.pool 15 (adds_of _ _ 15 c.command_nets-nets.ensures.step) c.drive_places-last.ensures.drivers

pub returns-clause-drives : goal.returns-clause-drives
returns-clause-drives c =
    drives_then c.args.b.now c.drive_places-last.new.b c.drive_command.new.b (4 * c.args.depth) 5 (4 * c.args.depth + 5) c.drive_places-last.ensures.drives c.drive_command.ensures.drives (omega arith)

pub returns-clause-places : goal.returns-clause-places
returns-clause-places c = λ i l.
    place_stays c.drive_places-last.new.b.design c.drive_command.new.b.design c.drive_places-last.new.pool c.command_nets-nets.new.pool 15 c.args.b.now.entry c.args.first c.args.depth i
    (λ env. seen_in env c.cycle_bits-bits.new.pool c.args.c c.args.first) (λ env. seen_in env c.args.pool.now c.args.c c.args.first) c.command_nets-nets.ensures.step
    (λ k a b. c.drive_command.ensures.others k (inl (omega arith)))
    (λ env. seen_stays c.args.pool.now c.cycle_bits-bits.new.pool 6 c.cycle_bits-bits.ensures.step c.args.c c.requires.cycle env c.args.first)
    (c.drive_places-last.ensures.driven i l)

pub returns-clause-command : goal.returns-clause-command
returns-clause-command c = λ reset_pc opened.
    let old = c.args.pool.now in
    let mid = c.cycle_bits-bits.new.pool in
    let pool = c.drive_places-last.new.pool in
    let first : ℕ = c.args.first in
    let depth : ℕ = c.args.depth in
    let reg : ℕ = first + 4 * depth in
    let n = c.command_nets-nets.ensures in
    let p = c.command_nets-nets.result in
    let d = c.drive_command.ensures in
    let e = c.drive_places-last.ensures.drives.entry in
    let step = c.drive_places-last.ensures.step in
    let bits = c.cycle_bits-bits.ensures in
    let cycle = c.requires.cycle in
    let now : Env → Now = λ env. seen_in env old c.args.c first in
    let at : (env : Env) (net : Net) → Has old net → value_in env pool net ≡ value_in env old net = λ env net has. kept env old pool _ net (bits.step ▸ step) has in
    let idle-is : (env : Env) → value_in env pool c.cycle_bits-bits.result.idle ≡ machine.idle (now env) = λ env. kept env mid pool _ _ step bits.nets.1.0 ∙ bits.idle env in
    let kept-is : (env : Env) → value_in env pool c.cycle_bits-bits.result.kept ≡ machine.kept (now env) = λ env. kept env mid pool _ _ step bits.nets.2.0 ∙ bits.kept env in
    let response-is : (env : Env) → value_in env pool c.cycle_bits-bits.result.response ≡ machine.response (now env) = λ env. kept env mid pool _ _ step bits.nets.0.0 ∙ bits.response env in
    let last-is : (env : Env) → value_in env pool c.drive_places-last.result ≡ held_after depth (now env) (depth - 1) =
    λ env. c.drive_places-last.ensures.last env ∙ ap (λ (x : Now). held_after depth x (depth - 1)) (seen_stays old mid 6 bits.step c.args.c cycle env first) in
    let pc-is : (env : Env) → pc_of (value_in env pool c.args.c.redirect) (value_in env pool c.args.c.redirect_pc) (value_in env pool c.cycle_bits-bits.result.kept) (value_in env pool c.args.c.guess) (value_in env pool c.args.c.next_pc) ≡ machine.pc_after (now env) =
    λ env j. pc_of (at env _ cycle.redirect.0 j) (at env _ cycle.redirect_pc.0 j) (kept-is env j) (at env _ cycle.guess.0 j) (at env _ cycle.next_pc.0 j) in
    let there = command_stays c.args.b.now.design c.drive_places-last.new.b.design c.args.b.now.entry reg reset_pc (let q = c.drive_places-last.ensures.drives.count in omega arith)
    (λ k a b. c.drive_places-last.ensures.others k (inr (omega arith))) opened in
    let then = subst (λ x. IsOpenCommand c.drive_places-last.new.b.design x reg reset_pc) (sym e) there in
    record {
      given = record {
        net = p.given;
        row = d.given ∙ ap (λ x. driven_row x 1 (Some 0) p.given) e;
        has = n.nets.given.0;
        value = λ env. n.given env ∙ λ j. given_of (idle-is env j) (last-is env j) (at env _ cycle.given.0 j) (at env _ cycle.ready.0 j);
      };
      owed = record {
        net = p.owed;
        row = d.owed ∙ ap (λ x. driven_row x 1 (Some 0) p.owed) e;
        has = n.nets.owed.0;
        value = λ env. n.owed env ∙ λ j. owed_of (at env _ cycle.given.0 j) (at env _ cycle.ready.0 j) (at env _ cycle.owed.0 j) (response-is env j);
      };
      dropped = record {
        net = p.dropped;
        row = d.dropped ∙ ap (λ x. driven_row x 1 (Some 0) p.dropped) e;
        has = n.nets.dropped.0;
        value = λ env. n.dropped env ∙ λ j. dropped_of (at env _ cycle.redirect.0 j) (at env _ cycle.dropped.0 j) (idle-is env j);
      };
      address = record {
        net = p.address;
        row = d.address ∙ ap (λ x. driven_row x 32 None p.address) e;
        has = n.nets.address.0;
        value = λ env. n.address env ∙ λ j. address_of (idle-is env j) (pc-is env j) (at env _ cycle.address.0 j);
      };
      next_pc = record {
        net = p.next_pc;
        row = d.next_pc reset_pc then ∙ ap (λ x. driven_row x 32 (Some reset_pc) p.next_pc) e;
        has = n.nets.next_pc.0;
        value = λ env. n.next_pc env ∙ pc-is env;
      };
    }
