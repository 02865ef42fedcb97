use Rattle.std.proofs.Common.{◌≡◌, ◌∙◌, ℕ, ◌+◌, List, [], ◌∷◌, length, refl, ap, sym, subst, arith, true, false, Option}
use Rattle.core_words.specs.Values.{bits_of, choose}
use Rattle.hw_pool.specs.Meaning.{Env}
use Rattle.hw_pool.specs.Nodes.{PoolValue}
use Rattle.hw_expr.specs.declared.net.Net.{Net}
use Rattle.hw_gates.specs.Places.{Has, value_in}
use Rattle.hw_gates.proofs.Steps.{adds_of, has_in, kept, stays, stays_in, ◌▸◌}
use Rattle.hw_module.specs.declared.rows.Owner.TheVariants.{Entry}
use Rattle.hw_module.specs.declared.rows.RegRow.{RegRow}
use Rattle.hw_module.specs.Rights.{Makes, Rights}
use Rattle.hw_module.specs.Rows.{out_at, reg_at}
use Rattle.hw_module.specs.Scope.{scope_of}
use Rattle.hw_module.proofs.Drivers.{drivers_stay}
use Rattle.hw_module.proofs.Makes.{makes_then}
use Rattle.isa_model.specs.Effects.{behind}
use Rattle.dbus_law.specs.Words.{address_of, spread_of}
use Rattle.service_reg.specs.declared.service.Service.TheVariants.{Exec}
use Rattle.service_ports.specs.Ports.{output_level, output_widths}
use Rattle.plug_part.specs.Owned.{is_bus_out}
use Rattle.plug_build.specs.Fits.{AreOutputs}
use Rattle.plug_build.proofs.Worlds.{outputs_grown}
use Rattle.plug_kit.specs.Made.{exec_list}
use Rattle.plug_kit.proofs.Gates.{gate_output}
use Rattle.plug_dbus.specs.Machine.{Now, cause_of, done_of, given_of, mask_at, misaligned, needs_none, owed_of, starts, starts_of, trap_of, value_at, whole_of}
use Rattle.plug_dbus.specs.Nets.{IsHeldIn, now_at, seen_in}
use Rattle.plug_dbus.proofs.Stays.{access_in_stays, access_stays, cycle_in_stays, cycle_stays, held_in_stays, held_stays, seen_stays}
use Rattle.plug_dbus.proofs.build.build_all.Goals as goal

-- ---- what the calls need

pub out_nets-o-requires-clause-cycle : goal.out_nets-o-requires-clause-cycle
out_nets-o-requires-clause-cycle c = cycle_stays c.read_cycle-c.new.pool c.access_nets-x.new.pool 27 c.access_nets-x.ensures.step c.read_cycle-c.result c.read_cycle-c.ensures.nets

pub next_nets-n-requires-clause-cycle : goal.next_nets-n-requires-clause-cycle
next_nets-n-requires-clause-cycle c =
    cycle_stays c.read_cycle-c.new.pool c.out_nets-o.new.pool (27 + 46) (c.access_nets-x.ensures.step ▸ c.out_nets-o.ensures.step) c.read_cycle-c.result c.read_cycle-c.ensures.nets

pub next_nets-n-requires-clause-access : goal.next_nets-n-requires-clause-access
next_nets-n-requires-clause-access c = access_stays c.access_nets-x.new.pool c.out_nets-o.new.pool 46 c.out_nets-o.ensures.step c.access_nets-x.result c.access_nets-x.ensures.nets

pub move_regs-requires-clause-scope : goal.move_regs-requires-clause-scope
move_regs-requires-clause-scope c =
    let s = scope_of c.args.b.now.design in
    let r = c.read_cycle-c.ensures in
    let i = r.scope in
    let x = c.access_nets-x.ensures.scope s i.given.word i.given.a in
    let p = c.out_nets-o.new.pool in
    c.next_nets-n.ensures.scope s
    (cycle_in_stays c.read_cycle-c.new.pool p (27 + 46) (c.access_nets-x.ensures.step ▸ c.out_nets-o.ensures.step) s c.read_cycle-c.result r.nets i)
    (access_in_stays c.access_nets-x.new.pool p 46 c.out_nets-o.ensures.step s c.access_nets-x.result c.access_nets-x.ensures.nets x)

pub move_regs-requires-clause-drivers : goal.move_regs-requires-clause-drivers
move_regs-requires-clause-drivers c =
    drivers_stay c.args.b.now.design c.args.pool.now c.next_nets-n.new.pool (16 + (27 + (46 + 51)))
    (adds_of _ _ _ (c.read_cycle-c.ensures.step ▸ (c.access_nets-x.ensures.step ▸ (c.out_nets-o.ensures.step ▸ c.next_nets-n.ensures.step)))) c.requires.drivers

pub give_command-requires-clause-clear : goal.give_command-requires-clause-clear
give_command-requires-clause-clear c =
    let at : (q : ℕ) → out_at c.move_regs.new.b.design.outs q ≡ out_at c.args.b.now.design.outs q = λ q. ap (λ (os : List (Option Net)). out_at os q) c.move_regs.ensures.moves.outs in
    let k = c.requires.clear in
    record { valid = at 8 ∙ k.valid; write = at 10 ∙ k.write; addr = at 11 ∙ k.addr; content = at 12 ∙ k.content; mask = at 13 ∙ k.mask }

pub give_command-requires-clause-nets : goal.give_command-requires-clause-nets
give_command-requires-clause-nets c =
    held_stays c.read_cycle-c.new.pool c.next_nets-n.new.pool _ (c.access_nets-x.ensures.step ▸ (c.out_nets-o.ensures.step ▸ c.next_nets-n.ensures.step)) c.read_cycle-c.result.held c.read_cycle-c.ensures.nets.held

pub give_command-requires-clause-scope : goal.give_command-requires-clause-scope
give_command-requires-clause-scope c =
    subst (λ s. IsHeldIn s c.next_nets-n.new.pool c.read_cycle-c.result.held) (sym c.move_regs.ensures.moves.scope)
    (held_in_stays c.read_cycle-c.new.pool c.next_nets-n.new.pool _ (c.access_nets-x.ensures.step ▸ (c.out_nets-o.ensures.step ▸ c.next_nets-n.ensures.step))
    (scope_of c.args.b.now.design) c.read_cycle-c.result.held c.read_cycle-c.ensures.nets.held c.read_cycle-c.ensures.scope.held)

-- ---- what is built

module _ (c : goal.After-result-7-1) where
  abbrev first-pool : PoolValue
  first-pool = c.read_cycle-c.new.pool

  abbrev second-pool : PoolValue
  second-pool = c.access_nets-x.new.pool

  abbrev third-pool : PoolValue
  third-pool = c.out_nets-o.new.pool

  abbrev last-pool : PoolValue
  last-pool = c.next_nets-n.new.pool

  abbrev now : Env → Now
  now env = now_at c.args.first (exec_list c.args.w) env

  -- the cycle stands in each pool
  seen-first : (env : Env) → seen_in env first-pool c.read_cycle-c.result ≡ now env
  seen-first env = c.read_cycle-c.ensures.seen env

  seen-second : (env : Env) → seen_in env second-pool c.read_cycle-c.result ≡ now env
  seen-second env = seen_stays first-pool second-pool 27 c.access_nets-x.ensures.step c.read_cycle-c.result c.read_cycle-c.ensures.nets env ∙ seen-first env

  seen-third : (env : Env) → seen_in env third-pool c.read_cycle-c.result ≡ now env
  seen-third env =
      seen_stays first-pool third-pool (27 + 46) (c.access_nets-x.ensures.step ▸ c.out_nets-o.ensures.step) c.read_cycle-c.result c.read_cycle-c.ensures.nets env ∙ seen-first env

  seen-last : (env : Env) → seen_in env last-pool c.read_cycle-c.result ≡ now env
  seen-last env =
      seen_stays first-pool last-pool _ (c.access_nets-x.ensures.step ▸ (c.out_nets-o.ensures.step ▸ c.next_nets-n.ensures.step)) c.read_cycle-c.result c.read_cycle-c.ensures.nets env
      ∙ seen-first env

  -- and so does the access
  address-is : (env : Env) → value_in env second-pool c.access_nets-x.result.address ≡ address_of (now env).word (now env).a
  address-is env = c.access_nets-x.ensures.address env ∙ λ i. address_of (seen-first env i).word (seen-first env i).a

  misaligned-is : (env : Env) → value_in env second-pool c.access_nets-x.result.misaligned ≡ misaligned (now env)
  misaligned-is env = c.access_nets-x.ensures.misaligned env ∙ λ i. misaligned (seen-first env i)

  needs-none-is : (env : Env) → value_in env second-pool c.access_nets-x.result.needs_none ≡ needs_none (now env)
  needs-none-is env = c.access_nets-x.ensures.needs_none env ∙ λ i. needs_none (seen-first env i)

  later : (env : Env) (net : Net) → Has second-pool net → value_in env third-pool net ≡ value_in env second-pool net
  later env net has = kept env second-pool third-pool 46 net c.out_nets-o.ensures.step has

  last : (env : Env) (net : Net) → Has third-pool net → value_in env last-pool net ≡ value_in env third-pool net
  last env net has = kept env third-pool last-pool 51 net c.next_nets-n.ensures.step has

  address-third : (env : Env) → value_in env third-pool c.access_nets-x.result.address ≡ address_of (now env).word (now env).a
  address-third env = later env _ c.access_nets-x.ensures.nets.address.0 ∙ address-is env

  needs-none-third : (env : Env) → value_in env third-pool c.access_nets-x.result.needs_none ≡ needs_none (now env)
  needs-none-third env = later env _ c.access_nets-x.ensures.nets.needs_none.0 ∙ needs-none-is env

  abbrev starts-in : Env → ℕ
  starts-in env =
      starts_of (value_in env third-pool c.read_cycle-c.result.given.go) (value_in env third-pool c.access_nets-x.result.needs_none) (value_in env third-pool c.read_cycle-c.result.held.given)
      (value_in env third-pool c.read_cycle-c.result.held.owed) (value_in env third-pool c.read_cycle-c.result.given.clear)

  starts-is : (env : Env) → starts-in env ≡ starts (now env)
  starts-is env = λ i. starts_of (seen-third env i).go (needs-none-third env i) (seen-third env i).given (seen-third env i).owed (seen-third env i).clear

abbrev all-rights : Rights
all-rights = record { wires = λ k. false; locked = λ k. false; outs = λ q. true }

made : (c : goal.After-result-7-1) (r : Rights) → ((q : ℕ) → is_bus_out q ≡ true → r.outs q ≡ true) → Makes (Entry c.args.b.now.entry) r c.args.b.now.design c.give_command.new.b.design 11
made c r outs =
    let moves = c.move_regs.ensures.moves in
    makes_then (Entry c.args.b.now.entry) r c.args.b.now.design c.move_regs.new.b.design c.give_command.new.b.design 6 5 11 (moves.makes r)
    (subst (λ (e : ℕ). Makes (Entry e) r c.move_regs.new.b.design c.give_command.new.b.design 5) moves.entry (c.give_command.ensures.makes r outs)) (omega arith)

pub returns-clause-drives : goal.returns-clause-drives
returns-clause-drives c =
    let moves = c.move_regs.ensures.moves in
    let give = c.give_command.ensures in
    record {
      entry = give.entry ∙ moves.entry;
      wires = give.wires ∙ moves.wires;
      arrays = give.arrays ∙ moves.arrays;
      count = ap (λ (rs : List RegRow). length rs) give.regs ∙ moves.count;
      makes = made c;
    }

pub returns-clause-drivers : goal.returns-clause-drivers
returns-clause-drivers c = c.give_command.ensures.drivers c.move_regs.ensures.drivers

pub returns-clause-step : goal.returns-clause-step
returns-clause-step c = c.read_cycle-c.ensures.step ▸ (c.access_nets-x.ensures.step ▸ (c.out_nets-o.ensures.step ▸ c.next_nets-n.ensures.step))

pub returns-clause-outputs : goal.returns-clause-outputs
returns-clause-outputs c =
    let d = c.args.b.now.design in
    let s = scope_of d in
    let q = third-pool c in
    let r = c.read_cycle-c.ensures in
    let n = c.out_nets-o.ensures.nets in
    let o = c.out_nets-o.result in
    let x = c.access_nets-x.ensures in
    let address = c.access_nets-x.result.address in
    let xi = x.scope s r.scope.given.word r.scope.given.a in
    let i = c.out_nets-o.ensures.scope s (cycle_in_stays (first-pool c) (second-pool c) 27 x.step s c.read_cycle-c.result r.nets r.scope) xi in
    let nets : List Net = o.done ∷ o.value ∷ o.next_pc ∷ o.trap ∷ o.cause ∷ address ∷ o.fence ∷ [] in
    let before : AreOutputs d q (output_level Exec) nets (output_widths Exec) = (
      gate_output d q 1 4 o.done n.done i.done,
      (
        gate_output d q 32 4 o.value n.value i.value,
        (
          gate_output d q 32 4 o.next_pc n.next_pc i.next_pc,
          (
            gate_output d q 1 4 o.trap n.trap i.trap,
            (
              gate_output d q 32 4 o.cause n.cause i.cause,
              (
                gate_output d q 32 4 address (stays (second-pool c) q 46 address 32 4 c.out_nets-o.ensures.step x.nets.address) (stays_in s (second-pool c) q 46 address c.out_nets-o.ensures.step x.nets.address.0 xi.address),
                (gate_output d q 1 4 o.fence n.fence i.fence, tt),
              ),
            ),
          ),
        ),
      ),
    ) in
    outputs_grown d c.give_command.new.b.design 11 (made c all-rights (λ k h. refl)).grows q (last-pool c) 51 (adds_of _ _ 51 c.next_nets-n.ensures.step) (output_level Exec) nets (output_widths Exec) before

pub returns-clause-shows : goal.returns-clause-shows
returns-clause-shows c =
    let o = c.out_nets-o.ensures in
    let seen = seen-second c in
    record {
      done = λ env. last c env _ o.nets.done.0 ∙ (o.done env ∙ λ i. done_of (seen env i).go (needs-none-is c env i) (seen env i).owed (seen env i).answered);
      result = λ env. last c env _ o.nets.value.0 ∙ (o.value env ∙ λ i. value_at (seen env i).word (address-is c env i) (seen env i).reply);
      next_pc = λ env. last c env _ o.nets.next_pc.0 ∙ (o.next_pc env ∙ λ i. behind (seen env i).pc);
      trap = λ env. last c env _ o.nets.trap.0 ∙ (o.trap env ∙ λ i. trap_of (seen env i).word (misaligned-is c env i) (seen env i).failed);
      cause = λ env. last c env _ o.nets.cause.0 ∙ (o.cause env ∙ λ i. cause_of (seen env i).word (misaligned-is c env i));
      tval = λ env. last c env _ (has_in (second-pool c) (third-pool c) 46 _ o.step c.access_nets-x.ensures.nets.address.0) ∙ address-third c env;
      fence = λ env. last c env _ o.nets.fence.0 ∙ o.fence env;
    }

pub returns-clause-command : goal.returns-clause-command
returns-clause-command c =
    let shown = c.give_command.ensures.shown in
    let held = c.read_cycle-c.result.held in
    record {
      valid = record { net = held.given; row = shown.valid; value_is = λ env i. (seen-last c env i).given };
      write = record { net = held.writes; row = shown.write; value_is = λ env i. (seen-last c env i).writes };
      addr = record { net = held.address; row = shown.addr; value_is = λ env i. (seen-last c env i).address };
      content = record { net = held.payload; row = shown.content; value_is = λ env i. (seen-last c env i).payload };
      mask = record { net = held.mask; row = shown.mask; value_is = λ env i. (seen-last c env i).mask };
    }

pub returns-clause-nexts : goal.returns-clause-nexts
returns-clause-nexts c =
    let n = c.next_nets-n.ensures in
    let p = c.next_nets-n.result in
    let moved = c.move_regs.ensures.moved in
    let same : (k : ℕ) → reg_at c.give_command.new.b.design.regs k ≡ reg_at c.move_regs.new.b.design.regs k = λ k. ap (λ (rs : List RegRow). reg_at rs k) c.give_command.ensures.regs in
    let seen = seen-third c in
    let begins = starts-is c in
    let first : ℕ = c.args.first in
    record {
      given = record { net = p.given; row = same first ∙ moved.given; value_is = λ env. n.given env ∙ λ i. given_of (begins env i) (seen env i).given (seen env i).ready };
      owed = record { net = p.owed; row = same (first + 1) ∙ moved.owed; value_is = λ env. n.owed env ∙ λ i. owed_of (seen env i).given (seen env i).ready (seen env i).owed (seen env i).answered };
      address = record { net = p.address; row = same (first + 2) ∙ moved.address; value_is = λ env. n.address env ∙ λ i. choose (begins env i) (whole_of (address-third c env i)) (seen env i).address };
      writes = record { net = p.writes; row = same (first + 3) ∙ moved.writes; value_is = λ env. n.writes env ∙ λ i. choose (begins env i) (bits_of (seen env i).word 5 5) (seen env i).writes };
      payload = record { net = p.payload; row = same (first + 4) ∙ moved.payload; value_is = λ env. n.payload env ∙ λ i. choose (begins env i) (spread_of (seen env i).word (seen env i).b) (seen env i).payload };
      mask = record { net = p.mask; row = same (first + 5) ∙ moved.mask; value_is = λ env. n.mask env ∙ λ i. choose (begins env i) (mask_at (seen env i).word (address-third c env i)) (seen env i).mask };
    }
