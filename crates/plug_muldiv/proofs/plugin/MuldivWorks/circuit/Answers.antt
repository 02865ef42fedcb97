use Rattle.std.proofs.Common.{◌≡◌, ◌∙◌, ℕ, ◌+◌, arith, ap, None}
use Rattle.hw_pool.specs.Meaning.{Env}
use Rattle.hw_gates.proofs.Steps.{adds_of}
use Rattle.hw_module.proofs.Drivers.{drivers_stay}
use Rattle.muldiv_law.specs.Machine.{rounds_of, hi_next, lo_next}
use Rattle.plug_kinds.specs.Kinds.{params_of}
use Rattle.unit_steps.proofs.RegSteps.{can_take, has_taken}
use Rattle.plug_muldiv.specs.Machine.{unroll_of}
use Rattle.plug_muldiv.proofs.plugin.MuldivWorks.circuit.Goals as goal

pub muldiv_nets-nets-requires-clause-few : goal.muldiv_nets-nets-requires-clause-few
muldiv_nets-nets-requires-clause-few c = let there = c.requires.regs.1.1.0.there in let few = c.requires.few in omega (arith, there, few)

pub drive_regs-requires-clause-few : goal.drive_regs-requires-clause-few
drive_regs-requires-clause-few c = let there = c.requires.regs.1.1.0.there in let few = c.requires.few in omega (arith, there, few)

pub drive_regs-requires-clause-fit : goal.drive_regs-requires-clause-fit
drive_regs-requires-clause-fit c =
    let d = c.args.b.now.design in
    let q = c.muldiv_nets-nets.new.pool in
    let e = c.args.b.now.entry in
    let m = c.args.mark in
    let n = c.muldiv_nets-nets.ensures in
    let nets = c.muldiv_nets-nets.result in
    let regs = c.requires.regs in (
      can_take d q e (m + 1) 6 None nets.count regs.0 n.count_net.0 n.count_scope n.count_net.1,
      (
        can_take d q e (m + 1 + 1) 32 None nets.hi regs.1.0 n.hi_net.0 n.hi_scope n.hi_net.1,
        (can_take d q e (m + 1 + 1 + 1) 32 None nets.lo regs.1.1.0 n.lo_net.0 n.lo_scope n.lo_net.1, tt),
      ),
    )

pub returns-clause-driven : goal.returns-clause-driven
returns-clause-driven c =
    let d = c.args.b.now.design in
    let new = c.drive_regs.new.b.design in
    let q = c.muldiv_nets-nets.new.pool in
    let e = c.args.b.now.entry in
    let m = c.args.mark in
    let w = c.args.w in
    let n = c.muldiv_nets-nets.ensures in
    let nets = c.muldiv_nets-nets.result in
    let regs = c.requires.regs in
    let taken = c.drive_regs.ensures.taken in
    let same : c.unroll-unroll.result ≡ unroll_of (params_of c.args.self.now.state.taken) = c.unroll-unroll.ensures.is in
    let hi = λ (env : Env). n.hi env ∙ ap (λ (u : ℕ). hi_next u (rounds_of u) (env.wires w.word) (env.wires w.b) (env.regs m) (env.regs (m + 1)) (env.regs (m + 1 + 1)) (env.regs (m + 1 + 1 + 1))) same in
    let lo = λ (env : Env). n.lo env ∙ ap (λ (u : ℕ). lo_next u (rounds_of u) (env.wires w.word) (env.wires w.a) (env.wires w.b) (env.regs m) (env.regs (m + 1)) (env.regs (m + 1 + 1)) (env.regs (m + 1 + 1 + 1))) same in (
      has_taken d new q e (m + 1) 6 None _ nets.count regs.0 taken.0 n.count_net.0 n.count,
      (
        has_taken d new q e (m + 1 + 1) 32 None _ nets.hi regs.1.0 taken.1.0 n.hi_net.0 hi,
        (has_taken d new q e (m + 1 + 1 + 1) 32 None _ nets.lo regs.1.1.0 taken.1.1.0 n.lo_net.0 lo, tt),
      ),
    )

pub returns-clause-drivers : goal.returns-clause-drivers
returns-clause-drivers c =
    c.drive_regs.ensures.drivers
    (drivers_stay c.args.b.now.design c.args.pool.now c.muldiv_nets-nets.new.pool 260 (adds_of _ _ 260 c.muldiv_nets-nets.ensures.step) c.requires.drivers)
