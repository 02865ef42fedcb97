use Rattle.std.proofs.Common.{List, arith, refl, subst, sym}
use Rattle.hw_pool.specs.Nodes.{PoolValue}
use Rattle.hw_pool.specs.Scope.{Scope}
use Rattle.hw_gates.proofs.Steps.{◌▸◌}
use Rattle.hw_module.specs.Scope.{scope_of}
use Rattle.part_laws.specs.Pipes.{LateOwn}
use Rattle.pipe_steps.specs.Equations.{we_of}
use Rattle.pipe_steps.specs.Things.{PipeThings}
use Rattle.pipe_steps.specs.Values.{leaving, made_late_in, place_stage, places_behind}
use Rattle.pipe_build.specs.declared.nets.Known.{Known}
use Rattle.pipe_build.specs.declared.nets.FrontNets.{FrontNets}
use Rattle.pipe_build.specs.Bears.{Bears}
use Rattle.pipe_build.specs.DrivenBy.{DriveFront}
use Rattle.pipe_build.specs.Known.{IsKnown}
use Rattle.pipe_build.specs.Late.{BearsLate, BearsStage}
use Rattle.pipe_build.proofs.Bears.{bears_as, bears_on, later}
use Rattle.pipe_build.proofs.Late.{late_on, second_is, stage_on, third_is}
use Rattle.pipe_build.proofs.tail.tail_nets.Goals as goal

made_is : (s : Scope) (pool : PoolValue) (p : PipeThings) (k : Known) (front : FrontNets) → IsKnown s pool p k → DriveFront s pool p front
    → BearsLate s pool 7 (λ env. made_late_in p env) (record { writes = k.wires.writes; rd = front.rd; value = k.units.value })
made_is s pool p k front known is = record { writes = known.wires.writes; rd = bears_as refl (omega arith) is.rd; value = bears_as refl (omega arith) known.units.value }

pub enable_net-enable-requires-clause-writes : goal.enable_net-enable-requires-clause-writes
enable_net-enable-requires-clause-writes c =
    let s = scope_of c.args.m.now in
    let p = c.requires.known.0 in
    let made = made_is s c.args.pool.now p c.args.k c.args.front c.requires.known.1 c.requires.known.2 in
    (s, _, (c.leaving_nets-leaving.ensures.late (λ env. made_late_in p env) made).writes)

pub returns-clause-tail : goal.returns-clause-tail
returns-clause-tail c = λ p is known front.
    let s = scope_of c.args.m.now in
    let pool = c.stage_nets-third.new.pool in
    let made = made_is s c.args.pool.now p c.args.k c.args.front known front in
    let leaving_is = c.leaving_nets-leaving.ensures.late (λ env. made_late_in p env) made in
    let enable = c.enable_net-enable.ensures.bears _ leaving_is.writes in
    let second = second_is s c.stage_nets-second.new.pool c.stage_nets-second.result c.args.reg c.args.places c.stage_nets-second.ensures.there c.stage_nets-second.ensures.beyond in
    let third = third_is s pool c.stage_nets-third.result c.args.reg c.args.places c.stage_nets-third.ensures.there c.stage_nets-third.ensures.beyond in
    let stages = c.stage_nets-second.ensures.step ▸ c.stage_nets-third.ensures.step in
    record {
      made = late_on (later (c.leaving_nets-leaving.ensures.step ▸ c.enable_net-enable.ensures.step ▸ stages)) made;
      leaving_is = subst (λ (l : List LateOwn). BearsLate s pool 7 (λ env. leaving env (made_late_in p env) l) c.leaving_nets-leaving.result) (sym is)
          (late_on (later (c.enable_net-enable.ensures.step ▸ stages)) leaving_is);
      enable = subst (λ (l : List LateOwn). Bears s pool 1 7 (λ env. we_of (env.inputs 1) (leaving env (made_late_in p env) l).writes) c.enable_net-enable.result) (sym is)
          (bears_on stages enable);
      second = subst (λ (l : List LateOwn). BearsStage s pool (λ env. place_stage env l) c.stage_nets-second.result) (sym is) (stage_on (later c.stage_nets-third.ensures.step) second);
      third = subst (λ (l : List LateOwn). BearsStage s pool (λ env. place_stage env (places_behind l)) c.stage_nets-third.result) (sym is) third;
    }
