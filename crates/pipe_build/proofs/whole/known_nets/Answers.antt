use Rattle.std.proofs.Common.{arith, refl}
use Rattle.hw_gates.proofs.Steps.{◌▸◌, step_as}
use Rattle.hw_module.specs.Scope.{scope_of}
use Rattle.pipe_steps.specs.Numbers.{things_from}
use Rattle.pipe_build.proofs.Bears.{later}
use Rattle.pipe_build.proofs.Known.{decoder_on, fetch_on, hazard_on, regs_on, units_on, wires_on}
use Rattle.pipe_build.proofs.Offers.{system_on}
use Rattle.pipe_build.proofs.UnitOuts.{execs_on}
use Rattle.pipe_build.proofs.whole.known_nets.Goals as goal

pub unit_nets-units-requires-clause-execs : goal.unit_nets-units-requires-clause-execs
unit_nets-units-requires-clause-execs c = (c.requires.execs.0, execs_on (scope_of c.args.m.now) c.requires.execs.0 (c.reg_nets-regs.ensures.step ▸ c.wire_nets-wires.ensures.step) c.args.execs.now c.requires.execs.1)

pub returns-clause-known : goal.returns-clause-known
returns-clause-known c = λ nodes x sh offers are.
    let s = scope_of c.args.m.now in
    let p = things_from nodes c.args.wire c.args.reg c.args.execs.now x sh in
    let reads = c.reg_nets-regs.ensures.step ▸ c.wire_nets-wires.ensures.step in
    let three = c.reg_nets-regs.ensures.step ▸ c.wire_nets-wires.ensures.step ▸ c.unit_nets-units.ensures.step in
    let all = c.reg_nets-regs.ensures.step ▸ c.wire_nets-wires.ensures.step ▸ c.unit_nets-units.ensures.step ▸ c.system_nets-system.ensures.step in
    record {
      regs = regs_on (later (c.wire_nets-wires.ensures.step ▸ c.unit_nets-units.ensures.step ▸ c.system_nets-system.ensures.step)) (c.reg_nets-regs.ensures.regs nodes c.args.execs.now x sh c.args.wire);
      wires = wires_on (later (c.unit_nets-units.ensures.step ▸ c.system_nets-system.ensures.step)) (c.wire_nets-wires.ensures.wires nodes c.args.execs.now x sh c.args.reg);
      fetch = fetch_on (later all) offers.fetch;
      decoder = decoder_on (later all) offers.decoder;
      hazard = hazard_on (later all) offers.hazard;
      system = c.system_nets-system.ensures.system s p (system_on p c.args.o.system (later three) offers.system);
      units = units_on (later c.system_nets-system.ensures.step) (c.unit_nets-units.ensures.units nodes p refl (execs_on s nodes reads c.args.execs.now are));
    }

pub returns-clause-step : goal.returns-clause-step
returns-clause-step c = let all = c.reg_nets-regs.ensures.step ▸ c.wire_nets-wires.ensures.step ▸ c.unit_nets-units.ensures.step ▸ c.system_nets-system.ensures.step in step_as _ _ _ _ (omega arith) all
