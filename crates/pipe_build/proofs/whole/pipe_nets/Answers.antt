use Rattle.std.proofs.Common.{ap, arith}
use Rattle.hw_gates.proofs.Steps.{◌▸◌, step_as}
use Rattle.hw_module.specs.Scope.{scope_of}
use Rattle.pipe_steps.specs.Numbers.{tail_from, things_from}
use Rattle.pipe_build.proofs.Bears.{later}
use Rattle.pipe_build.proofs.DrivenBy.{drive_event_on, drive_front_on, drive_slot_on, drive_state_on, drive_told_on, drive_wires_on}
use Rattle.pipe_build.proofs.Known.{known_on, mids_on}
use Rattle.pipe_build.proofs.AllNets.{drive_tail_on}
use Rattle.pipe_build.proofs.whole.pipe_nets.Goals as goal

pub known_nets-known-requires-clause-execs : goal.known_nets-known-requires-clause-execs
known_nets-known-requires-clause-execs c = (c.requires.known.0, c.requires.known.4)

pub mid_nets-mids-requires-clause-known : goal.mid_nets-mids-requires-clause-known
mid_nets-mids-requires-clause-known c = (scope_of c.args.m.now, (things_from c.requires.known.0 c.args.wire c.args.reg c.args.execs.now c.requires.known.1 c.requires.known.2), (c.known_nets-known.ensures.known c.requires.known.0 c.requires.known.1 c.requires.known.2 c.requires.known.3 c.requires.known.4))

pub wire_drivers-wires-requires-clause-known : goal.wire_drivers-wires-requires-clause-known
wire_drivers-wires-requires-clause-known c = (scope_of c.args.m.now, (things_from c.requires.known.0 c.args.wire c.args.reg c.args.execs.now c.requires.known.1 c.requires.known.2), known_on (later c.mid_nets-mids.ensures.step) (c.known_nets-known.ensures.known c.requires.known.0 c.requires.known.1 c.requires.known.2 c.requires.known.3 c.requires.known.4))

pub wire_drivers-wires-requires-clause-mids : goal.wire_drivers-wires-requires-clause-mids
wire_drivers-wires-requires-clause-mids c = (scope_of c.args.m.now, (things_from c.requires.known.0 c.args.wire c.args.reg c.args.execs.now c.requires.known.1 c.requires.known.2), (c.mid_nets-mids.ensures.mids (scope_of c.args.m.now) (things_from c.requires.known.0 c.args.wire c.args.reg c.args.execs.now c.requires.known.1 c.requires.known.2) (c.known_nets-known.ensures.known c.requires.known.0 c.requires.known.1 c.requires.known.2 c.requires.known.3 c.requires.known.4)))

pub state_drivers-state-requires-clause-known : goal.state_drivers-state-requires-clause-known
state_drivers-state-requires-clause-known c = (scope_of c.args.m.now, (things_from c.requires.known.0 c.args.wire c.args.reg c.args.execs.now c.requires.known.1 c.requires.known.2), known_on (later (c.mid_nets-mids.ensures.step ▸ c.wire_drivers-wires.ensures.step)) (c.known_nets-known.ensures.known c.requires.known.0 c.requires.known.1 c.requires.known.2 c.requires.known.3 c.requires.known.4))

pub state_drivers-state-requires-clause-mids : goal.state_drivers-state-requires-clause-mids
state_drivers-state-requires-clause-mids c = (scope_of c.args.m.now, (things_from c.requires.known.0 c.args.wire c.args.reg c.args.execs.now c.requires.known.1 c.requires.known.2), mids_on (later c.wire_drivers-wires.ensures.step) (c.mid_nets-mids.ensures.mids (scope_of c.args.m.now) (things_from c.requires.known.0 c.args.wire c.args.reg c.args.execs.now c.requires.known.1 c.requires.known.2) (c.known_nets-known.ensures.known c.requires.known.0 c.requires.known.1 c.requires.known.2 c.requires.known.3 c.requires.known.4)))

pub slot_drivers-slot-requires-clause-known : goal.slot_drivers-slot-requires-clause-known
slot_drivers-slot-requires-clause-known c = (scope_of c.args.m.now, (things_from c.requires.known.0 c.args.wire c.args.reg c.args.execs.now c.requires.known.1 c.requires.known.2), known_on (later (c.mid_nets-mids.ensures.step ▸ c.wire_drivers-wires.ensures.step ▸ c.state_drivers-state.ensures.step)) (c.known_nets-known.ensures.known c.requires.known.0 c.requires.known.1 c.requires.known.2 c.requires.known.3 c.requires.known.4))

pub slot_drivers-slot-requires-clause-mids : goal.slot_drivers-slot-requires-clause-mids
slot_drivers-slot-requires-clause-mids c = (scope_of c.args.m.now, (things_from c.requires.known.0 c.args.wire c.args.reg c.args.execs.now c.requires.known.1 c.requires.known.2), mids_on (later (c.wire_drivers-wires.ensures.step ▸ c.state_drivers-state.ensures.step)) (c.mid_nets-mids.ensures.mids (scope_of c.args.m.now) (things_from c.requires.known.0 c.args.wire c.args.reg c.args.execs.now c.requires.known.1 c.requires.known.2) (c.known_nets-known.ensures.known c.requires.known.0 c.requires.known.1 c.requires.known.2 c.requires.known.3 c.requires.known.4)))

pub told_drivers-told-requires-clause-known : goal.told_drivers-told-requires-clause-known
told_drivers-told-requires-clause-known c = (scope_of c.args.m.now, (things_from c.requires.known.0 c.args.wire c.args.reg c.args.execs.now c.requires.known.1 c.requires.known.2), known_on (later (c.mid_nets-mids.ensures.step ▸ c.wire_drivers-wires.ensures.step ▸ c.state_drivers-state.ensures.step ▸ c.slot_drivers-slot.ensures.step)) (c.known_nets-known.ensures.known c.requires.known.0 c.requires.known.1 c.requires.known.2 c.requires.known.3 c.requires.known.4))

pub told_drivers-told-requires-clause-mids : goal.told_drivers-told-requires-clause-mids
told_drivers-told-requires-clause-mids c = (scope_of c.args.m.now, (things_from c.requires.known.0 c.args.wire c.args.reg c.args.execs.now c.requires.known.1 c.requires.known.2), mids_on (later (c.wire_drivers-wires.ensures.step ▸ c.state_drivers-state.ensures.step ▸ c.slot_drivers-slot.ensures.step)) (c.mid_nets-mids.ensures.mids (scope_of c.args.m.now) (things_from c.requires.known.0 c.args.wire c.args.reg c.args.execs.now c.requires.known.1 c.requires.known.2) (c.known_nets-known.ensures.known c.requires.known.0 c.requires.known.1 c.requires.known.2 c.requires.known.3 c.requires.known.4)))

pub event_drivers-event-requires-clause-known : goal.event_drivers-event-requires-clause-known
event_drivers-event-requires-clause-known c = (scope_of c.args.m.now, (things_from c.requires.known.0 c.args.wire c.args.reg c.args.execs.now c.requires.known.1 c.requires.known.2), known_on (later (c.mid_nets-mids.ensures.step ▸ c.wire_drivers-wires.ensures.step ▸ c.state_drivers-state.ensures.step ▸ c.slot_drivers-slot.ensures.step ▸ c.told_drivers-told.ensures.step)) (c.known_nets-known.ensures.known c.requires.known.0 c.requires.known.1 c.requires.known.2 c.requires.known.3 c.requires.known.4))

pub event_drivers-event-requires-clause-mids : goal.event_drivers-event-requires-clause-mids
event_drivers-event-requires-clause-mids c = (scope_of c.args.m.now, (things_from c.requires.known.0 c.args.wire c.args.reg c.args.execs.now c.requires.known.1 c.requires.known.2), mids_on (later (c.wire_drivers-wires.ensures.step ▸ c.state_drivers-state.ensures.step ▸ c.slot_drivers-slot.ensures.step ▸ c.told_drivers-told.ensures.step)) (c.mid_nets-mids.ensures.mids (scope_of c.args.m.now) (things_from c.requires.known.0 c.args.wire c.args.reg c.args.execs.now c.requires.known.1 c.requires.known.2) (c.known_nets-known.ensures.known c.requires.known.0 c.requires.known.1 c.requires.known.2 c.requires.known.3 c.requires.known.4)))

pub front_drivers-front-requires-clause-known : goal.front_drivers-front-requires-clause-known
front_drivers-front-requires-clause-known c = (scope_of c.args.m.now, (things_from c.requires.known.0 c.args.wire c.args.reg c.args.execs.now c.requires.known.1 c.requires.known.2), known_on (later (c.mid_nets-mids.ensures.step ▸ c.wire_drivers-wires.ensures.step ▸ c.state_drivers-state.ensures.step ▸ c.slot_drivers-slot.ensures.step ▸ c.told_drivers-told.ensures.step ▸ c.event_drivers-event.ensures.step)) (c.known_nets-known.ensures.known c.requires.known.0 c.requires.known.1 c.requires.known.2 c.requires.known.3 c.requires.known.4))

pub tail_nets-tail-requires-clause-known : goal.tail_nets-tail-requires-clause-known
tail_nets-tail-requires-clause-known c =
    let known = known_on (later (c.mid_nets-mids.ensures.step ▸ c.wire_drivers-wires.ensures.step ▸ c.state_drivers-state.ensures.step ▸ c.slot_drivers-slot.ensures.step ▸ c.told_drivers-told.ensures.step ▸ c.event_drivers-event.ensures.step)) (c.known_nets-known.ensures.known c.requires.known.0 c.requires.known.1 c.requires.known.2 c.requires.known.3 c.requires.known.4) in
    ((things_from c.requires.known.0 c.args.wire c.args.reg c.args.execs.now c.requires.known.1 c.requires.known.2), known_on (later c.front_drivers-front.ensures.step) known, c.front_drivers-front.ensures.drivers (scope_of c.args.m.now) (things_from c.requires.known.0 c.args.wire c.args.reg c.args.execs.now c.requires.known.1 c.requires.known.2) known)

pub returns-clause-nets : goal.returns-clause-nets
returns-clause-nets c = λ nodes x sh places offers are.
    let s = scope_of c.args.m.now in
    let p = things_from nodes c.args.wire c.args.reg c.args.execs.now x sh in
    let known = c.known_nets-known.ensures.known nodes x sh offers are in
    let mids = c.mid_nets-mids.ensures.mids s p known in
    let wires = c.wire_drivers-wires.ensures.drivers s p (known_on (later c.mid_nets-mids.ensures.step) known) mids in
    let state = c.state_drivers-state.ensures.drivers s p (known_on (later (c.mid_nets-mids.ensures.step ▸ c.wire_drivers-wires.ensures.step)) known) (mids_on (later c.wire_drivers-wires.ensures.step) mids) in
    let slot = c.slot_drivers-slot.ensures.drivers s p (known_on (later (c.mid_nets-mids.ensures.step ▸ c.wire_drivers-wires.ensures.step ▸ c.state_drivers-state.ensures.step)) known) (mids_on (later (c.wire_drivers-wires.ensures.step ▸ c.state_drivers-state.ensures.step)) mids) in
    let told = c.told_drivers-told.ensures.drivers s p (known_on (later (c.mid_nets-mids.ensures.step ▸ c.wire_drivers-wires.ensures.step ▸ c.state_drivers-state.ensures.step ▸ c.slot_drivers-slot.ensures.step)) known) (mids_on (later (c.wire_drivers-wires.ensures.step ▸ c.state_drivers-state.ensures.step ▸ c.slot_drivers-slot.ensures.step)) mids) in
    let event = c.event_drivers-event.ensures.drivers s p (known_on (later (c.mid_nets-mids.ensures.step ▸ c.wire_drivers-wires.ensures.step ▸ c.state_drivers-state.ensures.step ▸ c.slot_drivers-slot.ensures.step ▸ c.told_drivers-told.ensures.step)) known) (mids_on (later (c.wire_drivers-wires.ensures.step ▸ c.state_drivers-state.ensures.step ▸ c.slot_drivers-slot.ensures.step ▸ c.told_drivers-told.ensures.step)) mids) in
    let front = c.front_drivers-front.ensures.drivers s p (known_on (later (c.mid_nets-mids.ensures.step ▸ c.wire_drivers-wires.ensures.step ▸ c.state_drivers-state.ensures.step ▸ c.slot_drivers-slot.ensures.step ▸ c.told_drivers-told.ensures.step ▸ c.event_drivers-event.ensures.step)) known) in
    let tail = c.tail_nets-tail.ensures.tail p (ap (tail_from _) places) (known_on (later (c.mid_nets-mids.ensures.step ▸ c.wire_drivers-wires.ensures.step ▸ c.state_drivers-state.ensures.step ▸ c.slot_drivers-slot.ensures.step ▸ c.told_drivers-told.ensures.step ▸ c.event_drivers-event.ensures.step ▸ c.front_drivers-front.ensures.step)) known) front in
    record {
      known = known_on (later (c.mid_nets-mids.ensures.step ▸ c.wire_drivers-wires.ensures.step ▸ c.state_drivers-state.ensures.step ▸ c.slot_drivers-slot.ensures.step ▸ c.told_drivers-told.ensures.step ▸ c.event_drivers-event.ensures.step ▸ c.front_drivers-front.ensures.step ▸ c.tail_nets-tail.ensures.step ▸ c.end_nets-ends.ensures.step)) known;
      mids = mids_on (later (c.wire_drivers-wires.ensures.step ▸ c.state_drivers-state.ensures.step ▸ c.slot_drivers-slot.ensures.step ▸ c.told_drivers-told.ensures.step ▸ c.event_drivers-event.ensures.step ▸ c.front_drivers-front.ensures.step ▸ c.tail_nets-tail.ensures.step ▸ c.end_nets-ends.ensures.step)) mids;
      wires = drive_wires_on (later (c.state_drivers-state.ensures.step ▸ c.slot_drivers-slot.ensures.step ▸ c.told_drivers-told.ensures.step ▸ c.event_drivers-event.ensures.step ▸ c.front_drivers-front.ensures.step ▸ c.tail_nets-tail.ensures.step ▸ c.end_nets-ends.ensures.step)) wires;
      state = drive_state_on (later (c.slot_drivers-slot.ensures.step ▸ c.told_drivers-told.ensures.step ▸ c.event_drivers-event.ensures.step ▸ c.front_drivers-front.ensures.step ▸ c.tail_nets-tail.ensures.step ▸ c.end_nets-ends.ensures.step)) state;
      slot = drive_slot_on (later (c.told_drivers-told.ensures.step ▸ c.event_drivers-event.ensures.step ▸ c.front_drivers-front.ensures.step ▸ c.tail_nets-tail.ensures.step ▸ c.end_nets-ends.ensures.step)) slot;
      told = drive_told_on (later (c.event_drivers-event.ensures.step ▸ c.front_drivers-front.ensures.step ▸ c.tail_nets-tail.ensures.step ▸ c.end_nets-ends.ensures.step)) told;
      event = drive_event_on (later (c.front_drivers-front.ensures.step ▸ c.tail_nets-tail.ensures.step ▸ c.end_nets-ends.ensures.step)) event;
      front = drive_front_on (later (c.tail_nets-tail.ensures.step ▸ c.end_nets-ends.ensures.step)) front;
      tail = drive_tail_on (later c.end_nets-ends.ensures.step) tail;
      ends = c.end_nets-ends.ensures.ends p;
    }

pub returns-clause-step : goal.returns-clause-step
returns-clause-step c = let all = c.known_nets-known.ensures.step ▸ c.mid_nets-mids.ensures.step ▸ c.wire_drivers-wires.ensures.step ▸ c.state_drivers-state.ensures.step ▸ c.slot_drivers-slot.ensures.step ▸ c.told_drivers-told.ensures.step ▸ c.event_drivers-event.ensures.step ▸ c.front_drivers-front.ensures.step ▸ c.tail_nets-tail.ensures.step ▸ c.end_nets-ends.ensures.step in step_as _ _ _ _ (omega arith) all
