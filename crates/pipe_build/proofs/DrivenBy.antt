-- What drives things, as nets are carried on.
use Rattle.hw_pool.specs.Nodes.{PoolValue}
use Rattle.hw_pool.specs.Scope.{Scope}
use Rattle.pipe_build.specs.declared.nets.WireNets.{WireNets}
use Rattle.pipe_build.specs.declared.nets.StateNets.{StateNets}
use Rattle.pipe_build.specs.declared.nets.SlotNets.{SlotNets}
use Rattle.pipe_build.specs.declared.nets.ToldNets.{ToldNets}
use Rattle.pipe_build.specs.declared.nets.EventNets.{EventNets}
use Rattle.pipe_build.specs.declared.nets.FrontNets.{FrontNets}
use Rattle.pipe_steps.specs.Things.{PipeThings}
use Rattle.pipe_build.specs.DrivenBy.{DriveWires, DriveState, DriveSlot, DriveTold, DriveEvent, DriveFront}
use Rattle.pipe_build.specs.Bears.{Later}
use Rattle.pipe_build.proofs.Bears.{bears_later}

module _ {s t : Scope} {p : PipeThings} {old new : PoolValue} (on : Later s old t new) where
  pub drive_wires_on : {x : WireNets} → DriveWires s old p x → DriveWires t new p x
  drive_wires_on h = record { kill = bears_later on h.kill; irq = bears_later on h.irq; run = bears_later on h.run; ends = bears_later on h.ends; retires = bears_later on h.retires; traps = bears_later on h.traps; writes = bears_later on h.writes; enters = bears_later on h.enters }

  pub drive_state_on : {x : StateNets} → DriveState s old p x → DriveState t new p x
  drive_state_on h = record { apc = bears_later on h.apc; flush = bears_later on h.flush; started = bears_later on h.started; stopped = bears_later on h.stopped; valid = bears_later on h.valid }

  pub drive_slot_on : {x : SlotNets} → DriveSlot s old p x → DriveSlot t new p x
  drive_slot_on h = record { pc = bears_later on h.pc; word = bears_later on h.word; error = bears_later on h.error; legal = bears_later on h.legal; row = bears_later on h.row; except = bears_later on h.except; writes = bears_later on h.writes; a = bears_later on h.a; b = bears_later on h.b }

  pub drive_told_on : {x : ToldNets} → DriveTold s old p x → DriveTold t new p x
  drive_told_on h = record { kind = bears_later on h.kind; word = bears_later on h.word; rd = bears_later on h.rd; value = bears_later on h.value; cause = bears_later on h.cause }

  pub drive_event_on : {x : EventNets} → DriveEvent s old p x → DriveEvent t new p x
  drive_event_on h = record { kind = bears_later on h.kind; cause = bears_later on h.cause; tval = bears_later on h.tval }

  pub drive_front_on : {x : FrontNets} → DriveFront s old p x → DriveFront t new p x
  drive_front_on h = record { fence = bears_later on h.fence; ra = bears_later on h.ra; rb = bears_later on h.rb; rd = bears_later on h.rd; writes = bears_later on h.writes }
