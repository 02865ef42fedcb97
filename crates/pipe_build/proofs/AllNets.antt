-- All nets of the pipeline, as nets are carried on.
use Rattle.std.proofs.Common.{ℕ}
use Rattle.hw_pool.specs.Nodes.{PoolValue}
use Rattle.hw_pool.specs.Scope.{Scope}
use Rattle.pipe_steps.specs.Things.{PipeThings}
use Rattle.pipe_build.specs.declared.nets.TailNets.{TailNets}
use Rattle.pipe_build.specs.declared.nets.EndNets.{EndNets}
use Rattle.pipe_build.specs.declared.nets.PipeNets.{PipeNets}
use Rattle.pipe_build.specs.AllNets.{AreNets, DriveEnds, DriveTail}
use Rattle.pipe_build.specs.Bears.{Later}
use Rattle.pipe_build.proofs.Bears.{bears_later}
use Rattle.pipe_build.proofs.DrivenBy.{drive_event_on, drive_front_on, drive_slot_on, drive_state_on, drive_told_on, drive_wires_on}
use Rattle.pipe_build.proofs.Known.{known_on, mids_on}
use Rattle.pipe_build.proofs.Late.{late_on, stage_on}

module _ {s t : Scope} {p : PipeThings} {old new : PoolValue} (on : Later s old t new) where
  pub drive_tail_on : {x : TailNets} → DriveTail s old p x → DriveTail t new p x
  drive_tail_on h = record { made = late_on on h.made; leaving_is = late_on on h.leaving_is; enable = bears_later on h.enable; second = stage_on on h.second; third = stage_on on h.third }

  drive_ends_on : {take : ℕ} {x : EndNets} → DriveEnds s old p take x → DriveEnds t new p take x
  drive_ends_on h = record { take_is = bears_later on h.take_is; bit = bears_later on h.bit; mask = bears_later on h.mask; word = bears_later on h.word }

  pub nets_on : {take : ℕ} {x : PipeNets} → AreNets s old p take x → AreNets t new p take x
  nets_on h = record {
    known = known_on on h.known;
    mids = mids_on on h.mids;
    wires = drive_wires_on on h.wires;
    state = drive_state_on on h.state;
    slot = drive_slot_on on h.slot;
    told = drive_told_on on h.told;
    event = drive_event_on on h.event;
    front = drive_front_on on h.front;
    tail = drive_tail_on h.tail;
    ends = drive_ends_on h.ends;
  }
