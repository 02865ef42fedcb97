-- What is known, as nets are carried on.
use Rattle.hw_pool.specs.Nodes.{PoolValue}
use Rattle.hw_pool.specs.Scope.{Scope}
use Rattle.pipe_build.specs.declared.nets.SlotNets.{SlotNets}
use Rattle.pipe_build.specs.declared.nets.RegNets.{RegNets}
use Rattle.pipe_build.specs.declared.nets.WireNets.{WireNets}
use Rattle.service_ports.specs.declared.ports.FetchPorts.{FetchPorts}
use Rattle.service_ports.specs.declared.ports.DecoderPorts.{DecoderPorts}
use Rattle.service_ports.specs.declared.ports.HazardPorts.{HazardPorts}
use Rattle.pipe_build.specs.declared.nets.SystemNets.{SystemNets}
use Rattle.pipe_build.specs.declared.nets.UnitNets.{UnitNets}
use Rattle.pipe_build.specs.declared.nets.Known.{Known}
use Rattle.pipe_build.specs.declared.nets.Mids.{Mids}
use Rattle.pipe_steps.specs.Things.{PipeThings}
use Rattle.pipe_build.specs.Known.{IsSlot, AreRegs, AreWires, IsFetch, IsDecoder, IsHazard, IsSystem, AreUnits, IsKnown, AreMids}
use Rattle.pipe_build.specs.Bears.{Later}
use Rattle.pipe_build.proofs.Bears.{bears_later}

module _ {s t : Scope} {p : PipeThings} {old new : PoolValue} (on : Later s old t new) where
  pub slot_on : {x : SlotNets} → IsSlot s old p x → IsSlot t new p x
  slot_on h = record { pc = bears_later on h.pc; word = bears_later on h.word; error = bears_later on h.error; legal = bears_later on h.legal; row = bears_later on h.row; except = bears_later on h.except; writes = bears_later on h.writes; a = bears_later on h.a; b = bears_later on h.b }

  pub regs_on : {x : RegNets} → AreRegs s old p x → AreRegs t new p x
  regs_on h = record { apc = bears_later on h.apc; flush = bears_later on h.flush; flush_fence = bears_later on h.flush_fence; started = bears_later on h.started; stopped = bears_later on h.stopped; valid = bears_later on h.valid; slot = slot_on h.slot }

  pub wires_on : {x : WireNets} → AreWires s old p x → AreWires t new p x
  wires_on h = record { kill = bears_later on h.kill; irq = bears_later on h.irq; run = bears_later on h.run; ends = bears_later on h.ends; retires = bears_later on h.retires; traps = bears_later on h.traps; writes = bears_later on h.writes; enters = bears_later on h.enters }

  pub fetch_on : {x : FetchPorts} → IsFetch s old p x → IsFetch t new p x
  fetch_on h = record { valid = bears_later on h.valid; pc = bears_later on h.pc; word = bears_later on h.word; error = bears_later on h.error }

  pub decoder_on : {x : DecoderPorts} → IsDecoder s old p x → IsDecoder t new p x
  decoder_on h = record { legal = bears_later on h.legal; row = bears_later on h.row; unit = bears_later on h.unit; uses_a = bears_later on h.uses_a; uses_b = bears_later on h.uses_b; writes = bears_later on h.writes }

  pub hazard_on : {x : HazardPorts} → IsHazard s old p x → IsHazard t new p x
  hazard_on h = record { hold = bears_later on h.hold; a = bears_later on h.a; b = bears_later on h.b }

  pub system_on : {x : SystemNets} → IsSystem s old p x → IsSystem t new p x
  system_on h = record { there = h.there; take_irq = bears_later on h.take_irq; irq_cause = bears_later on h.irq_cause; base = bears_later on h.base }

  pub units_on : {x : UnitNets} → AreUnits s old p x → AreUnits t new p x
  units_on h = record { done = bears_later on h.done; value = bears_later on h.value; next_pc = bears_later on h.next_pc; trap = bears_later on h.trap; cause = bears_later on h.cause; tval = bears_later on h.tval; fence = bears_later on h.fence }

  pub known_on : {x : Known} → IsKnown s old p x → IsKnown t new p x
  known_on h = record { regs = regs_on h.regs; wires = wires_on h.wires; fetch = fetch_on h.fetch; decoder = decoder_on h.decoder; hazard = hazard_on h.hazard; system = system_on h.system; units = units_on h.units }

  pub mids_on : {x : Mids} → AreMids s old p x → AreMids t new p x
  mids_on h = record { asked = bears_later on h.asked; through = bears_later on h.through; faulty = bears_later on h.faulty; wins = bears_later on h.wins; cause = bears_later on h.cause; tval = bears_later on h.tval; event = bears_later on h.event; fences = bears_later on h.fences; fresh_except = bears_later on h.fresh_except; takes = bears_later on h.takes }
