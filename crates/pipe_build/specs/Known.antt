-- What the pipeline reads, and what several of its drivers stand on, as nets with their functions.
use Rattle.std.specs.Prelude.{◌≡◌}
use Rattle.hw_pool.specs.Nodes.{PoolValue}
use Rattle.hw_pool.specs.Scope.{Scope}
use Rattle.service_ports.specs.declared.ports.FetchPorts.{FetchPorts}
use Rattle.service_ports.specs.declared.ports.DecoderPorts.{DecoderPorts}
use Rattle.service_ports.specs.declared.ports.HazardPorts.{HazardPorts}
use Rattle.pipe_steps.specs.Things.{PipeThings}
use Rattle.pipe_steps.specs.Values.{fetch_out, decode_out, hazard_out, system_out, unit_out, done_in, asked_in, through_in, faulty_in, wins_in, trap_cause_in, trap_value_in, event_in, fences_in, fresh_except_in, takes_in}
use Rattle.pipe_build.specs.declared.nets.RegNets.{RegNets}
use Rattle.pipe_build.specs.declared.nets.SlotNets.{SlotNets}
use Rattle.pipe_build.specs.declared.nets.WireNets.{WireNets}
use Rattle.pipe_build.specs.declared.nets.SystemNets.{SystemNets}
use Rattle.pipe_build.specs.declared.nets.UnitNets.{UnitNets}
use Rattle.pipe_build.specs.declared.nets.Known.{Known}
use Rattle.pipe_build.specs.declared.nets.Mids.{Mids}
use Rattle.pipe_build.specs.Bears.{Bears}

module _ (s : Scope) (pool : PoolValue) (p : PipeThings) where
  pub record IsSlot (n : SlotNets) : Type 0 where
    pub pc : Bears s pool 32 0 (λ env. env.regs p.own.pc) n.pc
    pub word : Bears s pool 32 0 (λ env. env.regs p.own.word) n.word
    pub error : Bears s pool 1 0 (λ env. env.regs p.own.error) n.error
    pub legal : Bears s pool 1 0 (λ env. env.regs p.own.legal) n.legal
    pub row : Bears s pool 7 0 (λ env. env.regs p.own.row) n.row
    pub except : Bears s pool 1 0 (λ env. env.regs p.own.except) n.except
    pub writes : Bears s pool 1 0 (λ env. env.regs p.own.writes) n.writes
    pub a : Bears s pool 32 0 (λ env. env.regs p.own.a) n.a
    pub b : Bears s pool 32 0 (λ env. env.regs p.own.b) n.b

  pub record AreRegs (n : RegNets) : Type 0 where
    pub apc : Bears s pool 32 0 (λ env. env.regs p.own.apc) n.apc
    pub flush : Bears s pool 1 0 (λ env. env.regs p.own.flush) n.flush
    pub flush_fence : Bears s pool 1 0 (λ env. env.regs p.own.flush_fence) n.flush_fence
    pub started : Bears s pool 1 0 (λ env. env.regs p.own.started) n.started
    pub stopped : Bears s pool 1 0 (λ env. env.regs p.own.stopped) n.stopped
    pub valid : Bears s pool 1 0 (λ env. env.regs p.own.valid) n.valid
    pub slot : IsSlot n.slot

  pub record AreWires (n : WireNets) : Type 0 where
    pub kill : Bears s pool 1 1 (λ env. env.wires p.wires.kill) n.kill
    pub irq : Bears s pool 1 2 (λ env. env.wires p.wires.irq) n.irq
    pub run : Bears s pool 1 3 (λ env. env.wires p.wires.run) n.run
    pub ends : Bears s pool 1 5 (λ env. env.wires p.wires.ends) n.ends
    pub retires : Bears s pool 1 6 (λ env. env.wires p.wires.retires) n.retires
    pub traps : Bears s pool 1 6 (λ env. env.wires p.wires.traps) n.traps
    pub writes : Bears s pool 1 7 (λ env. env.wires p.wires.writes) n.writes
    pub enters : Bears s pool 1 7 (λ env. env.wires p.wires.enters) n.enters

  pub record IsFetch (n : FetchPorts) : Type 0 where
    pub valid : Bears s pool 1 0 (λ env. fetch_out p env 0) n.valid
    pub pc : Bears s pool 32 0 (λ env. fetch_out p env 1) n.pc
    pub word : Bears s pool 32 0 (λ env. fetch_out p env 2) n.word
    pub error : Bears s pool 1 0 (λ env. fetch_out p env 3) n.error

  pub record IsDecoder (n : DecoderPorts) : Type 0 where
    pub legal : Bears s pool 1 1 (λ env. decode_out p env 0) n.legal
    pub row : Bears s pool 7 1 (λ env. decode_out p env 1) n.row
    pub unit : Bears s pool 5 1 (λ env. decode_out p env 2) n.unit
    pub uses_a : Bears s pool 1 1 (λ env. decode_out p env 3) n.uses_a
    pub uses_b : Bears s pool 1 1 (λ env. decode_out p env 4) n.uses_b
    pub writes : Bears s pool 1 1 (λ env. decode_out p env 5) n.writes

  pub record IsHazard (n : HazardPorts) : Type 0 where
    pub hold : Bears s pool 1 5 (λ env. hazard_out p env 0) n.hold
    pub a : Bears s pool 32 5 (λ env. hazard_out p env 1) n.a
    pub b : Bears s pool 32 5 (λ env. hazard_out p env 2) n.b

  pub record IsSystem (n : SystemNets) : Type 0 where
    pub there : p.shape.system ≡ n.there
    pub take_irq : Bears s pool 1 0 (λ env. system_out p env 0) n.take_irq
    pub irq_cause : Bears s pool 32 0 (λ env. system_out p env 1) n.irq_cause
    pub base : Bears s pool 32 0 (λ env. system_out p env 2) n.base

  pub record AreUnits (n : UnitNets) : Type 0 where
    pub done : Bears s pool 1 4 (λ env. done_in p env) n.done
    pub value : Bears s pool 32 4 (λ env. unit_out p env 1) n.value
    pub next_pc : Bears s pool 32 4 (λ env. unit_out p env 2) n.next_pc
    pub trap : Bears s pool 1 4 (λ env. unit_out p env 3) n.trap
    pub cause : Bears s pool 32 4 (λ env. unit_out p env 4) n.cause
    pub tval : Bears s pool 32 4 (λ env. unit_out p env 5) n.tval
    pub fence : Bears s pool 1 4 (λ env. unit_out p env 6) n.fence

  pub record IsKnown (n : Known) : Type 0 where
    pub regs : AreRegs n.regs
    pub wires : AreWires n.wires
    pub fetch : IsFetch n.fetch
    pub decoder : IsDecoder n.decoder
    pub hazard : IsHazard n.hazard
    pub system : IsSystem n.system
    pub units : AreUnits n.units

  pub record AreMids (n : Mids) : Type 0 where
    pub asked : Bears s pool 1 0 (λ env. asked_in p env) n.asked
    pub through : Bears s pool 1 4 (λ env. through_in p env) n.through
    pub faulty : Bears s pool 1 4 (λ env. faulty_in p env) n.faulty
    pub wins : Bears s pool 1 4 (λ env. wins_in p env) n.wins
    pub cause : Bears s pool 32 4 (λ env. trap_cause_in p env) n.cause
    pub tval : Bears s pool 32 4 (λ env. trap_value_in p env) n.tval
    pub event : Bears s pool 1 5 (λ env. event_in p env) n.event
    pub fences : Bears s pool 1 6 (λ env. fences_in p env) n.fences
    pub fresh_except : Bears s pool 1 1 (λ env. fresh_except_in p env) n.fresh_except
    pub takes : Bears s pool 1 7 (λ env. takes_in p env) n.takes
