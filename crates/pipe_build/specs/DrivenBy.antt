-- What the pipeline drives things with, as nets with their functions.
use Rattle.hw_pool.specs.Nodes.{PoolValue}
use Rattle.hw_pool.specs.Scope.{Scope}
use Rattle.core_words.specs.Fields.{rd_of, rs1_of, rs2_of}
use Rattle.pipe_nets.specs.Entry.{fresh_word_of, fresh_writes_of}
use Rattle.pipe_nets.specs.Told.{kind_of, sys_cause_of, sys_value_of, told_cause_of, told_rd_of, told_value_of, told_word_of}
use Rattle.pipe_steps.specs.Equations.{fetch_fence_of, front_writes_of}
use Rattle.pipe_steps.specs.Things.{PipeThings}
use Rattle.pipe_steps.specs.Values.{fetch_out, decode_out, hazard_out, system_out, unit_out, kill_in, irq_in, run_in, ends_in, retires_in, traps_in, writes_in, enters_in, asked_in, faulty_in, tells_in, told_kind_in, trap_cause_in, trap_value_in, apc_next, flush_next, started_next, stopped_next, valid_next, slot_next, fresh_except_in}
use Rattle.pipe_build.specs.declared.nets.WireNets.{WireNets}
use Rattle.pipe_build.specs.declared.nets.SlotNets.{SlotNets}
use Rattle.pipe_build.specs.declared.nets.StateNets.{StateNets}
use Rattle.pipe_build.specs.declared.nets.ToldNets.{ToldNets}
use Rattle.pipe_build.specs.declared.nets.EventNets.{EventNets}
use Rattle.pipe_build.specs.declared.nets.FrontNets.{FrontNets}
use Rattle.pipe_build.specs.Bears.{Bears}

module _ (s : Scope) (pool : PoolValue) (p : PipeThings) where
  -- of the forward wires
  pub record DriveWires (n : WireNets) : Type 0 where
    pub kill : Bears s pool 1 0 (λ env. kill_in p env) n.kill
    pub irq : Bears s pool 1 1 (λ env. irq_in p env) n.irq
    pub run : Bears s pool 1 0 (λ env. run_in p env) n.run
    pub ends : Bears s pool 1 4 (λ env. ends_in p env) n.ends
    pub retires : Bears s pool 1 5 (λ env. retires_in p env) n.retires
    pub traps : Bears s pool 1 5 (λ env. traps_in p env) n.traps
    pub writes : Bears s pool 1 5 (λ env. writes_in p env) n.writes
    pub enters : Bears s pool 1 4 (λ env. enters_in p env) n.enters

  -- of the registers
  pub record DriveState (n : StateNets) : Type 0 where
    pub apc : Bears s pool 32 5 (λ env. apc_next p env) n.apc
    pub flush : Bears s pool 1 6 (λ env. flush_next p env) n.flush
    pub started : Bears s pool 1 5 (λ env. started_next p env) n.started
    pub stopped : Bears s pool 1 6 (λ env. stopped_next p env) n.stopped
    pub valid : Bears s pool 1 8 (λ env. valid_next p env) n.valid

  pub record DriveSlot (n : SlotNets) : Type 0 where
    pub pc : Bears s pool 32 7 (λ env. slot_next p env p.own.pc (fetch_out p env 1)) n.pc
    pub word : Bears s pool 32 7 (λ env. slot_next p env p.own.word (fresh_word_of (fetch_out p env 3) (fetch_out p env 2))) n.word
    pub error : Bears s pool 1 7 (λ env. slot_next p env p.own.error (fetch_out p env 3)) n.error
    pub legal : Bears s pool 1 7 (λ env. slot_next p env p.own.legal (decode_out p env 0)) n.legal
    pub row : Bears s pool 7 7 (λ env. slot_next p env p.own.row (decode_out p env 1)) n.row
    pub except : Bears s pool 1 7 (λ env. slot_next p env p.own.except (fresh_except_in p env)) n.except
    pub writes : Bears s pool 1 7 (λ env. slot_next p env p.own.writes (fresh_writes_of (decode_out p env 5) (decode_out p env 0) (fetch_out p env 3))) n.writes
    pub a : Bears s pool 32 7 (λ env. slot_next p env p.own.a (hazard_out p env 1)) n.a
    pub b : Bears s pool 32 7 (λ env. slot_next p env p.own.b (hazard_out p env 2)) n.b

  -- of the outputs of the core that tell events
  pub record DriveTold (n : ToldNets) : Type 0 where
    pub kind : Bears s pool 2 4 (λ env. told_kind_in p env) n.kind
    pub word : Bears s pool 32 0 (λ env. told_word_of (asked_in p env) (env.regs p.own.word)) n.word
    pub rd : Bears s pool 5 4 (λ env. told_rd_of (tells_in p env) (env.regs p.own.word)) n.rd
    pub value : Bears s pool 32 4 (λ env. told_value_of (tells_in p env) (unit_out p env 1)) n.value
    pub cause : Bears s pool 32 4 (λ env. told_cause_of (asked_in p env) (system_out p env 1) (faulty_in p env) (trap_cause_in p env)) n.cause

  -- of inputs of System
  pub record DriveEvent (n : EventNets) : Type 0 where
    pub kind : Bears s pool 2 4 (λ env. kind_of (asked_in p env) (faulty_in p env)) n.kind
    pub cause : Bears s pool 32 4 (λ env. sys_cause_of (asked_in p env) (system_out p env 1) (trap_cause_in p env)) n.cause
    pub tval : Bears s pool 32 4 (λ env. sys_value_of (asked_in p env) (trap_value_in p env)) n.tval

  -- of inputs of Fetch, RegFile and Hazard
  pub record DriveFront (n : FrontNets) : Type 0 where
    pub fence : Bears s pool 1 1 (λ env. fetch_fence_of (env.wires p.wires.kill) (env.regs p.own.flush_fence)) n.fence
    pub ra : Bears s pool 5 0 (λ env. rs1_of (fetch_out p env 2)) n.ra
    pub rb : Bears s pool 5 0 (λ env. rs2_of (fetch_out p env 2)) n.rb
    pub rd : Bears s pool 5 0 (λ env. rd_of (env.regs p.own.word)) n.rd
    pub writes : Bears s pool 1 0 (λ env. front_writes_of (env.regs p.own.valid) (env.regs p.own.writes)) n.writes
