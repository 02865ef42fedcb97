-- What the pipeline has driven when it is built: each of its registers and forward wires, each input of a service but Predict's, and
-- each output of the core but those of the buses' commands.
use Rattle.std.specs.Prelude.{◌≡◌, ℕ, ◌+◌, ◌<◌, false, List, [], ◌∷◌, length, All, Option, None, Some}
use Rattle.hw_pool.specs.declared.node.Node.{Node}
use Rattle.hw_pool.specs.Meaning.{Env}
use Rattle.core_words.specs.Fields.{rs1_of, rs2_of}
use Rattle.hw_module.specs.Rows.{ModuleValue, wire_at, reg_at, out_at}
use Rattle.plug_part.specs.Part.{PortTrees}
use Rattle.plug_part.specs.Of.{tree_option}
use Rattle.plug_part.specs.Things.{IsDriven}
use Rattle.part_laws.specs.Joined.{ports_in}
use Rattle.part_laws.specs.Pipes.{LateOwn}
use Rattle.pipe_nets.specs.Entry.{fresh_word_of, fresh_writes_of}
use Rattle.pipe_nets.specs.Told.{kind_of, told_word_of, told_rd_of, told_value_of, told_cause_of, sys_cause_of, sys_value_of}
use Rattle.pipe_steps.specs.Equations.{fetch_fence_of, we_of}
use Rattle.pipe_steps.specs.Things.{PipeUnit, PipeThings}
use Rattle.pipe_steps.specs.Values.{LateValue, StageValue, in_of, fetch_out, decode_out, hazard_out, system_out, unit_out, kill_in, asked_in, irq_in, run_in, ends_in, retires_in, traps_in, writes_in, enters_in, faulty_in, event_in, trap_cause_in, trap_value_in, tells_in, apc_next, fences_in, flush_next, started_next, stopped_next, takes_in, valid_next, fresh_except_in, slot_next, chosen_next, made_late_in, front_stage, go_in, clear_in, told_kind_in, late_in, leaving, place_stage, places_behind}

module _ (m : ModuleValue) (nodes : List Node) where
  -- a register of this width, with this reset, and its next value in each cycle
  pub record RegHas (reg width : ℕ) (reset : Option ℕ) (f : Env → ℕ) : Type 0 where
    pub there : reg < length m.regs
    pub wide : (reg_at m.regs reg).width ≡ width
    pub reset_is : (reg_at m.regs reg).reset ≡ reset
    pub driven : IsDriven (tree_option nodes (reg_at m.regs reg).next) f

  -- a forward wire with its value
  pub record WireHas (wire : ℕ) (f : Env → ℕ) : Type 0 where
    pub there : wire < length m.wires
    pub driven : IsDriven (tree_option nodes (wire_at m.wires wire).driver) f

  -- an output of the core, by the number of its port
  abbrev pub OutHas : (port : ℕ) → (Env → ℕ) → Type 0
  OutHas port f = IsDriven (tree_option nodes (out_at m.outs port)) f

  -- an input of ports
  abbrev pub InHas : PortTrees → (place : ℕ) → (Env → ℕ) → Type 0
  InHas o i f = WireHas (in_of o i) f

  -- one stage of Hazard: four inputs, from a place on
  pub record StageHas (o : PortTrees) (place : ℕ) (f : Env → StageValue) : Type 0 where
    pub writes : InHas o place (λ env. (f env).writes)
    pub rd : InHas o (place + 1) (λ env. (f env).rd)
    pub ready : InHas o (place + 2) (λ env. (f env).ready)
    pub value : InHas o (place + 3) (λ env. (f env).value)

  -- one place of the tail: what enters it
  pub record LateHas (t : LateOwn) (f : Env → LateValue) : Type 0 where
    pub writes : RegHas t.writes 1 (Some 0) (λ env. (f env).writes)
    pub rd : RegHas t.rd 5 None (λ env. (f env).rd)
    pub value : RegHas t.value 32 None (λ env. (f env).value)

  -- all places: what enters each is what the one before it holds
  abbrev pub TailHas : (Env → LateValue) → List LateOwn → Type 0
  TailHas f [] = Unit {0}
  TailHas f (t ∷ ts) = LateHas t f × TailHas (λ env. late_in env t) ts

  module _ (p : PipeThings) where
    pub record DrivesWires : Type 0 where
      pub kill : WireHas p.wires.kill (kill_in p)
      pub irq : WireHas p.wires.irq (irq_in p)
      pub run : WireHas p.wires.run (run_in p)
      pub ends : WireHas p.wires.ends (ends_in p)
      pub retires : WireHas p.wires.retires (retires_in p)
      pub traps : WireHas p.wires.traps (traps_in p)
      pub writes : WireHas p.wires.writes (writes_in p)
      pub enters : WireHas p.wires.enters (enters_in p)

    pub record DrivesRegs : Type 0 where
      pub apc : RegHas p.own.apc 32 (Some p.shape.reset_pc) (apc_next p)
      pub flush : RegHas p.own.flush 1 (Some 0) (flush_next p)
      pub flush_fence : RegHas p.own.flush_fence 1 (Some 0) (fences_in p)
      pub started : RegHas p.own.started 1 (Some 0) (started_next p)
      pub stopped : RegHas p.own.stopped 1 (Some 0) (stopped_next p)
      pub valid : RegHas p.own.valid 1 (Some 0) (valid_next p)

    -- the registers of the item in front
    pub record DrivesSlot : Type 0 where
      pub pc : RegHas p.own.pc 32 None (λ env. slot_next p env p.own.pc (fetch_out p env 1))
      pub word : RegHas p.own.word 32 None (λ env. slot_next p env p.own.word (fresh_word_of (fetch_out p env 3) (fetch_out p env 2)))
      pub error : RegHas p.own.error 1 None (λ env. slot_next p env p.own.error (fetch_out p env 3))
      pub legal : RegHas p.own.legal 1 None (λ env. slot_next p env p.own.legal (decode_out p env 0))
      pub row : RegHas p.own.row 7 None (λ env. slot_next p env p.own.row (decode_out p env 1))
      pub except : RegHas p.own.except 1 None (λ env. slot_next p env p.own.except (fresh_except_in p env))
      pub writes : RegHas p.own.writes 1 None (λ env. slot_next p env p.own.writes (fresh_writes_of (decode_out p env 5) (decode_out p env 0) (fetch_out p env 3)))
      pub a : RegHas p.own.a 32 None (λ env. slot_next p env p.own.a (hazard_out p env 1))
      pub b : RegHas p.own.b 32 None (λ env. slot_next p env p.own.b (hazard_out p env 2))

    pub record DrivesFetch : Type 0 where
      pub take : InHas p.services.fetch.1 0 (takes_in p)
      pub redirect : InHas p.services.fetch.1 1 (λ env. env.wires p.wires.kill)
      pub redirect_pc : InHas p.services.fetch.1 2 (λ env. env.regs p.own.apc)
      pub fence : InHas p.services.fetch.1 3 (λ env. fetch_fence_of (env.wires p.wires.kill) (env.regs p.own.flush_fence))

    -- Decoder and RegFile
    pub record DrivesDecode : Type 0 where
      pub word : InHas p.services.decoder.1 0 (λ env. fetch_out p env 2)
      pub ra : InHas p.services.regs.1 0 (λ env. rs1_of (fetch_out p env 2))
      pub rb : InHas p.services.regs.1 1 (λ env. rs2_of (fetch_out p env 2))
      pub we : InHas p.services.regs.1 2 (λ env. we_of (env.inputs 1) (leaving env (made_late_in p env) p.own.tail).writes)
      pub wa : InHas p.services.regs.1 3 (λ env. (leaving env (made_late_in p env) p.own.tail).rd)
      pub wd : InHas p.services.regs.1 4 (λ env. (leaving env (made_late_in p env) p.own.tail).value)

    pub record DrivesHazard : Type 0 where
      pub first : StageHas p.services.hazard.1 0 (front_stage p)
      pub second : StageHas p.services.hazard.1 4 (λ env. place_stage env p.own.tail)
      pub third : StageHas p.services.hazard.1 8 (λ env. place_stage env (places_behind p.own.tail))
      pub ra : InHas p.services.hazard.1 12 (λ env. rs1_of (fetch_out p env 2))
      pub rb : InHas p.services.hazard.1 13 (λ env. rs2_of (fetch_out p env 2))
      pub uses_a : InHas p.services.hazard.1 14 (λ env. decode_out p env 3)
      pub uses_b : InHas p.services.hazard.1 15 (λ env. decode_out p env 4)

    -- the register and the inputs of one unit
    pub record DrivesUnit (u : PipeUnit) : Type 0 where
      pub chosen : RegHas u.chosen 1 None (λ env. chosen_next p env u)
      pub go : InHas u.ports 0 (λ env. go_in p env u)
      pub row : InHas u.ports 1 (λ env. env.regs p.own.row)
      pub pc : InHas u.ports 2 (λ env. env.regs p.own.pc)
      pub word : InHas u.ports 3 (λ env. env.regs p.own.word)
      pub a : InHas u.ports 4 (λ env. env.regs p.own.a)
      pub b : InHas u.ports 5 (λ env. env.regs p.own.b)
      pub clear : InHas u.ports 6 (λ env. clear_in p env u)

    pub record DrivesSystem (o : PortTrees) : Type 0 where
      pub event : InHas o 0 (event_in p)
      pub kind : InHas o 1 (λ env. kind_of (asked_in p env) (faulty_in p env))
      pub pc : InHas o 2 (λ env. env.regs p.own.apc)
      pub cause : InHas o 3 (λ env. sys_cause_of (asked_in p env) (system_out p env 1) (trap_cause_in p env))
      pub tval : InHas o 4 (λ env. sys_value_of (asked_in p env) (trap_value_in p env))

    -- the outputs that tell events and what Fetch offers; take is read back from its forward wire
    pub record DrivesOuts : Type 0 where
      pub ev_valid : OutHas 20 (event_in p)
      pub ev_kind : OutHas 21 (told_kind_in p)
      pub ev_pc : OutHas 22 (λ env. env.regs p.own.apc)
      pub ev_word : OutHas 23 (λ env. told_word_of (asked_in p env) (env.regs p.own.word))
      pub ev_rd : OutHas 24 (λ env. told_rd_of (tells_in p env) (env.regs p.own.word))
      pub ev_value : OutHas 25 (λ env. told_value_of (tells_in p env) (unit_out p env 1))
      pub ev_cause : OutHas 26 (λ env. told_cause_of (asked_in p env) (system_out p env 1) (faulty_in p env) (trap_cause_in p env))
      pub fe_valid : OutHas 27 (λ env. fetch_out p env 0)
      pub fe_take : OutHas 28 (λ env. env.wires (in_of p.services.fetch.1 0))
      pub fe_pc : OutHas 29 (λ env. fetch_out p env 1)

    -- the command of the data bus, where no entry offers DataBus
    pub record DrivesNoBus : Type 0 where
      pub cmd_valid : OutHas 8 (λ env. 0)
      pub cmd_write : OutHas 10 (λ env. 0)
      pub cmd_addr : OutHas 11 (λ env. 0)
      pub cmd_data : OutHas 12 (λ env. 0)
      pub cmd_mask : OutHas 13 (λ env. 0)

    pub record PipeDrives : Type 0 where
      pub wires : DrivesWires
      pub regs : DrivesRegs
      pub slot : DrivesSlot
      pub tail : TailHas (made_late_in p) p.own.tail
      pub long : length p.own.tail + 2 ≡ p.shape.stages
      pub fetch : DrivesFetch
      pub decode : DrivesDecode
      pub hazard : DrivesHazard
      pub units : All DrivesUnit p.units
      pub system : (o : PortTrees) → ports_in p.services.system ≡ Some o → DrivesSystem o
      pub outs : DrivesOuts
      pub no_bus : p.shape.holds ≡ false → DrivesNoBus
