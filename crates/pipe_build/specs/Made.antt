-- The rows of the pipeline's own things.
use Rattle.std.specs.Prelude.{◌≡◌, ℕ, ◌<◌, length}
use Rattle.hw_module.specs.Rows.{ModuleValue, reg_at, wire_at}
use Rattle.part_laws.specs.Pipes.{PipeOwn}
use Rattle.pipe_steps.specs.Things.{PipeWires}

module _ (m : ModuleValue) where
  -- a register of this width
  pub record IsReg (reg width : ℕ) : Type 0 where
    pub there : reg < length m.regs
    pub wide : (reg_at m.regs reg).width ≡ width

  -- a forward wire of one bit and this level
  pub record IsWire (wire level : ℕ) : Type 0 where
    pub there : wire < length m.wires
    pub wide : (wire_at m.wires wire).width ≡ 1
    pub level_is : (wire_at m.wires wire).level ≡ level

  pub record HasSlot (o : PipeOwn) : Type 0 where
    pub pc : IsReg o.pc 32
    pub word : IsReg o.word 32
    pub error : IsReg o.error 1
    pub legal : IsReg o.legal 1
    pub row : IsReg o.row 7
    pub except : IsReg o.except 1
    pub writes : IsReg o.writes 1
    pub a : IsReg o.a 32
    pub b : IsReg o.b 32

  pub record HasRegs (o : PipeOwn) : Type 0 where
    pub apc : IsReg o.apc 32
    pub flush : IsReg o.flush 1
    pub flush_fence : IsReg o.flush_fence 1
    pub started : IsReg o.started 1
    pub stopped : IsReg o.stopped 1
    pub valid : IsReg o.valid 1
    pub slot : HasSlot o

  pub record HasWires (w : PipeWires) : Type 0 where
    pub kill : IsWire w.kill 1
    pub irq : IsWire w.irq 2
    pub run : IsWire w.run 3
    pub ends : IsWire w.ends 5
    pub retires : IsWire w.retires 6
    pub traps : IsWire w.traps 6
    pub writes : IsWire w.writes 7
    pub enters : IsWire w.enters 7
