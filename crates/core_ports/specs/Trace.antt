-- What a run of a core shows on its ports.
use Rattle.std.specs.Prelude.{ℕ, zero, suc, ◌+◌, ◌*◌, ◌^◌, Bool, false, eqb, List}
use Rattle.core_ports.specs.Ports.{CorePort, name_of, ib_cmd_valid, ib_cmd_ready, ib_cmd_addr, ib_rsp_valid, ib_rsp_error, ib_rsp_data, db_cmd_valid, db_cmd_ready, db_cmd_write, db_cmd_addr, db_cmd_data, db_cmd_mask, db_rsp_valid, db_rsp_error, db_rsp_data, irq_software, irq_timer, irq_external, ev_valid, ev_kind, ev_pc, ev_word, ev_rd, ev_value, ev_cause}

-- the value of each name, inputs too, in each cycle from 0 on; `reset` is 1 in cycle 0
abbrev pub Trace : Type 0
Trace = ℕ → List ℕ → ℕ

-- the value of a port in a cycle
abbrev pub on_port : Trace → CorePort → ℕ → ℕ
on_port run p k = run k (name_of p)

-- the signals of one bus, by cycle
pub record Bus : Type 0 where
  pub cmd_valid : ℕ → ℕ
  pub cmd_ready : ℕ → ℕ
  pub cmd_write : ℕ → ℕ
  pub cmd_addr : ℕ → ℕ
  pub cmd_data : ℕ → ℕ
  pub cmd_mask : ℕ → ℕ
  pub rsp_valid : ℕ → ℕ
  pub rsp_error : ℕ → ℕ
  pub rsp_data : ℕ → ℕ

-- the instruction bus, whose commands are reads
abbrev pub instruction_bus : Trace → Bus
instruction_bus run = record {
  cmd_valid = on_port run ib_cmd_valid;
  cmd_ready = on_port run ib_cmd_ready;
  cmd_write = λ k. 0;
  cmd_addr = on_port run ib_cmd_addr;
  cmd_data = λ k. 0;
  cmd_mask = λ k. 0;
  rsp_valid = on_port run ib_rsp_valid;
  rsp_error = on_port run ib_rsp_error;
  rsp_data = on_port run ib_rsp_data;
}

abbrev pub data_bus : Trace → Bus
data_bus run = record {
  cmd_valid = on_port run db_cmd_valid;
  cmd_ready = on_port run db_cmd_ready;
  cmd_write = on_port run db_cmd_write;
  cmd_addr = on_port run db_cmd_addr;
  cmd_data = on_port run db_cmd_data;
  cmd_mask = on_port run db_cmd_mask;
  rsp_valid = on_port run db_rsp_valid;
  rsp_error = on_port run db_rsp_error;
  rsp_data = on_port run db_rsp_data;
}

-- the interrupt inputs that are 1 in a cycle, as a number with bits 3 (software), 7 (timer) and 11 (external)
abbrev pub lines_at : Trace → ℕ → ℕ
lines_at run k = on_port run irq_software k * 2 ^ 3 + on_port run irq_timer k * 2 ^ 7 + on_port run irq_external k * 2 ^ 11

-- an event as the ports tell it. kind is 0 for a retirement, 1 for a trap, 2 for an interrupt, 3 for a trap that stops the core
pub record PortEvent : Type 0 where
  pub kind : ℕ
  pub pc : ℕ
  pub word : ℕ
  pub rd : ℕ
  pub value : ℕ
  pub cause : ℕ

abbrev pub port_event : Trace → ℕ → PortEvent
port_event run k = record {
  kind = on_port run ev_kind k;
  pc = on_port run ev_pc k;
  word = on_port run ev_word k;
  rd = on_port run ev_rd k;
  value = on_port run ev_value k;
  cause = on_port run ev_cause k;
}

-- whether a cycle has an event; outputs in cycle 0 count as nothing
unfoldable pub has_event : Trace → ℕ → Bool
has_event run zero = false
has_event run (suc k) = eqb (on_port run ev_valid (suc k)) 1
