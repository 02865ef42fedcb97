-- A core and its two buses, cycle by cycle: each is given what the other drives. The buses answer as one
-- memory after delays, the interrupt lines are given by cycle, and the clock's own value is 0.
use Rattle.std.specs.Prelude.{ℕ, zero, suc, eqb, List, Some}
use Rattle.core_words.specs.Values.{bits_of, one_if}
use Rattle.core_ports.specs.Ports.{CorePort, all_ports, name_of}
use Rattle.core_ports.specs.Ports as port
use Rattle.core_ports.specs.Trace.{Trace}
use Rattle.bus_law.specs.declared.signals.BusIn.{BusIn}
use Rattle.bus_law.specs.declared.signals.BusOut.{BusOut}
use Rattle.bus_law.specs.Memory.{Memory}
use Rattle.bus_law.specs.Answers.{State as BusState, state_at_start, driven, stepped}
use Rattle.verilog_mean.specs.Look.{look, or_else}
use Rattle.verilog_mean.specs.Plain.{Plain}
use Rattle.verilog_mean.specs.Cycle.{State, value, next}
use Rattle.verilog_mean.specs.Run.{Inputs, trace_of}

-- ---- what each drives

-- what a port of the core is given; bits 3, 7 and 11 of `lines` are the interrupt lines
abbrev pub input_value : (reset : ℕ) → BusIn → (lines : ℕ) → CorePort → ℕ
input_value reset buses lines port.reset = reset
input_value reset buses lines port.ib_cmd_ready = one_if buses.ib_cmd_ready
input_value reset buses lines port.ib_rsp_valid = one_if buses.ib_rsp_valid
input_value reset buses lines port.ib_rsp_error = one_if buses.ib_rsp_error
input_value reset buses lines port.ib_rsp_data = buses.ib_rsp_data
input_value reset buses lines port.db_cmd_ready = one_if buses.db_cmd_ready
input_value reset buses lines port.db_rsp_valid = one_if buses.db_rsp_valid
input_value reset buses lines port.db_rsp_error = one_if buses.db_rsp_error
input_value reset buses lines port.db_rsp_data = buses.db_rsp_data
input_value reset buses lines port.irq_software = bits_of lines 3 3
input_value reset buses lines port.irq_timer = bits_of lines 7 7
input_value reset buses lines port.irq_external = bits_of lines 11 11
input_value reset buses lines _ = 0

-- the same by name; other names are given 0
abbrev pub inputs_of : (reset : ℕ) → BusIn → (lines : ℕ) → List ℕ → ℕ
inputs_of reset buses lines x = or_else (look (λ p. Some (name_of p, input_value reset buses lines p)) all_ports x) 0

-- what the core drives on the buses, from the values of its ports
abbrev pub outputs_of : (List ℕ → ℕ) → BusOut
outputs_of val = record {
  ib_cmd_valid = eqb (val (name_of port.ib_cmd_valid)) 1;
  ib_cmd_addr = val (name_of port.ib_cmd_addr);
  db_cmd_valid = eqb (val (name_of port.db_cmd_valid)) 1;
  db_cmd_write = eqb (val (name_of port.db_cmd_write)) 1;
  db_cmd_addr = val (name_of port.db_cmd_addr);
  db_cmd_data = val (name_of port.db_cmd_data);
  db_cmd_mask = val (name_of port.db_cmd_mask);
}

-- `reset` is 1 in cycle 0 alone
abbrev pub reset_in : (cycle : ℕ) → ℕ
reset_in zero = 1
reset_in (suc k) = 0

-- ---- both together

pub record Joint : Type 0 where
  pub core : State
  pub buses : BusState

abbrev pub joint_inputs : (cycle lines : ℕ) → Joint → List ℕ → ℕ
joint_inputs k lines j = inputs_of (reset_in k) (driven j.buses) lines

abbrev pub joint_start : (contents : State) → Memory → (delays : List ℕ) → Joint
joint_start contents memory delays = record { core = contents; buses = state_at_start memory delays }

abbrev pub joint_next : Plain → (cycle lines : ℕ) → Joint → Joint
joint_next m k lines j = record {
  core = next m j.core (joint_inputs k lines j);
  buses = stepped j.buses (outputs_of (value m j.core (joint_inputs k lines j)));
}

-- both as a cycle begins
unfoldable pub joint_at : Plain → (contents : State) → Memory → (delays : List ℕ) → (lines : ℕ → ℕ) → (cycle : ℕ) → Joint
joint_at m contents memory delays lines zero = joint_start contents memory delays
joint_at m contents memory delays lines (suc k) = joint_next m k (lines k) (joint_at m contents memory delays lines k)

-- ---- the run

abbrev pub run_inputs : Plain → (contents : State) → Memory → (delays : List ℕ) → (lines : ℕ → ℕ) → Inputs
run_inputs m contents memory delays lines k = joint_inputs k (lines k) (joint_at m contents memory delays lines k)

abbrev pub run_of : Plain → (contents : State) → Memory → (delays : List ℕ) → (lines : ℕ → ℕ) → Trace
run_of m contents memory delays lines = trace_of m contents (run_inputs m contents memory delays lines)
