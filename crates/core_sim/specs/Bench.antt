-- A simulator of a core and its buses, joined port by port.
use Rattle.std.specs.Prelude.{◌≡◌, ℕ, zero, suc, ◌^◌, ◌%◌, ◌<◌, ◌+◌, Bool, true, false, cond, eqb, ◌&&◌, List, [], ◌∷◌, length, get_or, map, vec_len, Option, Some, None}
use Rattle.core_words.specs.Values.{bits_of, one_if}
use Rattle.core_ports.specs.Ports.{CorePort, name_of, is_input, width_of}
use Rattle.core_ports.specs.Ports as port
use Rattle.core_ports.specs.Trace.{PortEvent}
use Rattle.bus_law.specs.declared.signals.BusIn.{BusIn}
use Rattle.bus_law.specs.declared.signals.BusOut.{BusOut}
use Rattle.bus_law.specs.Memory.{Store, lane_of, store_of}
use Rattle.bus_law.specs.Answers.{driven}
use Rattle.verilog_mean.specs.Names.{is_among}
use Rattle.verilog_mean.specs.Plain.{Plain}
use Rattle.verilog_mean.specs.Cycle.{State, value, width_in}
use Rattle.verilog_mean.specs.Run.{PortsFit}
use Rattle.verilog_sim.specs.Simulates.{AllFit, Shows, Simulates}
use Rattle.verilog_sim.specs.Layouts.{layout_of, input_names, output_names}
use Rattle.core_sim.specs.declared.event.Event.{Event}
use Rattle.core_sim.specs.declared.ended.Ended.{Ended}
use Rattle.core_sim.specs.declared.ended.Ended.TheVariants.{Exit, Stopped}
use Rattle.core_sim.specs.declared.ports.InputPort.{InputPort}
use Rattle.core_sim.specs.declared.ports.InputPort.TheVariants.{Reset, IbCmdReady, IbRspValid, IbRspError, IbRspData, DbCmdReady, DbRspValid, DbRspError, DbRspData, IrqSoftware, IrqTimer, IrqExternal, Zero}
use Rattle.core_sim.specs.declared.ports.Places.{Places}
use Rattle.core_sim.specs.declared.bench.Bench.{Bench}
use Rattle.core_sim.specs.Joint.{Joint, inputs_of, joint_inputs, joint_next, outputs_of}
use Rattle.core_sim.specs.Lines.{event_line}

-- ---- events

abbrev pub port_event_of : Event → PortEvent
port_event_of e = record { kind = e.kind; pc = e.pc; word = e.word; rd = e.rd; value = e.value; cause = e.cause }

-- the event that the ports of a cycle tell; outputs in cycle 0 count as nothing
abbrev pub event_of : (List ℕ → ℕ) → Event
event_of val = record {
  kind = val (name_of port.ev_kind);
  pc = val (name_of port.ev_pc);
  word = val (name_of port.ev_word);
  rd = val (name_of port.ev_rd);
  value = val (name_of port.ev_value);
  cause = val (name_of port.ev_cause);
}

abbrev pub event_in : (cycle : ℕ) → (List ℕ → ℕ) → Option Event
event_in zero val = None
event_in (suc k) val = cond (eqb (val (name_of port.ev_valid)) 1) (Some (event_of val)) None

abbrev pub retires : Option Event → Bool
retires None = false
retires (Some e) = eqb e.kind 0

-- what is pushed in a cycle with this event, where these bytes are pending: the line of the event where lines are wanted, and else
-- at a retirement the bytes
abbrev pub shown : (trace : Bool) → Option Event → (pending : List ℕ) → List ℕ
shown true (Some e) pending = event_line (port_event_of e)
shown true None pending = []
shown false e pending = cond (retires e) pending []

-- how a run ends with an event of this kind, if it does, where this exit is pending
abbrev pub end_by : (kind : ℕ) → (code : Option ℕ) → (cause pc events cycles : ℕ) → Option Ended
end_by zero None cause pc events cycles = None
end_by zero (Some code) cause pc events cycles = Some (Exit code events cycles)
end_by (suc zero) code cause pc events cycles = None
end_by (suc (suc zero)) code cause pc events cycles = None
end_by (suc (suc (suc zero))) code cause pc events cycles = Some (Stopped cause pc events cycles)
end_by (suc (suc (suc (suc n)))) code cause pc events cycles = None

abbrev pub end_with : Option Event → (code : Option ℕ) → (events cycles : ℕ) → Option Ended
end_with None code events cycles = None
end_with (Some e) code events cycles = end_by e.kind code e.cause e.pc events cycles

-- ---- writes

-- a word with 0 in the lanes that a mask leaves out
abbrev pub masked : (word mask : ℕ) → ℕ
masked word mask = lane_of word mask 0 + lane_of word mask 1 + lane_of word mask 2 + lane_of word mask 3

-- the write that the data bus accepts, if it accepts one, where the bus and the core drive these
abbrev pub accepted : BusIn → BusOut → List Store
accepted bus out = cond ((out.db_cmd_valid && bus.db_cmd_ready) && out.db_cmd_write) (store_of out.db_cmd_addr out.db_cmd_data out.db_cmd_mask ∷ []) []

-- the same in a cycle; outputs in cycle 0 count as nothing
abbrev pub write_in : Plain → (cycle lines : ℕ) → Joint → List Store
write_in m zero lines j = []
write_in m (suc k) lines j = accepted (driven j.buses) (outputs_of (value m j.core (joint_inputs (suc k) lines j)))

-- ---- what an input is given

abbrev pub given : (reset : ℕ) → BusIn → (lines : ℕ) → InputPort → ℕ
given reset buses lines Reset = reset
given reset buses lines IbCmdReady = one_if buses.ib_cmd_ready
given reset buses lines IbRspValid = one_if buses.ib_rsp_valid
given reset buses lines IbRspError = one_if buses.ib_rsp_error
given reset buses lines IbRspData = buses.ib_rsp_data
given reset buses lines DbCmdReady = one_if buses.db_cmd_ready
given reset buses lines DbRspValid = one_if buses.db_rsp_valid
given reset buses lines DbRspError = one_if buses.db_rsp_error
given reset buses lines DbRspData = buses.db_rsp_data
given reset buses lines IrqSoftware = bits_of lines 3 3
given reset buses lines IrqTimer = bits_of lines 7 7
given reset buses lines IrqExternal = bits_of lines 11 11
given reset buses lines Zero = 0

-- ---- where the outputs stand

-- a name stands at a place
abbrev pub IsPlace : List (List ℕ) → List ℕ → ℕ → Type 0
IsPlace names x at = (at < length names) × (get_or names at [] ≡ x)

pub record HasPlaces (names : List (List ℕ)) (p : Places) : Type 0 where
  pub ib_cmd_valid : IsPlace names (name_of port.ib_cmd_valid) p.ib_cmd_valid
  pub ib_cmd_addr : IsPlace names (name_of port.ib_cmd_addr) p.ib_cmd_addr
  pub db_cmd_valid : IsPlace names (name_of port.db_cmd_valid) p.db_cmd_valid
  pub db_cmd_write : IsPlace names (name_of port.db_cmd_write) p.db_cmd_write
  pub db_cmd_addr : IsPlace names (name_of port.db_cmd_addr) p.db_cmd_addr
  pub db_cmd_data : IsPlace names (name_of port.db_cmd_data) p.db_cmd_data
  pub db_cmd_mask : IsPlace names (name_of port.db_cmd_mask) p.db_cmd_mask
  pub ev_valid : IsPlace names (name_of port.ev_valid) p.ev_valid
  pub ev_kind : IsPlace names (name_of port.ev_kind) p.ev_kind
  pub ev_pc : IsPlace names (name_of port.ev_pc) p.ev_pc
  pub ev_word : IsPlace names (name_of port.ev_word) p.ev_word
  pub ev_rd : IsPlace names (name_of port.ev_rd) p.ev_rd
  pub ev_value : IsPlace names (name_of port.ev_value) p.ev_value
  pub ev_cause : IsPlace names (name_of port.ev_cause) p.ev_cause

-- all places are below a number
pub record AreWithin (p : Places) (n : ℕ) : Type 0 where
  pub ib_cmd_valid : p.ib_cmd_valid < n
  pub ib_cmd_addr : p.ib_cmd_addr < n
  pub db_cmd_valid : p.db_cmd_valid < n
  pub db_cmd_write : p.db_cmd_write < n
  pub db_cmd_addr : p.db_cmd_addr < n
  pub db_cmd_data : p.db_cmd_data < n
  pub db_cmd_mask : p.db_cmd_mask < n
  pub ev_valid : p.ev_valid < n
  pub ev_kind : p.ev_kind < n
  pub ev_pc : p.ev_pc < n
  pub ev_word : p.ev_word < n
  pub ev_rd : p.ev_rd < n
  pub ev_value : p.ev_value < n
  pub ev_cause : p.ev_cause < n

-- the low 32 bits of an output
abbrev pub word_of : List ℕ → (at : ℕ) → ℕ
word_of outs at = get_or outs at 0 % 2 ^ 32

abbrev pub flag_of : List ℕ → (at : ℕ) → Bool
flag_of outs at = eqb (get_or outs at 0) 1

abbrev pub bus_out_at : Places → List ℕ → BusOut
bus_out_at p outs = record {
  ib_cmd_valid = flag_of outs p.ib_cmd_valid;
  ib_cmd_addr = word_of outs p.ib_cmd_addr;
  db_cmd_valid = flag_of outs p.db_cmd_valid;
  db_cmd_write = flag_of outs p.db_cmd_write;
  db_cmd_addr = word_of outs p.db_cmd_addr;
  db_cmd_data = word_of outs p.db_cmd_data;
  db_cmd_mask = word_of outs p.db_cmd_mask;
}

abbrev pub event_at : Places → List ℕ → Option Event
event_at p outs = cond (flag_of outs p.ev_valid) (Some (record {
  kind = word_of outs p.ev_kind;
  pc = word_of outs p.ev_pc;
  word = word_of outs p.ev_word;
  rd = word_of outs p.ev_rd;
  value = word_of outs p.ev_value;
  cause = word_of outs p.ev_cause;
})) None

-- ---- both together

-- the ports of a core, as a bench needs them
pub record IsCore (m : Plain) : Type 0 where
  pub fits : (reset : ℕ) (buses : BusIn) (lines : ℕ) → reset < 2 → buses.ib_rsp_data < 2 ^ 32 → buses.db_rsp_data < 2 ^ 32 → PortsFit m.ports (inputs_of reset buses lines)
  pub outputs : (p : CorePort) → is_input p ≡ false → is_among (name_of p) (output_names m.ports) ≡ true
  pub widths : (p : CorePort) → is_input p ≡ false → width_in m (name_of p) ≡ width_of p
  pub reads : (p : CorePort) → is_input p ≡ true → (s : State) (ins : List ℕ → ℕ) → value m s ins (name_of p) ≡ ins (name_of p)

-- there is room for the inputs and the outputs
pub record IsReady (b : Bench) : Type 0 where
  pub ins : vec_len b.ins ≡ b.sim.flat.ins
  pub outs : vec_len b.outs ≡ vec_len b.sim.flat.outs
  pub inputs : vec_len b.inputs ≡ vec_len b.ins
  pub places : AreWithin b.places (vec_len b.outs)

-- a bench holds what a core and its buses do
pub record IsBench (m : Plain) (j : Joint) (b : Bench) : Type 0 where
  pub simulates : Simulates m (layout_of m) b.sim.flat
  pub shows : Shows m (layout_of m) j.core b.sim.flat.regs.items b.sim.flat.cells.items
  pub buses : b.buses ≡ j.buses
  pub inputs : (reset : ℕ) (buses : BusIn) (lines : ℕ) → map (given reset buses lines) b.inputs.items ≡ map (inputs_of reset buses lines) (input_names m.ports)
  pub places : HasPlaces (output_names m.ports) b.places

-- a cycle has passed: the outputs are those that the core had in it, and the bench holds what comes next
pub record HasPassed (m : Plain) (number lines : ℕ) (j : Joint) (b : Bench) : Type 0 where
  pub outs : b.outs.items ≡ map (value m j.core (joint_inputs number lines j)) (output_names m.ports)
  pub fit : AllFit m (value m j.core (joint_inputs number lines j)) (output_names m.ports)
  pub next : IsBench m (joint_next m number lines j) b
