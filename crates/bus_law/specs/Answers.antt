-- Both buses over one memory: the state of what answers, what it drives, and its step.
use Rattle.std.specs.Prelude.{ℕ, zero, suc, Bool, true, false, cond, not, ◌&&◌, List, Option, Some, None, is_some}
use Rattle.core_words.specs.Values.{one_if}
use Rattle.core_ports.specs.Trace.{Bus}
use Rattle.bus_law.specs.declared.side.Answer.{Answer}
use Rattle.bus_law.specs.declared.side.Side.{Side}
use Rattle.bus_law.specs.declared.signals.BusIn.{BusIn}
use Rattle.bus_law.specs.declared.signals.BusOut.{BusOut}
use Rattle.bus_law.specs.Memory.{Memory, word_at, is_window, written}
use Rattle.bus_law.specs.Sides.{is_ready, response_of, side_after, side_at_start, error_of, payload_of}

pub record State : Type 0 where
  pub memory : Memory
  pub delays : List ℕ
  pub instruction : Side
  pub access : Side

abbrev pub state_at_start : Memory → List ℕ → State
state_at_start memory delays = record { memory = memory; delays = delays; instruction = side_at_start; access = side_at_start }

-- the answer to a fetch of an address: the word, or an error outside memory
abbrev pub fetched : Option ℕ → Answer
fetched None = record { error = true; payload = 0 }
fetched (Some word) = record { error = false; payload = word }

-- the answer to a read or a write: the data of a write is 0, and the window takes writes and reads 0
abbrev pub accessed : Option ℕ → (window write : Bool) → Answer
accessed None window write = record { error = not window; payload = 0 }
accessed (Some word) window write = record { error = false; payload = cond write 0 word }

-- what both buses drive in a cycle
abbrev pub driven : State → BusIn
driven s = record {
  ib_cmd_ready = is_ready s.instruction.turn;
  ib_rsp_valid = is_some (response_of s.instruction.turn);
  ib_rsp_error = error_of (response_of s.instruction.turn);
  ib_rsp_data = payload_of (response_of s.instruction.turn);
  db_cmd_ready = is_ready s.access.turn;
  db_rsp_valid = is_some (response_of s.access.turn);
  db_rsp_error = error_of (response_of s.access.turn);
  db_rsp_data = payload_of (response_of s.access.turn);
}

-- a write is accepted
abbrev pub stores : State → BusOut → Bool
stores s out = out.db_cmd_valid && (is_ready s.access.turn && out.db_cmd_write)

-- The state after a cycle in which a core drove these signals. Answers are those of the memory as the cycle began.
abbrev pub stepped : State → BusOut → State
stepped s out = record {
  memory = cond (stores s out) (written s.memory out.db_cmd_addr out.db_cmd_data out.db_cmd_mask) s.memory;
  delays = s.delays;
  instruction = side_after s.delays s.instruction out.ib_cmd_valid (fetched (word_at s.memory out.ib_cmd_addr));
  access = side_after s.delays s.access out.db_cmd_valid (accessed (word_at s.memory out.db_cmd_addr) (is_window out.db_cmd_addr) out.db_cmd_write);
}

-- the state as a cycle begins, for what a core drives in each
unfoldable pub state_at : Memory → List ℕ → (ℕ → BusOut) → ℕ → State
state_at memory delays outs zero = state_at_start memory delays
state_at memory delays outs (suc k) = stepped (state_at memory delays outs k) (outs k)

-- the signals of a run by cycle
abbrev pub fetch_bus : Memory → List ℕ → (ℕ → BusOut) → Bus
fetch_bus memory delays outs = record {
  cmd_valid = λ k. one_if (outs k).ib_cmd_valid;
  cmd_ready = λ k. one_if (driven (state_at memory delays outs k)).ib_cmd_ready;
  cmd_write = λ k. 0;
  cmd_addr = λ k. (outs k).ib_cmd_addr;
  cmd_data = λ k. 0;
  cmd_mask = λ k. 0;
  rsp_valid = λ k. one_if (driven (state_at memory delays outs k)).ib_rsp_valid;
  rsp_error = λ k. one_if (driven (state_at memory delays outs k)).ib_rsp_error;
  rsp_data = λ k. (driven (state_at memory delays outs k)).ib_rsp_data;
}

abbrev pub access_bus : Memory → List ℕ → (ℕ → BusOut) → Bus
access_bus memory delays outs = record {
  cmd_valid = λ k. one_if (outs k).db_cmd_valid;
  cmd_ready = λ k. one_if (driven (state_at memory delays outs k)).db_cmd_ready;
  cmd_write = λ k. one_if (outs k).db_cmd_write;
  cmd_addr = λ k. (outs k).db_cmd_addr;
  cmd_data = λ k. (outs k).db_cmd_data;
  cmd_mask = λ k. (outs k).db_cmd_mask;
  rsp_valid = λ k. one_if (driven (state_at memory delays outs k)).db_rsp_valid;
  rsp_error = λ k. one_if (driven (state_at memory delays outs k)).db_rsp_error;
  rsp_data = λ k. (driven (state_at memory delays outs k)).db_rsp_data;
}
