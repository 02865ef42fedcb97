-- The run of a core over its buses, from any contents that fit and with any interrupt lines, is one of those that its refinement
-- speaks of: its inputs fit, and both buses are honest over one memory. They answer in time where the core keeps its duties.
use Rattle.std.specs.Prelude.{ℕ, ◌+◌, ◌<◌, ◌≤◌, List, All}
use Rattle.core_ports.specs.Trace.{instruction_bus, data_bus}
use Rattle.bus_law.specs.Memory.{Memory}
use Rattle.bus_law.specs.Duties.{KeepsDuties}
use Rattle.bus_law.specs.Honest.{Honest, Within}
use Rattle.verilog_mean.specs.Plain.{Plain}
use Rattle.verilog_mean.specs.Cycle.{State}
use Rattle.verilog_mean.specs.Run.{IsInput, IsStart, AllZero}
use Rattle.verilog_mean.specs.Zero.{zero_state}
use Rattle.core_sim.specs.Joint.{run_inputs, run_of}

pub record IsOverBuses (m : Plain) (contents : State) (memory : Memory) (delays : List ℕ) (lines : ℕ → ℕ) : Type 0 where
  pub start : IsStart m.items contents
  pub zeros : AllZero m.items (zero_state m)
  pub inputs : IsInput m (run_inputs m contents memory delays lines)
  pub honest : (n : ℕ) → Honest (instruction_bus (run_of m contents memory delays lines)) (data_bus (run_of m contents memory delays lines)) memory n
  pub within : (d n : ℕ) → All (λ delay. delay ≤ d) delays
      → ((k : ℕ) → k < n → KeepsDuties (instruction_bus (run_of m contents memory delays lines)) k)
      → ((k : ℕ) → k < n → KeepsDuties (data_bus (run_of m contents memory delays lines)) k)
      → Within (instruction_bus (run_of m contents memory delays lines)) (data_bus (run_of m contents memory delays lines)) (d + 1) n
