-- A module refines the machine: each of its runs on honest buses follows it. Nothing here says that an event ever
-- comes: a core that shows none, and gives no command, refines. A bound on the gaps is a further claim.
use Rattle.std.specs.Prelude.{◌≡◌, ℕ, ◌^◌, ◌<◌, List, length, get_or, All}
use Rattle.core_ports.specs.Trace.{Trace, instruction_bus, data_bus}
use Rattle.bus_law.specs.Memory.{Memory, IsMemory}
use Rattle.bus_law.specs.Honest.{Honest}
use Rattle.isa_model.specs.Machine.{Set, Machine, machine_from}
use Rattle.verilog_mean.specs.Plain.{Plain}
use Rattle.verilog_mean.specs.Cycle.{State}
use Rattle.verilog_mean.specs.Run.{Inputs, trace_of, IsInput, IsStart, AllZero}
use Rattle.verilog_mean.specs.CorePorts.{HasCorePorts}
use Rattle.isa_follow.specs.Follows.{Follows}

-- a further claim on a run that follows the machine, of the same machine run
abbrev pub Claim : Set → Type 1
Claim s = (start : Machine) (run : Trace) (n : ℕ) → Follows s start run n → Type 0

abbrev pub no_claim : (s : Set) → Claim s
no_claim s start run n follows = Unit {0}

-- From some start contents: the machine's registers are chosen before inputs and memory, and are all 0 where
-- the contents are. From them each run follows the machine, over any memory, as long as both buses are honest.
pub record RefinesFrom (m : Plain) (s : Set) (reset_pc : ℕ) (claim : Claim s) (contents : State) : Type 0 where
  pub regs : List ℕ
  pub all : length regs ≡ 32
  pub zero_reg : get_or regs 0 0 ≡ 0
  pub fits : All (λ r. r < 2 ^ 32) regs
  pub zeros : AllZero m.items contents → All (λ r. r ≡ 0) regs
  pub follows : (ins : Inputs) → IsInput m ins → (memory : Memory) → IsMemory memory → (n : ℕ)
      → Honest (instruction_bus (trace_of m contents ins)) (data_bus (trace_of m contents ins)) memory n
      → (f : Follows s (machine_from s regs reset_pc memory) (trace_of m contents ins) n) × claim (machine_from s regs reset_pc memory) (trace_of m contents ins) n f

-- for all start contents
pub record RefinesWith (m : Plain) (s : Set) (reset_pc : ℕ) (claim : Claim s) : Type 0 where
  pub ports : HasCorePorts m
  pub from : (contents : State) → IsStart m.items contents → RefinesFrom m s reset_pc claim contents

abbrev pub Refines : Plain → Set → (reset_pc : ℕ) → Type 0
Refines m s reset_pc = RefinesWith m s reset_pc (no_claim s)
