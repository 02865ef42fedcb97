-- A core that meets every premise of the theorem of the pipeline, in one run.
use Rattle.std.specs.Prelude.{◌≡◌, ℕ, zero, suc, ◌+◌, ◌*◌, ◌%◌, ◌^◌, Bool, cond, List, [], ◌∷◌, length}
use Rattle.core_ports.specs.Trace.{Trace, PortEvent, instruction_bus, data_bus, has_event, port_event, lines_at}
use Rattle.bus_law.specs.Memory.{Memory, IsMemory}
use Rattle.bus_law.specs.Honest.{Honest, Within}
use Rattle.isa_model.specs.Machine.{Set}
use Rattle.plug_law.specs.Pipeline.{Pipe, Steps}
use Rattle.pipe_law.specs.Core.{Core, IsCore, Laws}

-- what is round a core: memory, where it begins, its registers, what Predict says, and the interrupt lines of each cycle
pub record World : Type 0 where
  pub memory : Memory
  pub reset_pc : ℕ
  pub start : List ℕ
  pub predict : ℕ → ℕ → ℕ
  pub software : ℕ → ℕ
  pub timer : ℕ → ℕ
  pub external : ℕ → ℕ
  pub is_memory : IsMemory memory
  pub aligned : reset_pc % 4 ≡ 0
  pub full : length start ≡ 32
  pub whole : (pc word : ℕ) → predict pc word % 4 ≡ 0

-- the interrupt lines of a cycle as a number
abbrev pub lines_of : World → ℕ → ℕ
lines_of o k = o.software k * 2 ^ 3 + o.timer k * 2 ^ 7 + o.external k * 2 ^ 11

-- a core of a set, with or without a data bus, of so many stages, and a run of it in a world
pub record Met (s : Set) (holds : Bool) (stages : ℕ) (o : World) : Type 0 where
  pub core : Core
  pub pipe : Pipe
  pub run' : Trace
  -- it is such a core, begins where and as the world says, and sees its lines
  pub set : core.set ≡ s
  pub holds_is : core.shape.holds ≡ holds
  pub stages_is : core.shape.stages ≡ stages
  pub reset_pc : core.shape.reset_pc ≡ o.reset_pc
  pub start : core.start ≡ o.start
  pub lines : (k : ℕ) → lines_at run' k ≡ lines_of o k
  -- the premises of the theorem, in all cycles
  pub is_core : IsCore core
  pub laws : Laws core pipe run' o.memory
  pub steps : Steps core.shape pipe run'
  pub honest : (n : ℕ) → Honest (instruction_bus run') (data_bus run') o.memory n
  -- and that of its claim on gaps: both buses answer within one cycle
  pub in_time : (n : ℕ) → Within (instruction_bus run') (data_bus run') 1 n

-- the events on the ports in len cycles from cycle k on, in order
unfoldable pub events_from : Trace → (k len : ℕ) → List PortEvent
events_from run' k zero = []
events_from run' k (suc len) = cond (has_event run' k) (port_event run' k ∷ events_from run' (suc k) len) (events_from run' (suc k) len)
