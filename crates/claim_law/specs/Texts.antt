-- The text of a generated core keeps a cache.
use Rattle.std.specs.Prelude.{ℕ, ◌-◌, List, is_some}
use Rattle.core_ports.specs.Trace.{Trace, instruction_bus, data_bus}
use Rattle.bus_law.specs.Memory.{Memory, IsMemory}
use Rattle.bus_law.specs.Honest.{Honest}
use Rattle.hw_pool.specs.Meaning.{Env}
use Rattle.plug_law.specs.Pipeline.{Steps}
use Rattle.plug_law.specs.Predict.{IsPredict}
use Rattle.plug_part.specs.Part.{Part}
use Rattle.plug_api.specs.declared.spec.Plan.{Plan}
use Rattle.plug_api.specs.declared.spec.PlugSpec.{PlugSpec}
use Rattle.part_laws.specs.Joined.{CoreTerms, RunsParts, Services, ports_in, shape_in}
use Rattle.part_laws.specs.Pipes.{PipeOwn, pipe_of}
use Rattle.pipe_steps.specs.Numbers.{own_from}
use Rattle.verilog_mean.specs.Cycle.{State}
use Rattle.verilog_mean.specs.Erase.{plain_tree}
use Rattle.verilog_mean.specs.Run.{Inputs, IsInput, IsStart, trace_of}
use Rattle.core_parts.specs.Laid.{part_by, services_by, terms_by}
use Rattle.core_gen.specs.Generated.{IsBoxText}
use Rattle.cached_law.specs.Cached.{KeepsCache}

-- There are numbers for all things of all parts that are a run of each part, show what a trace shows and take the steps of the
-- pipeline; and with these the cache is kept.
pub record KeepsCacheRun (lines words : ℕ) (v : CoreTerms) (part : ℕ → Part) (x : Services) (own : PipeOwn) (predict : ℕ → ℕ → ℕ) (run' : Trace) (memory : Memory) (n : ℕ) : Type 0 where
  pub run : ℕ → Env
  pub runs : RunsParts part run run'
  pub steps : Steps (shape_in v x) (pipe_of own x run) run'
  pub keeps : KeepsCache lines words x predict run run' memory n

-- What Predict answers is chosen once; then in each run of the text's tree out of reset, over any memory and as far as both buses are honest,
-- the cache is kept.
pub record KeepsCacheIn {B : Type 0} {now : B → PlugSpec} {test : B → Plan → Part → Type 0} {boxes : List B} {plan : Plan} {specs : List PlugSpec} {text : List ℕ}
    (lines words : ℕ) (core : IsBoxText now test boxes plan specs text) : Type 0 where
  pub predict : ℕ → ℕ → ℕ
  pub is_predict : IsPredict (is_some (ports_in (services_by specs core.world).predict)) predict
  pub keeps : (contents : State) → IsStart (plain_tree core.core.tree).items contents → (ins : Inputs) → IsInput (plain_tree core.core.tree) ins
      → (memory : Memory) → IsMemory memory → (n : ℕ)
      → Honest (instruction_bus (trace_of (plain_tree core.core.tree) contents ins)) (data_bus (trace_of (plain_tree core.core.tree) contents ins)) memory n
      → KeepsCacheRun lines words (terms_by specs plan core.world.reg) (part_by specs core.world) (services_by specs core.world)
      (own_from core.piped.register core.world.reg.execs (core.piped.shape.stages - 2)) predict (trace_of (plain_tree core.core.tree) contents ins) memory n
