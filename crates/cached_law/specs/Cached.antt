-- A fetch that keeps the law of a cache in a joined core.
use Rattle.std.specs.Prelude.{◌≡◌, ℕ, ◌<◌, Bool, true, is_some, Some}
use Rattle.core_ports.specs.Trace.{Trace, instruction_bus, data_bus}
use Rattle.bus_law.specs.Memory.{Memory, IsMemory}
use Rattle.bus_law.specs.Honest.{Honest}
use Rattle.hw_pool.specs.Meaning.{Env}
use Rattle.hw_module.specs.Cycle.{Held}
use Rattle.service_reg.specs.declared.service.Service.{Service}
use Rattle.service_reg.specs.declared.service.Service.TheVariants.{Fetch, Predict}
use Rattle.plug_law.specs.Cache.{CacheKept, CacheLaw}
use Rattle.plug_law.specs.Fetch.{FetchSignals}
use Rattle.plug_law.specs.Pipeline.{Steps}
use Rattle.plug_law.specs.Predict.{IsPredict, PredictLaw, seen_by}
use Rattle.plug_part.specs.Part.{Part, PortTrees, sees}
use Rattle.plug_part.specs.Runs.{IsPartRun}
use Rattle.plug_part.specs.Signals.{fetch_signals, part_ib}
use Rattle.plug_build.specs.Run.{run_of}
use Rattle.plug_build.specs.World.{World}
use Rattle.pipe_law.specs.Core.{mem_of}
use Rattle.part_laws.specs.Follow.{IsPlanned}
use Rattle.part_laws.specs.Joined.{AreJoined, CoreTerms, RunsParts, Services, ports_in, shape_in}
use Rattle.part_laws.specs.ModuleRuns.{IsModuleRun, ShowsPorts}
use Rattle.part_laws.specs.Pipes.{PipeOwn, pipe_of}
use Rattle.verilog_mean.specs.Cycle.{State}
use Rattle.verilog_mean.specs.CorePorts.{HasCorePorts}
use Rattle.verilog_mean.specs.Plain.{Plain}
use Rattle.verilog_mean.specs.Run.{Inputs, IsInput, IsStart, trace_of}
use Rattle.module_netlist.specs.Means.{Means, held_by}
use Rattle.module_agree.specs.Traces.{numbered}
use Rattle.core_refine.specs.Piped.{IsPiped, parts_in}

-- a part that keeps the law of a cache, where it offers Fetch: in each of its runs, over any memory, and for each function that Predict
-- may answer
pub record IsIcachePart (lines words : ℕ) (p : Part) : Type 0 where
  pub cache : (o : PortTrees) → p.offers Fetch ≡ Some o → (predict : ℕ → ℕ → ℕ) → IsPredict (is_some (sees p Predict)) predict
      → (run : ℕ → Env) → IsPartRun p run → (mem : ℕ → Memory)
      → CacheLaw lines words (is_some (sees p Predict)) predict (fetch_signals o (sees p Predict) run) (part_ib p run) mem

-- the signals between Fetch, the pipeline and Predict in a run of all parts
abbrev pub fetch_in : Services → (ℕ → Env) → FetchSignals
fetch_in x run = fetch_signals x.fetch.1 (ports_in x.predict) run

-- In each of the first n cycles the cache is kept: the bus is that of the trace, and memory is what the data bus made of it. Predict,
-- where Fetch takes it, answers by `predict`.
pub record KeepsCache (lines words : ℕ) (x : Services) (predict : ℕ → ℕ → ℕ) (run : ℕ → Env) (run' : Trace) (memory : Memory) (n : ℕ) : Type 0 where
  pub predicted : is_some (ports_in x.predict) ≡ true → PredictLaw predict (seen_by (fetch_in x run))
  pub kept : (s : ℕ) → s < n → CacheKept lines words (fetch_in x run) (instruction_bus run') (mem_of memory run') predict s

-- in each run of joined parts that takes the steps of the pipeline
abbrev pub CachedRuns : Type 0
CachedRuns =
    (v : CoreTerms) (part : ℕ → Part) (x : Services) → AreJoined v part x → IsPlanned v x
    → (predict : ℕ → ℕ → ℕ) × IsPredict (is_some (ports_in x.predict)) predict
    × ((lines words : ℕ) → IsIcachePart lines words (part x.fetch.0)
    → (own : PipeOwn) (run : ℕ → Env) (run' : Trace) → RunsParts part run run' → Steps (shape_in v x) (pipe_of own x run) run'
    → (memory : Memory) → IsMemory memory → (n : ℕ) → Honest (instruction_bus run') (data_bus run') memory n → KeepsCache lines words x predict run run' memory n)

-- in each run out of reset of a module of joined parts
abbrev pub CachedModules : Type 0
CachedModules =
    (v : CoreTerms) (takes : ℕ → Service → Bool) (x : Services) (own : PipeOwn) (w : World) → IsPiped v takes x own w
    → (predict : ℕ → ℕ → ℕ) × IsPredict (is_some (ports_in x.predict)) predict
    × ((lines words : ℕ) → IsIcachePart lines words (parts_in takes w x.fetch.0)
    → (s : Held) (ins : ℕ → ℕ → ℕ) → IsModuleRun w.design s ins → (run' : Trace) → ShowsPorts w.design w.pool.nodes s ins run'
    → (memory : Memory) → IsMemory memory → (n : ℕ) → Honest (instruction_bus run') (data_bus run') memory n
    → KeepsCache lines words x predict (run_of w.design w.pool.nodes s ins) run' memory n)

-- in each run of a text that means such a module and has the ports of a core; the signals are those of the module's run from the same
-- contents on the same inputs
abbrev pub CachedTrees : Type 0
CachedTrees =
    (v : CoreTerms) (takes : ℕ → Service → Bool) (x : Services) (own : PipeOwn) (w : World) → IsPiped v takes x own w
    → (t : Plain) → Means w.design w.pool.nodes t → HasCorePorts t
    → (predict : ℕ → ℕ → ℕ) × IsPredict (is_some (ports_in x.predict)) predict
    × ((lines words : ℕ) → IsIcachePart lines words (parts_in takes w x.fetch.0)
    → (contents : State) → IsStart t.items contents → (ins : Inputs) → IsInput t ins
    → (memory : Memory) → IsMemory memory → (n : ℕ) → Honest (instruction_bus (trace_of t contents ins)) (data_bus (trace_of t contents ins)) memory n
    → KeepsCache lines words x predict (run_of w.design w.pool.nodes (held_by w.design contents) (numbered ins)) (trace_of t contents ins) memory n)
