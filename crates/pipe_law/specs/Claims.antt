-- The theorem: parts that keep their laws, joined by the pipeline step, follow the machine, and more is true of each run.
use Rattle.std.specs.Prelude.{ℕ}
use Rattle.core_ports.specs.Trace.{Trace, instruction_bus, data_bus}
use Rattle.bus_law.specs.Memory.{Memory, IsMemory}
use Rattle.bus_law.specs.Honest.{Honest}
use Rattle.isa_follow.specs.Follows.{Follows}
use Rattle.plug_law.specs.Pipeline.{Pipe, Steps}
use Rattle.pipe_law.specs.Core.{Core, IsCore, Laws, begin_at}
use Rattle.pipe_law.specs.Serves.{Serves}
use Rattle.pipe_law.specs.Brisk.{Brisk, cycles_of, longest}
use Rattle.pipe_law.specs.Overlap.{Overlap, IsQuick, AllBypassed}

-- what is true besides of the first n cycles of a run that follow the machine
pub record Claims (g : Core) (p : Pipe) (run' : Trace) (memory : Memory) (n : ℕ) (f : Follows g.set (begin_at g memory) run' n) : Type 0 where
  -- its parts serve it
  pub serves : Serves g.table g.owner g.shape p run' n
  -- no gap between two events is longer than the latencies of Fetch and of the units allow
  pub brisk : Brisk g.table (cycles_of g.fetch_latency) (longest g.latency g.shape.entries) (begin_at g memory) run' n f.history
  -- where all stages are bypassed, of k cycles of a stream all but 5 at most have an event
  pub overlap : AllBypassed g.bypassed g.shape.stages → Overlap g.set g.table (IsQuick g.owner g.shape.commits g.latency) g.predict 5 (begin_at g memory) run' n f.history

-- in every run of a core whose parts keep their laws, as far as both buses are honest, over any memory
abbrev pub PipeFollows : Type 0
PipeFollows =
    (g : Core) (p : Pipe) (run' : Trace) (memory : Memory) (n : ℕ)
    → IsCore g → Laws g p run' memory → Steps g.shape p run' → IsMemory memory → Honest (instruction_bus run') (data_bus run') memory n
    → (f : Follows g.set (begin_at g memory) run' n) × Claims g p run' memory n f
