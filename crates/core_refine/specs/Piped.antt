-- Worlds of joined parts and a pipeline, and what the texts of their modules do.
use Rattle.std.specs.Prelude.{ℕ, Bool}
use Rattle.core_ports.specs.Trace.{Trace}
use Rattle.hw_pool.specs.Nodes.{IsPool}
use Rattle.hw_pool.specs.Meaning.{Env}
use Rattle.hw_module.specs.Rows.{IsModule}
use Rattle.hw_module.specs.Cycle.{Held}
use Rattle.isa_model.specs.Machine.{Machine}
use Rattle.isa_follow.specs.Follows.{Follows}
use Rattle.service_reg.specs.declared.service.Service.{Service}
use Rattle.plug_law.specs.Pipeline.{Steps}
use Rattle.plug_part.specs.Part.{Part}
use Rattle.plug_build.specs.World.{World, part_in}
use Rattle.plug_build.specs.Fits.{WorldFits}
use Rattle.plug_build.specs.Run.{run_of}
use Rattle.pipe_law.specs.Serves.{Serves}
use Rattle.pipe_law.specs.Brisk.{Brisk, cycles_of, longest}
use Rattle.pipe_law.specs.Overlap.{Overlap, IsQuick, AllBypassed}
use Rattle.part_laws.specs.Joined.{CoreTerms, Services, AreJoined, RunsParts, shape_in}
use Rattle.part_laws.specs.Pipes.{PipeOwn, pipe_of}
use Rattle.part_laws.specs.Follow.{Chosen, IsPlanned}
use Rattle.part_laws.specs.ModuleRuns.{IsModuleRun, ShowsPorts}
use Rattle.verilog_mean.specs.Plain.{Plain}
use Rattle.verilog_mean.specs.CorePorts.{HasCorePorts}
use Rattle.module_netlist.specs.Means.{Means}
use Rattle.pipe_refine.specs.Refines.{Claim, RefinesWith}

-- each run of the module out of reset, with what it shows on the core's ports, takes the steps of the pipeline
abbrev pub TakesSteps : CoreTerms → Services → PipeOwn → World → Type 0
TakesSteps v x own w =
    (s : Held) (ins : ℕ → ℕ → ℕ) → IsModuleRun w.design s ins → (run' : Trace) → ShowsPorts w.design w.pool.nodes s ins run'
    → Steps (shape_in v x) (pipe_of own x (run_of w.design w.pool.nodes s ins)) run'

-- the parts of the entries, each with the services of others that it takes
abbrev pub parts_in : (takes : ℕ → Service → Bool) → World → (entry : ℕ) → Part
parts_in takes w entry = part_in (takes entry) entry w

-- the module is one of joined parts, whose runs take the steps of the pipeline
pub record IsPiped (v : CoreTerms) (takes : ℕ → Service → Bool) (x : Services) (own : PipeOwn) (w : World) : Type 0 where
  pub fits : WorldFits w
  pub is_pool : IsPool w.pool.nodes
  pub is_module : IsModule w.design
  pub joined : AreJoined v (parts_in takes w) x
  pub planned : IsPlanned v x
  pub steps : TakesSteps v x own w

-- What holds besides of a run that follows the machine. There are numbers for all things of all parts that are a run of each part,
-- show what the trace shows and take the steps of the pipeline; and with these it is told who serves which event.
pub record CoreClaims (v : CoreTerms) (part : ℕ → Part) (x : Services) (own : PipeOwn) (c : Chosen x) (start : Machine) (run' : Trace) (n : ℕ) (f : Follows v.set start run' n) : Type 0 where
  pub run : ℕ → Env
  pub runs : RunsParts part run run'
  pub steps : Steps (shape_in v x) (pipe_of own x run) run'
  pub serves : Serves v.table v.owner (shape_in v x) (pipe_of own x run) run' n
  -- no gap between two events is longer than the latencies of Fetch and of the units allow
  pub brisk : Brisk v.table (cycles_of (v.latency x.fetch.0)) (longest v.latency v.execs) start run' n f.history
  -- where all stages are bypassed, of k cycles of a stream all but 5 at most have an event
  pub overlap : AllBypassed c.bypassed v.stages → Overlap v.set v.table (IsQuick v.owner v.commits v.latency) c.predict 5 start run' n f.history

abbrev pub core_claim : (v : CoreTerms) (part : ℕ → Part) (x : Services) → PipeOwn → Chosen x → Claim v.set
core_claim v part x own c start run' n f = CoreClaims v part x own c start run' n f

-- a text that means such a module, with the ports of a core, refines the machine
abbrev pub PipedRefines : Type 0
PipedRefines =
    (v : CoreTerms) (takes : ℕ → Service → Bool) (x : Services) (own : PipeOwn) (w : World) → IsPiped v takes x own w
    → (t : Plain) → Means w.design w.pool.nodes t → HasCorePorts t → (c : Chosen x) × RefinesWith t v.set v.reset_pc (core_claim v (parts_in takes w) x own c)
