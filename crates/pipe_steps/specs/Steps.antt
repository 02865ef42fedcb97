-- The pipeline of a module, and its step in each run of the module.
use Rattle.std.specs.Prelude.{◌≡◌, ℕ, Bool, is_some}
use Rattle.core_ports.specs.Trace.{Trace}
use Rattle.hw_pool.specs.Nodes.{IsPool}
use Rattle.hw_module.specs.Rows.{IsModule}
use Rattle.hw_module.specs.Cycle.{Held}
use Rattle.service_reg.specs.declared.service.Service.{Service}
use Rattle.plug_law.specs.Pipeline.{Steps}
use Rattle.plug_build.specs.World.{World}
use Rattle.plug_build.specs.Fits.{WorldFits}
use Rattle.plug_build.specs.Run.{run_of}
use Rattle.part_laws.specs.Pipes.{pipe_of}
use Rattle.part_laws.specs.Registered.{execs_of, services_of}
use Rattle.part_laws.specs.ModuleRuns.{IsModuleRun, ShowsPorts}
use Rattle.pipe_steps.specs.Things.{PipeThings, AreUnitsOf, chosen_among}
use Rattle.pipe_steps.specs.Drives.{PipeDrives}

-- The pipeline of a module with these services: they are the registry's, each unit has its register, and all is driven.
pub record IsPipeline (takes : ℕ → Service → Bool) (w : World) (p : PipeThings) : Type 0 where
  pub services : p.services ≡ services_of takes w.pool.nodes w.reg
  pub units : AreUnitsOf w.pool.nodes w.reg.execs p.units
  pub chosen : (entry : ℕ) → p.own.chosen entry ≡ chosen_among p.units entry
  pub entries : p.shape.entries ≡ execs_of w.reg
  pub system : p.shape.system ≡ is_some p.services.system
  pub drives : PipeDrives w.design w.pool.nodes p

-- each run of the module takes the pipeline's step
abbrev pub TakesSteps : (w : World) → PipeThings → Type 0
TakesSteps w p =
    (s : Held) (ins : ℕ → ℕ → ℕ) → IsModuleRun w.design s ins → (run' : Trace) → ShowsPorts w.design w.pool.nodes s ins run'
    → Steps p.shape (pipe_of p.own p.services (run_of w.design w.pool.nodes s ins)) run'

abbrev pub PipelinesStep : Type 0
PipelinesStep = (takes : ℕ → Service → Bool) (w : World) → WorldFits w → IsPool w.pool.nodes → IsModule w.design → (p : PipeThings) → IsPipeline takes w p → TakesSteps w p
