-- Runs of a module of joined parts, and of its text, are runs of the parts.
use Rattle.std.proofs.Common.{◌≡◌, ◌∙◌, ℕ, Bool, cond, ap, Some}
use Rattle.core_ports.specs.Ports.{name_of}
use Rattle.core_ports.specs.Trace.{Trace}
use Rattle.hw_pool.specs.Meaning.{Env, value}
use Rattle.hw_pool.specs.Trees.{Tree}
use Rattle.hw_module.specs.Cycle.{Held, driven_value, held_at, out_value}
use Rattle.hw_module.specs.Ports.{port_at}
use Rattle.service_reg.specs.declared.service.Service.{Service}
use Rattle.plug_part.specs.Part.{Part}
use Rattle.plug_build.specs.Run.{run_of}
use Rattle.plug_build.specs.World.{World}
use Rattle.plug_build.proofs.Holds.{holds}
use Rattle.plug_build.proofs.PartRuns.{runs_part}
use Rattle.part_laws.specs.Joined.{CoreTerms, RunsParts, Services}
use Rattle.part_laws.specs.ModuleRuns.{IsModuleRun, ShowsPorts}
use Rattle.part_laws.specs.Pipes.{PipeOwn}
use Rattle.verilog_mean.specs.Cycle.{State}
use Rattle.verilog_mean.specs.CorePorts.{HasCorePorts}
use Rattle.verilog_mean.specs.Plain.{Plain}
use Rattle.verilog_mean.specs.Run.{Inputs, IsInput, IsStart, trace_of}
use Rattle.module_netlist.specs.Means.{Means, held_by}
use Rattle.module_agree.specs.Traces.{numbered}
use Rattle.module_agree.proofs.Traces.{inputs_fit, shows_module}
use Rattle.core_refine.specs.Piped.{IsPiped, parts_in}
use Rattle.cached_law.specs.Cached.{CachedModules, CachedTrees}
use Rattle.cached_law.proofs.Runs.{cached_runs}

module _ (v : CoreTerms) (takes : ℕ → Service → Bool) (x : Services) (own : PipeOwn) (w : World) (is : IsPiped v takes x own w) where
  abbrev part : ℕ → Part
  part = parts_in takes w

  module _ (s : Held) (ins : ℕ → ℕ → ℕ) (goes : IsModuleRun w.design s ins) (run' : Trace) (shows : ShowsPorts w.design w.pool.nodes s ins run') where
    abbrev run : ℕ → Env
    run = run_of w.design w.pool.nodes s ins

    abbrev out_at : ℕ → ℕ → ℕ
    out_at k q = out_value w.design w.pool.nodes (held_at w.design w.pool.nodes s ins k) (ins k) q

    out_is : (i q : ℕ) (tree : Tree) → (part i).outs q ≡ Some tree → (k : ℕ) → out_at k q ≡ value (run k) tree
    out_is i q tree o k = let net = (holds (takes i) i w).outs q tree o in ap (driven_value (run k) w.pool.nodes) net.1 ∙ ap (value (run k)) net.2

    runs_parts : RunsParts part run run'
    runs_parts = record {
      parts = λ i. runs_part (takes i) i w is.fits is.is_pool is.is_module s goes.held ins goes.inputs goes.first goes.later;
      inputs = λ k q l o. shows k q l ∙ ap (λ b. cond b (ins k q) (out_at k q)) o;
      outs = λ i q tree l o there k. shows k q l ∙ ap (λ b. cond b (ins k q) (out_at k q)) o ∙ out_is i q tree there k;
    }

  module _ (t : Plain) (means : Means w.design w.pool.nodes t) (ports : HasCorePorts t) (contents : State) (start : IsStart t.items contents) (ins : Inputs) (is_ins : IsInput t ins) where
    shows_text : ShowsPorts w.design w.pool.nodes (held_by w.design contents) (numbered ins) (trace_of t contents ins)
    shows_text = shows_module w.design w.pool is.fits.drivers t means contents ins ports

    text_run : IsModuleRun w.design (held_by w.design contents) (numbered ins)
    unfolding port_at name_of
    text_run = record { held = (means.start contents).0 start; inputs = inputs_fit t ports ins is_ins; first = is_ins.first; later = is_ins.later }

pub cached_modules : CachedModules
cached_modules v takes x own w is =
    let cached = cached_runs v (parts_in takes w) x is.joined is.planned in (
      cached.0,
      cached.1,
      λ lines words part_is s ins goes run' shows memory is_memory n honest.
          cached.2 lines words part_is own (run_of w.design w.pool.nodes s ins) run' (runs_parts v takes x own w is s ins goes run' shows) (is.steps s ins goes run' shows) memory is_memory n honest,
    )

pub cached_trees : CachedTrees
cached_trees v takes x own w is t means ports =
    let cached = cached_modules v takes x own w is in (
      cached.0,
      cached.1,
      λ lines words part_is contents start ins is_ins memory is_memory n honest.
          cached.2 lines words part_is (held_by w.design contents) (numbered ins) (text_run v takes x own w is t means ports contents start ins is_ins) (trace_of t contents ins)
          (shows_text v takes x own w is t means ports contents start ins is_ins) memory is_memory n honest,
    )
