-- The text of a core that boxes built, by the plan of an accepted configuration.
use Rattle.std.specs.Prelude.{◌-◌, ◌≤◌, ℕ, List, Option, length}
use Rattle.hw_pool.specs.Nodes.{IsPool}
use Rattle.hw_module.specs.Rows.{IsModule}
use Rattle.stage_map.specs.declared.config.Config.{Config}
use Rattle.stage_map.specs.declared.config.PlugEntry.{PlugEntry}
use Rattle.plug_part.specs.Part.{Part}
use Rattle.plug_part.specs.Terms.{set_from}
use Rattle.plug_build.specs.World.{World}
use Rattle.plug_api.specs.declared.spec.ParamFault.{ParamFault}
use Rattle.plug_api.specs.declared.spec.Plan.{Plan}
use Rattle.plug_api.specs.declared.spec.PlugSpec.{PlugSpec}
use Rattle.plug_api.specs.Accept.{IsAccepted}
use Rattle.plug_api.specs.Picks.{AreConfigured, AreShaped}
use Rattle.part_laws.specs.Follow.{Chosen}
use Rattle.pipe_steps.specs.Numbers.{own_from}
use Rattle.pipe_join.specs.Pipelined.{IsPipelined}
use Rattle.verilog_mean.specs.Erase.{plain_tree}
use Rattle.module_netlist.specs.Means.{Means, IsModuleText}
use Rattle.pipe_refine.specs.CoreText.{IsCoreTextWith}
use Rattle.core_parts.specs.Laid.{part_by, services_by, terms_by}
use Rattle.core_refine.specs.Piped.{core_claim}

-- the text means a module of the boxes' parts and the plan's pipeline, and is the only reading of it
pub record IsPlanText {B : Type 0} (now : B → PlugSpec) (test : B → Plan → Part → Type 0) (boxes : List B) (plan : Plan) (text : List ℕ) : Type 0 where
  pub world : World
  pub piped : IsPipelined now test boxes plan world
  pub is_pool : IsPool world.pool.nodes
  pub is_module : IsModule world.design
  pub is_text : IsModuleText world.design world.pool.nodes text

-- The text is a core of the plan's instructions and reset pc. Its tree means a module of the boxes' parts and the plan's pipeline, and
-- each of its runs that follows the machine is served by these parts, has no long gaps, and overlaps.
pub record IsBoxText {B : Type 0} (now : B → PlugSpec) (test : B → Plan → Part → Type 0) (boxes : List B) (plan : Plan) (specs : List PlugSpec) (text : List ℕ) : Type 0 where
  pub world : World
  pub piped : IsPipelined now test boxes plan world
  pub chosen : Chosen (services_by specs world)
  -- short enough to be read
  pub short : length text ≤ 16777216
  pub core : IsCoreTextWith (set_from plan.rows plan.has_csr) plan.shape.reset_pc
      (core_claim (terms_by specs plan world.reg) (part_by specs world) (services_by specs world) (own_from piped.register world.reg.execs (piped.shape.stages - 2)) chosen)
      (λ tree. Means world.design world.pool.nodes (plain_tree tree)) text

-- all rules hold of the configuration, the boxes took its entries, the tests of their parts are those of these entries, and the text is what
-- they built
pub record IsGenerated {B : Type 0} (kind : B → List ℕ) (taken : B → Option PlugEntry) (now : B → PlugSpec) (fault : B → PlugEntry → Option ParamFault) (spec : B → PlugEntry → PlugSpec)
    (test : B → Plan → Part → Type 0) (test_for : B → PlugEntry → Plan → Part → Type 0) (old new : List B) (cfg : Config) (text : List ℕ) : Type 0 where
  pub plan : Plan
  pub accepted : IsAccepted kind fault spec old cfg plan
  pub configured : AreConfigured kind taken now fault spec old new plan.picks cfg.entries (length cfg.entries)
  pub shaped : AreShaped test test_for old new plan.picks cfg.entries (length cfg.entries)
  pub core : IsBoxText now test new plan accepted.specs text
