-- A module that the boxes of a plan and the pipeline built.
use Rattle.std.specs.Prelude.{◌≡◌, ℕ, ◌<◌, ◌≤◌, Bool, false, List, length, get_or, is_some}
use Rattle.service_reg.specs.declared.service.Service.{Service}
use Rattle.service_reg.specs.declared.service.Service.TheVariants.{DataBus}
use Rattle.service_ports.specs.Registry.{RegistryValue, single}
use Rattle.plug_law.specs.Pipeline.{Shape}
use Rattle.plug_part.specs.Part.{Part}
use Rattle.plug_build.specs.World.{World}
use Rattle.plug_build.specs.Fits.{WorldFits}
use Rattle.plug_api.specs.declared.spec.Plan.{Plan}
use Rattle.plug_api.specs.declared.spec.PlugSpec.{PlugSpec}
use Rattle.plug_api.specs.Spec.{is_commit}
use Rattle.plug_join.specs.Joined.{box_of, IsJoined}
use Rattle.part_laws.specs.Registered.{entry_of, services_of}
use Rattle.pipe_steps.specs.Numbers.{things_from}
use Rattle.pipe_steps.specs.Steps.{IsPipeline}

-- which of the first entries work in the stage of the commit; the others do not
pub record AreCommits {B : Type 0} (spec : B → PlugSpec) (boxes : List B) (picks : List ℕ) (count : ℕ) (commits : List Bool) : Type 0 where
  pub are : (d : B) (entry : ℕ) → entry < count → get_or commits entry false ≡ is_commit (spec (get_or boxes (get_or picks entry 0) d)).place
  pub no_more : (entry : ℕ) → count ≤ entry → get_or commits entry false ≡ false

-- what the pipeline of a plan is laid down by
pub record IsShapeOf {B : Type 0} (spec : B → PlugSpec) (boxes : List B) (plan : Plan) (reg : RegistryValue) (shape : Shape) : Type 0 where
  pub stages : shape.stages ≡ plan.shape.stages
  pub reset : shape.reset_pc ≡ plan.shape.reset_pc
  pub commits : (d : B) (entry : ℕ) → entry < length plan.picks → shape.commits entry ≡ is_commit (spec (box_of boxes plan d entry)).place
  pub no_more : (entry : ℕ) → length plan.picks ≤ entry → shape.commits entry ≡ false
  pub holds : shape.holds ≡ is_some (entry_of (single reg DataBus))

-- The parts of the boxes are joined, and the module has the pipeline of the plan, with its forward wires and registers from two
-- numbers on.
pub record IsPipelined {B : Type 0} (spec : B → PlugSpec) (test : B → Plan → Part → Type 0) (boxes : List B) (plan : Plan) (w : World) : Type 0 where
  pub fits : WorldFits w
  pub joined : IsJoined spec test boxes plan w
  pub shape : Shape
  pub shape_is : IsShapeOf spec boxes plan w.reg shape
  pub wire : ℕ
  pub register : ℕ
  pub pipeline : (takes : ℕ → Service → Bool) → IsPipeline takes w (things_from w.pool.nodes wire register w.reg.execs (services_of takes w.pool.nodes w.reg) shape)
