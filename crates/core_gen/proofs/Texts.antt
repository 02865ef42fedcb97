-- The text that means a module of the boxes of an accepted plan and its pipeline is a core's.
use Rattle.std.proofs.Common.{◌≡◌, ◌∙◌, ℕ, ◌-◌, ◌^◌, ◌<◌, List, length, arith, ap, sym, subst, Option, inl, inr}
use Rattle.std.proofs.lemmas.Bool.{cases_lt}
use Rattle.std.proofs.lemmas.List.{get_or_past}
use Rattle.hw_pool.specs.Nodes.{IsPool}
use Rattle.hw_module.specs.Rows.{IsModule}
use Rattle.isa_table.proofs.Numbers.{in_table}
use Rattle.isa_model.specs.Machine.{IsBuilt}
use Rattle.stage_map.specs.declared.config.Config.{Config}
use Rattle.stage_map.specs.declared.config.PlugEntry.{PlugEntry}
use Rattle.plug_law.specs.Pipeline.{Shape, Steps}
use Rattle.plug_part.specs.Part.{Part}
use Rattle.plug_part.specs.Terms.{set_from}
use Rattle.plug_build.specs.World.{World}
use Rattle.plug_api.specs.declared.spec.ParamFault.{ParamFault}
use Rattle.plug_api.specs.declared.spec.Plan.{Plan}
use Rattle.plug_api.specs.declared.spec.PlugSpec.{PlugSpec}
use Rattle.plug_api.specs.Spec.{is_commit, no_spec}
use Rattle.plug_api.specs.Accept.{IsAccepted, IsLeftShort, MayBe}
use Rattle.plug_api.specs.Picks.{AreConfigured, AreShaped}
use Rattle.part_laws.specs.Joined.{CoreTerms, Services, shape_in}
use Rattle.part_laws.specs.Pipes.{PipeOwn, pipe_of}
use Rattle.pipe_steps.specs.Numbers.{own_from, things_from}
use Rattle.pipe_steps.specs.Things.{PipeThings}
use Rattle.pipe_steps.proofs.Module.{takes_steps}
use Rattle.pipe_join.specs.Pipelined.{IsPipelined}
use Rattle.verilog_mean.specs.Erase.{plain_tree}
use Rattle.module_netlist.specs.Means.{IsModuleText}
use Rattle.core_parts.specs.Laid.{said_by, takes_by, services_by, terms_by}
use Rattle.core_parts.proofs.Facts.{Facts, facts, any, said_is}
use Rattle.core_parts.proofs.Joins.{joins}
use Rattle.core_parts.proofs.Plans.{plans, claim_at, law}
use Rattle.core_refine.specs.Piped.{IsPiped, TakesSteps}
use Rattle.core_refine.proofs.Refined.{refined}
use Rattle.core_gen.specs.Generated.{IsBoxText, IsGenerated, IsPlanText}

-- a shape with these parts is this one
same_shape : (a b : Shape) → a.entries ≡ b.entries → ((k : ℕ) → a.commits k ≡ b.commits k) → a.system ≡ b.system → a.holds ≡ b.holds → a.reset_pc ≡ b.reset_pc → a.stages ≡ b.stages → a ≡ b
same_shape a b entries commits system holds reset stages =
    λ i. record { entries = entries i; commits = λ k. commits k i; system = system i; holds = holds i; reset_pc = reset i; stages = stages i }

module _ {B : Type 0} (kind : B → List ℕ) (taken : B → Option PlugEntry) (now : B → PlugSpec) (fault : B → PlugEntry → Option ParamFault) (spec : B → PlugEntry → PlugSpec)
    (test : B → Plan → Part → Type 0) (old new : List B) (cfg : Config) (plan : Plan) (w : World) (may : MayBe cfg) (is : IsAccepted kind fault spec old cfg plan)
    (configured : AreConfigured kind taken now fault spec old new plan.picks cfg.entries (length cfg.entries)) (piped : IsPipelined now test new plan w)
    (is_pool : IsPool w.pool.nodes) (is_module : IsModule w.design) (addressed : plan.shape.reset_pc < 2 ^ 32) where
  abbrev specs : List PlugSpec
  specs = is.specs

  known : Facts plan specs w
  known = facts kind taken now fault spec old new cfg plan w may is configured piped.joined.built

  abbrev v : CoreTerms
  v = terms_by specs plan w.reg

  abbrev x : Services
  x = services_by specs w

  abbrev own : PipeOwn
  own = own_from piped.register w.reg.execs (piped.shape.stages - 2)

  abbrev things : PipeThings
  things = things_from w.pool.nodes piped.wire piped.register w.reg.execs x piped.shape

  -- the pipeline's shape is the plan's
  commits_are : (k : ℕ) → piped.shape.commits k ≡ is_commit (said_by specs k).place
  commits_are k = elim (cases_lt k (length specs)) [
    | inl l ↦
        let size = known.size in
        let d = any kind taken now fault spec old new cfg plan w may is configured piped.joined.built k l in
        piped.shape_is.commits d k (omega (arith, l, size)) ∙ ap (λ (p : PlugSpec). is_commit p.place) (said_is kind taken now fault spec old new cfg plan w may is configured piped.joined.built d k l)
    | inr past ↦
        let size = known.size in
        piped.shape_is.no_more k (omega (arith, past, size)) ∙ ap (λ (p : PlugSpec). is_commit p.place) (sym (get_or_past specs k no_spec past))
  ]

  shape_is : piped.shape ≡ shape_in v x
  shape_is =
      let line = piped.pipeline (takes_by specs) in
      same_shape piped.shape (shape_in v x) line.entries commits_are line.system piped.shape_is.holds piped.shape_is.reset piped.shape_is.stages

  steps : TakesSteps v x own w
  steps s ins run run' shows =
      subst (λ (h : Shape). Steps h (pipe_of own x _) run') shape_is
      (takes_steps (takes_by specs) w piped.fits is_pool is_module things (piped.pipeline (takes_by specs)) s ins run run' shows)

  is_piped : IsPiped v (takes_by specs) x own w
  is_piped = record {
    fits = piped.fits;
    is_pool = is_pool;
    is_module = is_module;
    joined = joins plan specs w known;
    planned = plans plan specs w known;
    steps = steps;
  }

  -- the set has only rows of the table
  built : IsBuilt (set_from plan.rows plan.has_csr)
  built number claimed =
      let k = claim_at plan.rows number claimed in
      in_table number (subst (λ n. n < 57) k.1.1 ((law plan specs w known).in_table k.0 k.1.0).known)

  pub box_text : (text : List ℕ) → IsModuleText w.design w.pool.nodes text → IsBoxText now test new plan specs text
  box_text text m =
      let r = refined v (takes_by specs) x own w is_piped (plain_tree m.tree) m.means m.ports in
      record {
        world = w;
        piped = piped;
        chosen = r.0;
        short = m.short;
        core = record {
          built = built;
          aligned = known.aligned;
          addressed = addressed;
          tree = m.tree;
          one_reading = m.one_reading;
          sound = m.sound;
          refines = r.1;
          tree_claim = m.means;
        };
      }

  pub generated : (test_for : B → PlugEntry → Plan → Part → Type 0) → AreShaped test test_for old new plan.picks cfg.entries (length cfg.entries)
      → (text : List ℕ) → IsModuleText w.design w.pool.nodes text → IsGenerated kind taken now fault spec test test_for old new cfg text
  generated test_for shaped text m = record { plan = plan; accepted = is; configured = configured; shaped = shaped; core = box_text text m }

-- the text of a module of boxes and pipeline, by an accepted plan
pub from_plan : {B : Type 0} (kind : B → List ℕ) (taken : B → Option PlugEntry) (now : B → PlugSpec) (fault : B → PlugEntry → Option ParamFault) (spec : B → PlugEntry → PlugSpec)
    (test : B → Plan → Part → Type 0) (test_for : B → PlugEntry → Plan → Part → Type 0) (old new : List B) (cfg : Config) (plan : Plan) → MayBe cfg → IsAccepted kind fault spec old cfg plan
    → AreConfigured kind taken now fault spec old new plan.picks cfg.entries (length cfg.entries) → AreShaped test test_for old new plan.picks cfg.entries (length cfg.entries)
    → plan.shape.reset_pc < 2 ^ 32
    → (text : List ℕ) → IsPlanText now test new plan text → IsGenerated kind taken now fault spec test test_for old new cfg text
from_plan kind taken now fault spec test test_for old new cfg plan may is configured shaped addressed text t =
    generated kind taken now fault spec test old new cfg plan t.world may is configured t.piped t.is_pool t.is_module addressed test_for shaped text t.is_text

-- where memory was refused behind the acceptance, all boxes took their entries
pub left_short : {B : Type 0} (kind : B → List ℕ) (taken : B → Option PlugEntry) (now : B → PlugSpec) (fault : B → PlugEntry → Option ParamFault) (spec : B → PlugEntry → PlugSpec)
    (old new : List B) (cfg : Config) (plan : Plan) → IsAccepted kind fault spec old cfg plan
    → AreConfigured kind taken now fault spec old new plan.picks cfg.entries (length cfg.entries) → IsLeftShort kind taken now fault spec old new cfg
left_short kind taken now fault spec old new cfg plan is configured =
    inr (length cfg.entries, omega arith, record { picks = plan.picks; named = is.known.named; configured = configured })
