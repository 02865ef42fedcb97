-- What the boxes leave to the pipeline, and what there is when it is built.
use Rattle.std.proofs.Common.{◌≡◌, ◌∙◌, ℕ, ◌<◌, ◌&&◌, Bool, true, List, length, get_or, refl, ap, is_some, Option, None, Some}
use Rattle.hw_module.specs.declared.rows.Owner.TheVariants.{Pipe, Entry}
use Rattle.hw_module.specs.Rights.{Rights}
use Rattle.hw_module.specs.Rows.{wire_at}
use Rattle.service_reg.specs.declared.service.Service.{Service}
use Rattle.service_reg.specs.declared.service.Service.TheVariants.{Fetch, Decoder, RegFile, Hazard}
use Rattle.service_ports.specs.Ports.{Ports}
use Rattle.service_ports.specs.Registry.{RegistryValue, Offered, single}
use Rattle.service_ports.proofs.Offers.{own_of}
use Rattle.plug_part.specs.Part.{Part}
use Rattle.plug_part.specs.Owned.{is_predict_input, offers}
use Rattle.plug_build.specs.World.{World, Builds}
use Rattle.plug_build.specs.Fits.{WorldFits}
use Rattle.plug_build.specs.Frame.{Leaves}
use Rattle.plug_api.specs.declared.spec.Plan.{Plan}
use Rattle.plug_api.specs.declared.spec.PlugSpec.{PlugSpec}
use Rattle.plug_api.specs.Calls.{IsShape}
use Rattle.plug_join.specs.Joined.{entry_at, AreBuilt, IsBuildable, IsJoined, IsLeft}
use Rattle.plug_join.proofs.Ends.{element, joined_stays}
use Rattle.pipe_build.specs.Ready.{IsReady, shape_by}
use Rattle.part_laws.specs.Registered.{services_of}
use Rattle.pipe_steps.specs.Numbers.{things_from}
use Rattle.pipe_steps.specs.Steps.{IsPipeline}
use Rattle.pipe_drive.specs.Rights.{AreDone}
use Rattle.pipe_join.specs.Pipelined.{AreCommits, IsPipelined, IsShapeOf}

pipe_other : (entry : ℕ) → Pipe ≡ Entry entry → ⊥
pipe_other entry e = cc

module _ {B : Type 0} (spec : B → PlugSpec) (boxes : List B) (plan : Plan) where
  -- entries have driven what is theirs
  pub are_done : (w : World) → IsLeft plan w → AreBuilt spec boxes plan w → AreDone w.reg w.design
  are_done w left built = record {
    wires = λ k l none. let e = left.wires k l none in (entry_at plan e.0, e.1.1);
    predict = λ k is. by k is (single w.reg Fetch) refl;
    regs = left.regs;
    arrays = left.arrays;
    outs = left.driven;
  }
    where
      by : (k : ℕ) → is_predict_input w.reg k ≡ true → (o : Option Offered) → single w.reg Fetch ≡ o → (wire_at w.design.wires k).driver ≡ None → ⊥
      by k is None e none = left.there Fetch refl e
      by k is (Some o) e none =
          let offer : offers w.reg o.by Fetch ≡ true = ap (λ (p : Option Ports). is_some p) (own_of w.reg o.by Fetch o.ports e) in
          (built.done o.by (built.singles Fetch o e)).drives k (ap (λ b. b && is_predict_input w.reg k) offer ∙ is) none

  -- a box of an entry that offers Fetch, which every core has
  some_box : IsBuildable spec boxes plan → (entry : ℕ) × ((entry < length plan.picks) × B)
  some_box ok = let j = ok.core Fetch refl in let e = entry_at plan j.0 in let l = ok.inside j.0 j.1.0 in (e, (l, element boxes (get_or plan.picks e 0) (ok.picked e l)))

  pub shape_fits : IsBuildable spec boxes plan → IsShape plan.shape
  shape_fits ok = let b = some_box ok in (ok.lawful b.1.1 b.0 b.1.0).shape

  pub ready : (w : World) → IsLeft plan w → AreBuilt spec boxes plan w → IsReady w
  ready w left built = record {
    done = are_done w left built;
    inputs = left.inputs;
    outs = left.outs;
    fetch = left.there Fetch refl;
    decoder = left.there Decoder refl;
    regs = left.there RegFile refl;
    hazard = left.there Hazard refl;
    few = left.few;
  }

  -- the shape of the pipeline is the plan's
  shape_is : (reg : RegistryValue) (commits : List Bool) → AreCommits spec boxes plan.picks (length plan.picks) commits
      → IsShapeOf spec boxes plan reg (shape_by plan.shape.stages plan.shape.reset_pc commits reg)
  shape_is reg commits are = record {
    stages = refl;
    reset = refl;
    commits = λ d entry l. are.are d entry l;
    no_more = λ entry l. are.no_more entry l;
    holds = refl;
  }

  pub pipelined : (test : B → Plan → Part → Type 0) (old new : World) (r : Rights) (most : ℕ) → IsJoined spec test boxes plan old → WorldFits old → Builds Pipe r most old new → new.reg ≡ old.reg
      → ((takes : Service → Bool) (entry : ℕ) → Leaves takes entry r old new) → WorldFits new → (commits : List Bool) → AreCommits spec boxes plan.picks (length plan.picks) commits → (wire register : ℕ)
      → ((takes : ℕ → Service → Bool) → IsPipeline takes new (things_from new.pool.nodes wire register new.reg.execs (services_of takes new.pool.nodes new.reg) (shape_by plan.shape.stages plan.shape.reset_pc commits new.reg)))
      → IsPipelined spec test boxes plan new
  pipelined test old new r most joined fits builds same leaves new_fits commits are wire register pipeline = record {
    fits = new_fits;
    joined = joined_stays spec boxes plan Pipe r most old new fits pipe_other builds same (λ takes entry l. leaves takes entry) test joined;
    shape = shape_by plan.shape.stages plan.shape.reset_pc commits new.reg;
    shape_is = shape_is new.reg commits are;
    wire = wire;
    register = register;
    pipeline = pipeline;
  }
