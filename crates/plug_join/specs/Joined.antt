-- Boxes that build one behind the other.
use Rattle.std.specs.Prelude.{◌≡◌, ℕ, ◌+◌, ◌*◌, ◌<◌, ◌≤◌, Bool, true, false, List, length, get_or, sum_by, drop, All, None, Some}
use Rattle.hw_pool.specs.Nodes.{PoolValue}
use Rattle.hw_pool.specs.Frame.{Adds}
use Rattle.hw_module.specs.Frame.{fill_of}
use Rattle.hw_expr.specs.declared.net.Net.{Net}
use Rattle.hw_module.specs.declared.rows.Owner.TheVariants.{Entry}
use Rattle.hw_module.specs.Rows.{ModuleValue, wire_at, reg_at, array_at, out_at}
use Rattle.service_reg.specs.declared.service.Service.{Service}
use Rattle.service_reg.specs.declared.service.Service.TheVariants.{Fetch, Predict, Decoder, RegFile, Hazard, Exec, DataBus, System}
use Rattle.service_ports.specs.declared.ports.ExecOffer.{ExecOffer}
use Rattle.service_ports.specs.Registry.{Offered, RegistryValue, single}
use Rattle.plug_api.specs.declared.spec.PlugSpec.{PlugSpec}
use Rattle.plug_api.specs.declared.spec.Plan.{Plan}
use Rattle.plug_api.specs.Spec.{is_among}
use Rattle.plug_part.specs.Owned.{is_own_input, is_predict_input, is_out_of}
use Rattle.plug_build.specs.World.{World, part_in}
use Rattle.plug_build.specs.Fits.{WorldFits}
use Rattle.plug_build.specs.Done.{OwnsNothing, AreOpen, IsDone}
use Rattle.plug_part.specs.Part.{Part}
use Rattle.plug_part.specs.Meets.{MeetsLaws}
use Rattle.plug_join.specs.declared.boxes.Joined.{Joined}
use Rattle.plug_api.specs.Calls.{IsLawful, OffersItsOwn, IsPredictOpen, IsThere, half_cost, takes_of, terms_of}

-- the entry that comes at a place of the order
abbrev pub entry_at : Plan → ℕ → ℕ
entry_at plan k = get_or plan.order k 0

-- how much of what is wanted is left for the pipeline
abbrev pub pipe_share : Plan → ℕ
pipe_share plan = 8192 + 256 * length plan.order

-- the box of an entry
abbrev pub box_of : {B : Type 0} → List B → Plan → B → ℕ → B
box_of boxes plan d entry = get_or boxes (get_or plan.picks entry 0) d

-- what the boxes from a place of the order on may make in one phase
abbrev pub rest_half : {B : Type 0} → (B → PlugSpec) → List B → Plan → B → ℕ → ℕ
rest_half spec boxes plan d from = sum_by (λ entry. half_cost (spec (box_of boxes plan d entry)) plan) (drop from plan.order)

-- the services that every core needs
abbrev pub is_core : Service → Bool
is_core Fetch = true
is_core Predict = false
is_core Decoder = true
is_core RegFile = true
is_core Hazard = true
is_core Exec = false
is_core DataBus = false
is_core System = false

-- What an accepted plan says of the boxes that it picks: each entry comes once, behind those whose services it takes,
-- no service but Exec is offered twice, and each is offered that is needed, by an entry or by every core.
pub record IsBuildable {B : Type 0} (spec : B → PlugSpec) (boxes : List B) (plan : Plan) : Type 0 where
  pub size : length plan.order ≡ length plan.picks
  pub inside : (k : ℕ) → k < length plan.order → entry_at plan k < length plan.picks
  pub once : (i j : ℕ) → i < length plan.order → j < length plan.order → entry_at plan i ≡ entry_at plan j → i ≡ j
  pub all : (entry : ℕ) → entry < length plan.picks → (k : ℕ) × ((k < length plan.order) × (entry_at plan k ≡ entry))
  pub picked : (entry : ℕ) → entry < length plan.picks → get_or plan.picks entry 0 < length boxes
  pub lawful : (d : B) (entry : ℕ) → entry < length plan.picks → IsLawful (spec (box_of boxes plan d entry)) plan entry
  pub apart : (d : B) (i j : ℕ) (s : Service) → i < length plan.order → j < length plan.order → is_among (spec (box_of boxes plan d (entry_at plan i))).offers s ≡ true
      → is_among (spec (box_of boxes plan d (entry_at plan j))).offers s ≡ true → (s ≡ Exec → ⊥) → i ≡ j
  pub settled : (d : B) (i j : ℕ) (s : Service) → i ≤ j → j < length plan.order → takes_of (spec (box_of boxes plan d (entry_at plan i))) s ≡ true
      → is_among (spec (box_of boxes plan d (entry_at plan j))).offers s ≡ false
  pub met : (d : B) (i : ℕ) (s : Service) → i < length plan.order → is_among (spec (box_of boxes plan d (entry_at plan i))).needs s ≡ true
      → (j : ℕ) × ((j < length plan.order) × (is_among (spec (box_of boxes plan d (entry_at plan j))).offers s ≡ true))
  pub core : (s : Service) → is_core s ≡ true → (j : ℕ) × ((j < length plan.order) × ((d : B) → is_among (spec (box_of boxes plan d (entry_at plan j))).offers s ≡ true))

-- there is room for so many nodes and things
pub record HasRoom (cost : ℕ) (w : World) : Type 0 where
  pub room : cost ≤ w.design.room
  pub spare : cost ≤ w.pool.spare

-- how many nodes, things and drivers there are
abbrev pub size_of : World → ℕ
size_of w = length w.pool.nodes + fill_of w.design

-- each thing is of one of the first entries of the order
pub record AreOwned (plan : Plan) (count : ℕ) (d : ModuleValue) : Type 0 where
  pub wires : (k : ℕ) → k < length d.wires → (i : ℕ) × ((i < count) × ((wire_at d.wires k).owner ≡ Entry (entry_at plan i)))
  pub regs : (k : ℕ) → k < length d.regs → (i : ℕ) × ((i < count) × ((reg_at d.regs k).owner ≡ Entry (entry_at plan i)))
  pub arrays : (k : ℕ) → k < length d.arrays → (i : ℕ) × ((i < count) × ((array_at d.arrays k).owner ≡ Entry (entry_at plan i)))

-- each offer is of one of the first entries of the order
pub record AreOffersOf (plan : Plan) (count : ℕ) (reg : RegistryValue) : Type 0 where
  pub singles : (s : Service) (o : Offered) → single reg s ≡ Some o → (k : ℕ) × ((k < count) × (o.by ≡ entry_at plan k))
  pub execs : All (λ (o : ExecOffer). (k : ℕ) × ((k < count) × (o.by ≡ entry_at plan k))) reg.execs

-- after the first boxes of the order have begun; `own` is kept for what comes behind both phases
pub record EarlySoFar {B : Type 0} (spec : B → PlugSpec) (test : B → Plan → Part → Type 0) (boxes : List B) (plan : Plan) (first : PoolValue) (own count : ℕ) (w : World) : Type 0 where
  pub fits : WorldFits w
  pub begun : (d : B) (k : ℕ) → k < count → test (box_of boxes plan d (entry_at plan k)) plan (part_in (takes_of (spec (box_of boxes plan d (entry_at plan k)))) (entry_at plan k) w)
  pub offered : (d : B) (k : ℕ) → k < count → OffersItsOwn (spec (box_of boxes plan d (entry_at plan k))) (entry_at plan k) w.reg
  pub bare : (k : ℕ) → k < count → AreOpen (entry_at plan k) w
  pub fresh : (k : ℕ) → count ≤ k → k < length plan.order → OwnsNothing (entry_at plan k) w
  pub offers : AreOffersOf plan count w.reg
  pub outs : (p : ℕ) (net : Net) → out_at w.design.outs p ≡ Some net → (k : ℕ) × ((k < count) × (is_out_of w.reg (entry_at plan k) p ≡ true))
  pub room : (d : B) → HasRoom (own + rest_half spec boxes plan d 0 + rest_half spec boxes plan d count) w
  pub spent : (d : B) → size_of w + rest_half spec boxes plan d count ≤ length first.nodes + rest_half spec boxes plan d 0
  pub execs : length plan.order ≤ w.reg.room + count
  pub owners : AreOwned plan count w.design
  pub nodes : ℕ
  pub adds : Adds first w.pool nodes

-- after the first boxes of the order are done; as they began there were `base` nodes, things and drivers
pub record LateSoFar {B : Type 0} (spec : B → PlugSpec) (test test' : B → Plan → Part → Type 0) (boxes : List B) (plan : Plan) (first : PoolValue) (own base count : ℕ) (w : World) : Type 0 where
  pub fits : WorldFits w
  pub begun : (d : B) (k : ℕ) → count ≤ k → k < length plan.order → test (box_of boxes plan d (entry_at plan k)) plan (part_in (takes_of (spec (box_of boxes plan d (entry_at plan k)))) (entry_at plan k) w)
  pub offered : (d : B) (k : ℕ) → k < length plan.order → OffersItsOwn (spec (box_of boxes plan d (entry_at plan k))) (entry_at plan k) w.reg
  pub builds : (d : B) (k : ℕ) → k < count → test' (box_of boxes plan d (entry_at plan k)) plan (part_in (takes_of (spec (box_of boxes plan d (entry_at plan k)))) (entry_at plan k) w)
  pub laws : (d : B) (k : ℕ) → k < count → (p : Part) → test' (box_of boxes plan d (entry_at plan k)) plan p → MeetsLaws (terms_of (spec (box_of boxes plan d (entry_at plan k))) plan) p
  pub done : (k : ℕ) → k < count → IsDone (entry_at plan k) w
  pub owners : AreOwned plan (length plan.order) w.design
  pub offers : AreOffersOf plan (length plan.order) w.reg
  -- inputs are as they were: those of Predict aside nothing has driven them; and outputs of the core are driven by their entries alone
  pub bare : (k j : ℕ) → k < length plan.order → is_own_input w.reg (entry_at plan k) j ≡ true → is_predict_input w.reg j ≡ false → (wire_at w.design.wires j).driver ≡ None
  pub outs : (p : ℕ) (net : Net) → out_at w.design.outs p ≡ Some net → (k : ℕ) × ((k < length plan.order) × (is_out_of w.reg (entry_at plan k) p ≡ true))
  pub predict : (d : B) (k : ℕ) → count ≤ k → k < length plan.order → IsPredictOpen (spec (box_of boxes plan d (entry_at plan k))) w.reg w.design
  pub room : (d : B) → HasRoom (own + rest_half spec boxes plan d count) w
  pub spent : (d : B) → size_of w + rest_half spec boxes plan d count ≤ base + rest_half spec boxes plan d 0
  pub nodes : ℕ
  pub adds : Adds first w.pool nodes

-- The part of each entry meets the laws of its services. Each entry offers what its box says, nothing else is offered, and each has
-- driven what is its own.
pub record AreBuilt {B : Type 0} (spec : B → PlugSpec) (boxes : List B) (plan : Plan) (w : World) : Type 0 where
  pub laws : (d : B) (entry : ℕ) → entry < length plan.picks → MeetsLaws (terms_of (spec (box_of boxes plan d entry)) plan) (part_in (takes_of (spec (box_of boxes plan d entry))) entry w)
  pub offered : (d : B) (entry : ℕ) → entry < length plan.picks → OffersItsOwn (spec (box_of boxes plan d entry)) entry w.reg
  pub singles : (s : Service) (o : Offered) → single w.reg s ≡ Some o → o.by < length plan.picks
  pub execs : All (λ (o : ExecOffer). o.by < length plan.picks) w.reg.execs
  pub done : (entry : ℕ) → entry < length plan.picks → IsDone entry w

-- Besides, the part of each entry passes the test of its box.
pub record IsJoined {B : Type 0} (spec : B → PlugSpec) (test : B → Plan → Part → Type 0) (boxes : List B) (plan : Plan) (w : World) : Type 0 where
  pub parts : (d : B) (entry : ℕ) → entry < length plan.picks → test (box_of boxes plan d entry) plan (part_in (takes_of (spec (box_of boxes plan d entry))) entry w)
  pub built : AreBuilt spec boxes plan w

-- What is left for the pipeline to drive: inputs of services, and outputs of the core.
pub record IsLeft (plan : Plan) (w : World) : Type 0 where
  pub wires : (k : ℕ) → k < length w.design.wires → (wire_at w.design.wires k).driver ≡ None → (i : ℕ) × ((i < length plan.order) × (is_own_input w.reg (entry_at plan i) k ≡ true))
  pub regs : (k : ℕ) → k < length w.design.regs → (reg_at w.design.regs k).next ≡ None → ⊥
  pub arrays : (k : ℕ) → k < length w.design.arrays → (array_at w.design.arrays k).write ≡ None → ⊥
  -- none of these inputs has a driver but those of Predict, and the outputs that are driven are those of entries
  pub inputs : (entry k : ℕ) → is_own_input w.reg entry k ≡ true → is_predict_input w.reg k ≡ false → (wire_at w.design.wires k).driver ≡ None
  pub outs : (p : ℕ) (net : Net) → out_at w.design.outs p ≡ Some net → (entry : ℕ) × (is_out_of w.reg entry p ≡ true)
  pub driven : (entry p : ℕ) → is_out_of w.reg entry p ≡ true → out_at w.design.outs p ≡ None → ⊥
  -- the services that every core needs are offered, and Exec by entries of these numbers
  pub there : (s : Service) → is_core s ≡ true → IsThere w.reg s
  pub few : All (λ (o : ExecOffer). o.by < 32) w.reg.execs
  pub units : length w.reg.execs ≤ length plan.order
  -- and there is room for the pipeline, by how many entries offer Exec
  pub room : HasRoom (8192 + 256 * length w.reg.execs) w

abbrev pub joined_world : PoolValue → Joined → World
joined_world pool j = record { pool = pool; design = j.module; reg = j.registry }
