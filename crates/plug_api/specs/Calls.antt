-- What the two calls need in which a plug-in builds, and what they leave.
use Rattle.std.specs.Prelude.{◌≡◌, ℕ, ◌+◌, ◌*◌, ◌/◌, ◌%◌, ◌<◌, ◌≤◌, ◌||◌, ◌&&◌, Bool, true, cond, eqb, List, [], ◌∷◌, length, get_or, None}
use Rattle.isa_table.specs.declared.claim.Claim.{Claim}
use Rattle.stage_map.specs.declared.config.CoreShape.{CoreShape}
use Rattle.stage_map.specs.declared.config.Stage.TheVariants as stage
use Rattle.hw_module.specs.Rows.{ModuleValue, wire_at, out_at}
use Rattle.service_reg.specs.declared.service.Service.{Service}
use Rattle.service_reg.specs.declared.service.Service.TheVariants.{Fetch, Predict, Decoder, RegFile, Hazard, Exec, DataBus, System}
use Rattle.service_ports.specs.Registry.{RegistryValue, single}
use Rattle.plug_part.specs.Owned.{is_predict_input, offers, is_fetch_out, is_bus_out}
use Rattle.plug_part.specs.Terms.{PartTerms, terms_from}
use Rattle.plug_api.specs.declared.spec.PlugSpec.{PlugSpec}
use Rattle.plug_api.specs.declared.spec.Plan.{Plan}
use Rattle.plug_api.specs.Spec.{is_among, is_commit, no_claim, IsOfTable}
use Rattle.plug_api.specs.Rules.{Overlap}

-- ---- plans

-- a shape that a configuration may have, so far with the commit in execute
pub record IsShape (shape : CoreShape) : Type 0 where
  pub at_least : 2 ≤ shape.stages
  pub at_most : shape.stages ≤ 4
  pub aligned : shape.reset_pc % 4 ≡ 0
  pub commit : shape.commit ≡ stage.Execute

-- the claims of an entry, in their order
abbrev pub rows_by : (entry : ℕ) → (claims : List Claim) → (owners : List ℕ) → List Claim
rows_by entry [] owners = []
rows_by entry (c ∷ cs) [] = []
rows_by entry (c ∷ cs) (o ∷ os) = cond (eqb o entry) (c ∷ rows_by entry cs os) (rows_by entry cs os)

-- a plan by which a plug-in may build as the entry of this number
pub record IsLawful (spec : PlugSpec) (plan : Plan) (entry : ℕ) : Type 0 where
  pub shape : IsShape plan.shape
  pub few : length plan.picks ≤ 32
  pub there : entry < length plan.picks
  -- each claim has its entry
  pub each : length plan.rows ≡ length plan.owners
  pub owned : (k : ℕ) → k < length plan.owners → get_or plan.owners k 0 < length plan.picks
  -- the claims are of the table, no two of one row, and no word meets two of them
  pub in_table : (k : ℕ) → k < length plan.rows → IsOfTable (get_or plan.rows k no_claim)
  pub rows_differ : (j k : ℕ) → j < k → k < length plan.rows → (get_or plan.rows j no_claim).row ≡ (get_or plan.rows k no_claim).row → ⊥
  pub apart : (j k : ℕ) → j < k → k < length plan.rows → Overlap (get_or plan.rows j no_claim) (get_or plan.rows k no_claim) → ⊥
  -- those of this entry are the plug-in's
  pub own : rows_by entry plan.rows plan.owners ≡ spec.rows

-- half of what a plug-in may fill of the module: how much it may in each of the two calls
abbrev pub half_cost : PlugSpec → Plan → ℕ
half_cost spec plan = (spec.cost.fixed + spec.cost.per_row * length plan.rows) / 2

-- what the plan and what the plug-in says of itself lay down of its part
abbrev pub terms_of : PlugSpec → Plan → PartTerms
terms_of spec plan = terms_from plan.rows plan.owners plan.has_csr plan.shape.reset_pc spec.rows (is_commit spec.place) (is_among spec.offers DataBus) spec.latency

-- ---- services

-- the services of others that a plug-in takes
abbrev pub takes_of : PlugSpec → Service → Bool
takes_of spec s = is_among spec.needs s || is_among spec.uses s

-- none of its services but Exec is offered yet
abbrev pub AreUnoffered : PlugSpec → RegistryValue → Type 0
AreUnoffered spec reg = (s : Service) → is_among spec.offers s ≡ true → single reg s ≡ None

-- an entry offers the services that a plug-in says, and no other
abbrev pub OffersItsOwn : PlugSpec → (entry : ℕ) → RegistryValue → Type 0
OffersItsOwn spec entry reg = (s : Service) → offers reg entry s ≡ is_among spec.offers s

-- a service is offered by some entry
abbrev pub IsThere : RegistryValue → Service → Type 0
IsThere reg Fetch = single reg Fetch ≡ None → ⊥
IsThere reg Predict = single reg Predict ≡ None → ⊥
IsThere reg Decoder = single reg Decoder ≡ None → ⊥
IsThere reg RegFile = single reg RegFile ≡ None → ⊥
IsThere reg Hazard = single reg Hazard ≡ None → ⊥
IsThere reg Exec = reg.execs ≡ [] → ⊥
IsThere reg DataBus = single reg DataBus ≡ None → ⊥
IsThere reg System = single reg System ≡ None → ⊥

-- what a plug-in needs is offered
abbrev pub AreThere : PlugSpec → RegistryValue → Type 0
AreThere spec reg = (s : Service) → is_among spec.needs s ≡ true → IsThere reg s

-- ---- drivers

-- the outputs of the core that a plug-in is to drive have no driver
abbrev pub AreOutsOpen : PlugSpec → ModuleValue → Type 0
AreOutsOpen spec m = (p : ℕ) → ((is_among spec.offers Fetch && is_fetch_out p) || (is_among spec.offers DataBus && is_bus_out p)) ≡ true → out_at m.outs p ≡ None

-- the inputs of Predict, which what offers Fetch drives, have no driver
abbrev pub IsPredictOpen : PlugSpec → RegistryValue → ModuleValue → Type 0
IsPredictOpen spec reg m = is_among spec.offers Fetch ≡ true → (k : ℕ) → is_predict_input reg k ≡ true → (wire_at m.wires k).driver ≡ None
