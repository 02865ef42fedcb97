-- What a plug-in may say of itself.
use Rattle.std.specs.Prelude.{◌≡◌, ◌<◌, ◌≤◌, ◌⊎◌, ◌||◌, ℕ, Bool, true, false, eqb, List, [], length, get_or, Option, None, Some}
use Rattle.std.specs.List.{list_any}
use Rattle.isa_table.specs.declared.claim.Claim.{Claim}
use Rattle.isa_table.specs.declared.row.Group.TheVariants.{Load, Store}
use Rattle.isa_table.specs.Rows.{table, lui}
use Rattle.service_reg.specs.declared.service.Service.{Service}
use Rattle.service_reg.specs.declared.service.Service.TheVariants.{Fetch, Exec, DataBus, System}
use Rattle.service_reg.specs.Services.{number}
use Rattle.plug_api.specs.declared.spec.Place.{Place}
use Rattle.plug_api.specs.declared.spec.Place.TheVariants.{Execute, Commit, Apart}
use Rattle.plug_api.specs.declared.spec.PlugSpec.{PlugSpec}
use Rattle.plug_api.specs.declared.spec.ParamFault.{ParamFault}
use Rattle.plug_api.specs.declared.spec.ParamFault.TheVariants.{NoMemory}
use Rattle.stage_map.specs.declared.config.PlugEntry.{PlugEntry}

-- what stands where there is no claim
abbrev pub no_claim : Claim
no_claim = record { mask = 0; value = 0; row = 0 }

-- what stands where there is no spec
abbrev pub no_spec : PlugSpec
no_spec = record { name = []; offers = []; needs = []; uses = []; rows = []; keys = []; latency = (0, 0); cost = record { fixed = 0; per_row = 0 }; place = Apart }

-- one of a list
abbrev pub is_among : List Service → Service → Bool
is_among services s = list_any (λ t. eqb (number t) (number s)) services

-- a place in the pipeline
abbrev pub has_place : Place → Bool
has_place Execute = true
has_place Commit = true
has_place Apart = false

-- the place of what commits
abbrev pub is_commit : Place → Bool
is_commit Execute = false
is_commit Commit = true
is_commit Apart = false

-- the claim of a row of the table by number, 0 to 56
pub record IsOfTable (claim : Claim) : Type 0 where
  pub known : claim.row < 57
  pub mask : claim.mask ≡ (get_or table claim.row lui).mask
  pub value : claim.value ≡ (get_or table claim.row lui).value

-- a row of loads or stores
abbrev pub IsOfBus : ℕ → Type 0
IsOfBus row = ((get_or table row lui).group ≡ Load) ⊎ ((get_or table row lui).group ≡ Store)

pub record IsSpec (spec : PlugSpec) : Type 0 where
  pub fixed : spec.cost.fixed ≤ 65535
  pub per_row : spec.cost.per_row ≤ 255
  pub few_rows : length spec.rows ≤ 64
  pub few_keys : length spec.keys ≤ 32
  -- the claims are of the table, and no two of one row
  pub in_table : (k : ℕ) → k < length spec.rows → IsOfTable (get_or spec.rows k no_claim)
  pub rows_differ : (j k : ℕ) → j < k → k < length spec.rows → (get_or spec.rows j no_claim).row ≡ (get_or spec.rows k no_claim).row → ⊥
  -- no service is offered twice
  pub offers_differ : (j k : ℕ) → j < k → k < length spec.offers → get_or spec.offers j Fetch ≡ get_or spec.offers k Fetch → ⊥
  -- what executes instructions has a place in the pipeline
  pub executes : is_among spec.offers Exec ≡ has_place spec.place
  -- what claims a row executes instructions
  pub units : (k : ℕ) → k < length spec.rows → is_among spec.offers Exec ≡ true
  -- loads and stores are of what has the data bus, and rows 49 to 56 of what has the system registers
  pub loads : (k : ℕ) → k < length spec.rows → IsOfBus (get_or spec.rows k no_claim).row → is_among spec.offers DataBus ≡ true
  pub system : (k : ℕ) → k < length spec.rows → 49 ≤ (get_or spec.rows k no_claim).row → is_among spec.offers System ≡ true
  -- these two are used by the instruction that commits
  pub commits : (is_among spec.offers DataBus || is_among spec.offers System) ≡ true → is_commit spec.place ≡ true

-- what a plug-in finds of entries and says of itself once it took one: want of memory is no fault of an entry, and what it
-- says a plug-in may say
pub record IsSound (fault : PlugEntry → Option ParamFault) (taken : PlugEntry → PlugSpec) : Type 0 where
  pub no_memory : (e : PlugEntry) → fault e ≡ Some NoMemory → ⊥
  pub fit : (e : PlugEntry) → fault e ≡ None → IsSpec (taken e)
