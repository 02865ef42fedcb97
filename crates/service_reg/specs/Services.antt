-- The services that entries offer, need and use: each kind of fault, the first fault, and the order of building.
use Rattle.std.specs.Prelude.{◌≡◌, ℕ, ◌<◌, ◌⊎◌, List, [], length, get_or, take, None, Some}
use Rattle.std.specs.List.{Contains}
use Rattle.service_reg.specs.declared.service.Service.{Service}
use Rattle.service_reg.specs.declared.service.Service.TheVariants.{Fetch, Predict, Decoder, RegFile, Hazard, Exec, DataBus, System}
use Rattle.service_reg.specs.declared.service.ServiceUse.{ServiceUse}
use Rattle.service_reg.specs.declared.service.ServiceRefusal.{ServiceRefusal}
use Rattle.service_reg.specs.declared.service.ServiceRefusal.TheVariants.{Missing, Double, CycleOfNeeds, NoMemory}

-- what stands for an entry beyond the end of a list
abbrev pub no_use : ServiceUse
no_use = record { offers = []; needs = []; uses = [] }

-- the entry of this number
abbrev pub use_at : List ServiceUse → ℕ → ServiceUse
use_at specs x = get_or specs x no_use

-- entry y offers the service
abbrev pub Offers : List ServiceUse → (y : ℕ) → Service → Type 0
Offers specs y s = Contains (use_at specs y).offers s

-- entry x needs the service, or uses it where it is there
abbrev pub Wants : List ServiceUse → (x : ℕ) → Service → Type 0
Wants specs x s = Contains (use_at specs x).needs s ⊎ Contains (use_at specs x).uses s

-- some entry offers the service
abbrev pub IsOffered : List ServiceUse → Service → Type 0
IsOffered specs s = (y : ℕ) × ((y < length specs) × Offers specs y s)

-- ---- services that are missing

-- the first service that nothing offers, of those that every core needs
abbrev pub IsMissingInCore : List ServiceUse → Service → Type 0
IsMissingInCore specs Fetch = IsOffered specs Fetch → ⊥
IsMissingInCore specs Decoder = IsOffered specs Fetch × (IsOffered specs Decoder → ⊥)
IsMissingInCore specs RegFile = IsOffered specs Fetch × IsOffered specs Decoder × (IsOffered specs RegFile → ⊥)
IsMissingInCore specs Hazard =
    IsOffered specs Fetch × IsOffered specs Decoder × IsOffered specs RegFile × (IsOffered specs Hazard → ⊥)
IsMissingInCore specs Predict = ⊥
IsMissingInCore specs Exec = ⊥
IsMissingInCore specs DataBus = ⊥
IsMissingInCore specs System = ⊥

-- the services that every core needs are offered
pub record HasCore (specs : List ServiceUse) : Type 0 where
  pub fetch : IsOffered specs Fetch
  pub decoder : IsOffered specs Decoder
  pub reg_file : IsOffered specs RegFile
  pub hazard : IsOffered specs Hazard

-- what entry x needs
abbrev pub needs_at : List ServiceUse → (x : ℕ) → List Service
needs_at specs x = (use_at specs x).needs

-- the first n services of a list are offered
abbrev pub AreOffered : List ServiceUse → List Service → (n : ℕ) → Type 0
AreOffered specs services n = (i : ℕ) → i < n → IsOffered specs (get_or services i Fetch)

-- what the first n entries need is offered
abbrev pub NeedsMet : List ServiceUse → (n : ℕ) → Type 0
NeedsMet specs n = (x : ℕ) → x < n → AreOffered specs (needs_at specs x) (length (needs_at specs x))

-- Entry x needs the service, which nothing offers; it is the first such need, by entry and then by place.
pub record IsFirstUnmet (specs : List ServiceUse) (x : ℕ) (s : Service) : Type 0 where
  pub entry : x < length specs
  pub entries : NeedsMet specs x
  pub at : ℕ
  pub there : at < length (needs_at specs x)
  pub service : get_or (needs_at specs x) at Fetch ≡ s
  pub before : AreOffered specs (needs_at specs x) at
  pub missing : IsOffered specs s → ⊥

-- ---- services that two entries offer

-- the place of a service in the order of services
abbrev pub number : Service → ℕ
number Fetch = 0
number Predict = 1
number Decoder = 2
number RegFile = 3
number Hazard = 4
number Exec = 5
number DataBus = 6
number System = 7

-- the entries a and b offer the service
pub record IsDouble (specs : List ServiceUse) (s : Service) (a b : ℕ) : Type 0 where
  pub less : a < b
  pub entry : b < length specs
  pub first : Offers specs a s
  pub second : Offers specs b s

-- of the first n services each but Exec is offered by at most one entry
abbrev pub OfferedOnce : List ServiceUse → (n : ℕ) → Type 0
OfferedOnce specs n = (s : Service) → number s < n → (s ≡ Exec → ⊥) → (a b : ℕ) → IsDouble specs s a b → ⊥

-- the pair of c and d comes before that of a and b
abbrev pub PairComesBefore : (c d a b : ℕ) → Type 0
PairComesBefore c d a b = (c < a) ⊎ ((c ≡ a) × (d < b))

-- no pair of entries before a and b offers the service
abbrev pub NoPairBefore : List ServiceUse → Service → (a b : ℕ) → Type 0
NoPairBefore specs s a b = (c d : ℕ) → PairComesBefore c d a b → IsDouble specs s c d → ⊥

-- The service is not Exec, and a and b both offer it; they are the first such, by service and then by entries.
pub record IsFirstDouble (specs : List ServiceUse) (s : Service) (a b : ℕ) : Type 0 where
  pub not_exec : s ≡ Exec → ⊥
  pub double : IsDouble specs s a b
  pub services : OfferedOnce specs (number s)
  pub pairs : NoPairBefore specs s a b

-- ---- entries that stand on one another

-- Entry x stands directly on entry y, which offers a service that x needs or uses.
pub record StandsOn (specs : List ServiceUse) (x y : ℕ) : Type 0 where
  pub entry : x < length specs
  pub other : y < length specs
  pub service : Service
  pub wants : Wants specs x service
  pub offers : Offers specs y service

-- Entry x stands on entry y, directly or by others between.
pub data LeadsTo (specs : List ServiceUse) : ℕ → ℕ → Type 0 where
  direct : {x y : ℕ} → StandsOn specs x y → LeadsTo specs x y
  further : {x y z : ℕ} → LeadsTo specs x y → StandsOn specs y z → LeadsTo specs x z

-- none of the first n entries stands on itself
abbrev pub NoLoopBelow : List ServiceUse → (n : ℕ) → Type 0
NoLoopBelow specs n = (x : ℕ) → x < n → LeadsTo specs x x → ⊥

-- ---- the order of building

-- all that entry x stands on is in the list
abbrev pub CanCome : List ServiceUse → (placed : List ℕ) → (x : ℕ) → Type 0
CanCome specs placed x = (y : ℕ) → StandsOn specs x y → Contains placed y

-- Entry x is not yet placed, all that it stands on is, and it is the least such entry.
pub record IsNext (specs : List ServiceUse) (placed : List ℕ) (x : ℕ) : Type 0 where
  pub entry : x < length specs
  pub unplaced : Contains placed x → ⊥
  pub ready : CanCome specs placed x
  pub least : (y : ℕ) → y < x → (Contains placed y → ⊥) → CanCome specs placed y → ⊥

-- each place of the list has the entry that is next behind those before it
abbrev pub IsNextEach : List ServiceUse → List ℕ → Type 0
IsNextEach specs order = (k : ℕ) → k < length order → IsNext specs (take k order) (get_or order k 0)

-- an order of all entries, each once and next at its place
pub record IsBuildOrder (specs : List ServiceUse) (order : List ℕ) : Type 0 where
  pub size : length order ≡ length specs
  pub all : (x : ℕ) → x < length specs → Contains order x
  pub next : IsNextEach specs order

-- ---- the faults

-- nothing is at fault
pub record HasNoServiceFault (specs : List ServiceUse) : Type 0 where
  pub core : HasCore specs
  pub needs : NeedsMet specs (length specs)
  pub once : OfferedOnce specs 8
  pub no_loop : NoLoopBelow specs (length specs)

-- The first fault: a service that is missing, else one that is offered twice, else an entry that stands on itself.
abbrev pub IsFirstServiceFault : List ServiceUse → ServiceRefusal → Type 0
IsFirstServiceFault specs (Missing s None) = IsMissingInCore specs s
IsFirstServiceFault specs (Missing s (Some x)) = HasCore specs × IsFirstUnmet specs x s
IsFirstServiceFault specs (Double s a b) = HasCore specs × NeedsMet specs (length specs) × IsFirstDouble specs s a b
IsFirstServiceFault specs (CycleOfNeeds x) =
    HasCore specs × NeedsMet specs (length specs) × OfferedOnce specs 8 × LeadsTo specs x x × NoLoopBelow specs x
IsFirstServiceFault specs NoMemory = ⊥
