-- What a plan and what a plug-in says of itself lay down of an entry, before it builds.
use Rattle.std.specs.Prelude.{◌≡◌, ℕ, ◌<◌, cond, eqb, Bool, List, [], ◌∷◌, drop, length, get_or}
use Rattle.std.specs.List.{list_any}
use Rattle.isa_table.specs.declared.claim.Claim.{Claim}
use Rattle.isa_model.specs.Machine.{Set}
use Rattle.plug_law.specs.Table.{table_of}
use Rattle.plug_law.specs.Exec.{Terms}

-- The terms of Exec are those of the entry where it offers Exec. Its latency is (a, b) for a + b * w cycles where the bus
-- answers within w, whatever service it offers.
pub record PartTerms : Type 0 where
  -- the instructions of the core, the entry that a row belongs to, and the pc out of reset
  pub set : Set
  pub owner : (row : ℕ) → ℕ
  pub reset_pc : ℕ
  pub terms : Terms

abbrev pub claims_row : List Claim → (row : ℕ) → Bool
claims_row claims row = list_any (λ c. eqb c.row row) claims

-- the entry that claims a row: the owner at the place of its claim, 0 where there is no claim
abbrev pub owner_among : List Claim → (owners : List ℕ) → (row : ℕ) → ℕ
owner_among [] owners row = 0
owner_among (c ∷ cs) owners row = cond (eqb c.row row) (get_or owners 0 0) (owner_among cs (drop 1 owners) row)

-- what stands where there is no claim
abbrev pub no_claim : Claim
no_claim = record { mask = 0; value = 0; row = 0 }

-- no row is claimed twice
abbrev pub RowsDiffer : List Claim → Type 0
RowsDiffer claims = (i j : ℕ) → i < length claims → j < length claims → (get_or claims i no_claim).row ≡ (get_or claims j no_claim).row → i ≡ j

abbrev pub OwnersAreTold : Type 0
OwnersAreTold = (claims : List Claim) (owners : List ℕ) → RowsDiffer claims → (k : ℕ) → k < length claims → owner_among claims owners (get_or claims k no_claim).row ≡ get_or owners k 0

-- the instructions of a core with these claims of all its entries
abbrev pub set_from : List Claim → (has_csr : Bool) → Set
set_from claims has_csr = record { claims = claims_row claims; system = has_csr }

-- The terms of an entry: `claims`, `owners`, `has_csr` and `reset_pc` are the plan's, the others are of the entry alone: the rows
-- that it claims, whether it works in the stage that commits, whether it offers DataBus, and its latency.
abbrev pub terms_from : (claims : List Claim) (owners : List ℕ) (has_csr : Bool) (reset_pc : ℕ) (own : List Claim) (commits holds : Bool) (latency : ℕ × ℕ) → PartTerms
terms_from claims owners has_csr reset_pc own commits holds latency = record {
  set = set_from claims has_csr;
  owner = owner_among claims owners;
  reset_pc = reset_pc;
  terms = record { table = table_of (set_from claims has_csr); claims = claims_row own; commits = commits; holds = holds; latency = latency };
}
