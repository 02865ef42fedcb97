-- Rules 7 to 9 and 13: the claims of all entries, and how many things the module may have.
use Rattle.std.specs.Prelude.{◌≡◌, ℕ, ◌+◌, ◌*◌, ◌<◌, ◌^◌, [], ◌∷◌, ◌++◌, List, length, get_or, map, sum_by, suc, Bool, true, false, not, ◌&&◌, ◌||◌, eqb, ltb, leb, bit_and}
use Rattle.isa_table.specs.declared.claim.Claim.{Claim}
use Rattle.stage_map.specs.declared.config.Isa.{Isa}
use Rattle.stage_map.specs.declared.config.Isa.TheVariants.{Claimed, Rv32i, Rv32iZicsr, Rv32iZifencei, Rv32iZicsrZifencei, Rv32im, Rv32imZicsr, Rv32imZifencei, Rv32imZicsrZifencei}
use Rattle.plug_api.specs.declared.claims.OwnedClaim.{OwnedClaim}
use Rattle.plug_api.specs.declared.spec.PlugSpec.{PlugSpec}
use Rattle.plug_api.specs.Spec.{no_claim}

-- what stands where there is no claim
abbrev pub no_owned : OwnedClaim
no_owned = record { entry = 0; claim = no_claim }

abbrev pub owned_by : ℕ → Claim → OwnedClaim
owned_by entry claim = record { entry = entry; claim = claim }

-- the claims of entries, counted from a number, in their order, each with its entry
abbrev pub claims_from : ℕ → List PlugSpec → List OwnedClaim
claims_from entry [] = []
claims_from entry (spec ∷ specs) = map (owned_by entry) spec.rows ++ claims_from (suc entry) specs

-- the claims of all entries
abbrev pub claims_of : List PlugSpec → List OwnedClaim
claims_of specs = claims_from 0 specs

-- some word meets both claims
abbrev pub Overlap : (a b : Claim) → Type 0
Overlap a b = (w : ℕ) × (w < 2 ^ 32) × (bit_and w a.mask ≡ a.value) × (bit_and w b.mask ≡ b.value)

-- the claims at these places are of two entries, and some word meets both
pub record Clash (claims : List OwnedClaim) (a b : ℕ) : Type 0 where
  pub in_order : a < b
  pub there : b < length claims
  pub apart : (get_or claims a no_owned).entry ≡ (get_or claims b no_owned).entry → ⊥
  pub overlap : Overlap (get_or claims a no_owned).claim (get_or claims b no_owned).claim

-- rule 7 holds
pub record HaveNoClash (claims : List OwnedClaim) : Type 0 where
  pub none : (a b : ℕ) → Clash claims a b → ⊥

-- rule 7 fails, and at these places first
pub record IsFirstClashAt (claims : List OwnedClaim) (a b : ℕ) : Type 0 where
  pub clash : Clash claims a b
  pub first : (i j : ℕ) → i < a → Clash claims i j → ⊥
  pub first_other : (j : ℕ) → j < b → Clash claims a j → ⊥

-- rule 7 fails, and of these entries and rows first
pub record IsFirstClash (claims : List OwnedClaim) (entry row other other_row : ℕ) : Type 0 where
  pub a : ℕ
  pub b : ℕ
  pub at : IsFirstClashAt claims a b
  pub entry_is : entry ≡ (get_or claims a no_owned).entry
  pub row_is : row ≡ (get_or claims a no_owned).claim.row
  pub other_is : other ≡ (get_or claims b no_owned).entry
  pub other_row_is : other_row ≡ (get_or claims b no_owned).claim.row

-- a named set asks for rows 0 to 37, and has the extensions M, Zicsr and Zifencei or not
abbrev pub is_named : Isa → Bool
is_named Claimed = false
is_named Rv32i = true
is_named Rv32iZicsr = true
is_named Rv32iZifencei = true
is_named Rv32iZicsrZifencei = true
is_named Rv32im = true
is_named Rv32imZicsr = true
is_named Rv32imZifencei = true
is_named Rv32imZicsrZifencei = true

abbrev pub multiplies : Isa → Bool
multiplies Claimed = false
multiplies Rv32i = false
multiplies Rv32iZicsr = false
multiplies Rv32iZifencei = false
multiplies Rv32iZicsrZifencei = false
multiplies Rv32im = true
multiplies Rv32imZicsr = true
multiplies Rv32imZifencei = true
multiplies Rv32imZicsrZifencei = true

abbrev pub has_registers : Isa → Bool
has_registers Claimed = false
has_registers Rv32i = false
has_registers Rv32iZicsr = true
has_registers Rv32iZifencei = false
has_registers Rv32iZicsrZifencei = true
has_registers Rv32im = false
has_registers Rv32imZicsr = true
has_registers Rv32imZifencei = false
has_registers Rv32imZicsrZifencei = true

abbrev pub has_fence : Isa → Bool
has_fence Claimed = false
has_fence Rv32i = false
has_fence Rv32iZicsr = false
has_fence Rv32iZifencei = true
has_fence Rv32iZicsrZifencei = true
has_fence Rv32im = false
has_fence Rv32imZicsr = false
has_fence Rv32imZifencei = true
has_fence Rv32imZicsrZifencei = true

-- a row is of the named set
abbrev pub is_of : Isa → ℕ → Bool
is_of isa row = (is_named isa && ltb row 38) || ((has_fence isa && eqb row 40) || ((multiplies isa && (leb 41 row && ltb row 49)) || (has_registers isa && (leb 49 row && ltb row 57))))

pub record IsClaimed (claims : List OwnedClaim) (row : ℕ) : Type 0 where
  pub at : ℕ
  pub there : at < length claims
  pub is : (get_or claims at no_owned).claim.row ≡ row

-- a row is of the named set, and nothing claims it
pub record IsMissing (isa : Isa) (claims : List OwnedClaim) (row : ℕ) : Type 0 where
  pub wanted : is_of isa row ≡ true
  pub unclaimed : IsClaimed claims row → ⊥

-- rule 8 holds
pub record HaveAllRows (isa : Isa) (claims : List OwnedClaim) : Type 0 where
  pub none : (row : ℕ) → IsMissing isa claims row → ⊥

-- rule 8 fails, and at this row first
pub record IsFirstMissing (isa : Isa) (claims : List OwnedClaim) (row : ℕ) : Type 0 where
  pub missing : IsMissing isa claims row
  pub first : (k : ℕ) → k < row → IsMissing isa claims k → ⊥

-- a claim of this row is one too many: the row is not of the named set, or it is ECALL or EBREAK, which the pipeline does
abbrev pub is_extra : Isa → ℕ → Bool
is_extra isa row = (is_named isa && (ltb row 64 && not (is_of isa row))) || (eqb row 38 || eqb row 39)

-- rule 9 holds
pub record HaveNoExtra (isa : Isa) (claims : List OwnedClaim) : Type 0 where
  pub none : (k : ℕ) → k < length claims → is_extra isa (get_or claims k no_owned).claim.row ≡ false

-- rule 9 fails, and at this claim first
pub record IsFirstExtra (isa : Isa) (claims : List OwnedClaim) (entry row : ℕ) : Type 0 where
  pub at : ℕ
  pub there : at < length claims
  pub extra : is_extra isa (get_or claims at no_owned).claim.row ≡ true
  pub first : (k : ℕ) → k < at → is_extra isa (get_or claims k no_owned).claim.row ≡ false
  pub entry_is : entry ≡ (get_or claims at no_owned).entry
  pub row_is : row ≡ (get_or claims at no_owned).claim.row

-- how many things an entry may make where the core claims so many rows
abbrev pub cost_at : ℕ → PlugSpec → ℕ
cost_at rows spec = spec.cost.fixed + spec.cost.per_row * rows

-- how many things the module may have
abbrev pub wanted_by : List PlugSpec → ℕ
wanted_by specs = 8192 + 256 * length specs + sum_by (cost_at (length (claims_of specs))) specs
