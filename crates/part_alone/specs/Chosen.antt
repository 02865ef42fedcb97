-- Claims of rows of the table, with the entry of each.
use Rattle.std.specs.Prelude.{◌≡◌, ℕ, ◌<◌, ◌≤◌, List, length, get_or}
use Rattle.isa_table.specs.declared.claim.Claim.{Claim}
use Rattle.plug_api.specs.Spec.{IsOfTable, no_claim}

-- claims of rows below n, each of an entry from 1 to 3, in the order of the rows
pub record Chosen (rows : List Claim) (owners : List ℕ) (n : ℕ) : Type 0 where
  pub each : length owners ≡ length rows
  pub few : length rows ≤ n
  pub in_table : (k : ℕ) → k < length rows → IsOfTable (get_or rows k no_claim)
  pub below : (k : ℕ) → k < length rows → (get_or rows k no_claim).row < n
  pub rising : (j k : ℕ) → j < k → k < length rows → (get_or rows j no_claim).row < (get_or rows k no_claim).row
  pub least : (k : ℕ) → k < length owners → 1 ≤ get_or owners k 0
  pub most : (k : ℕ) → k < length owners → get_or owners k 0 ≤ 3
