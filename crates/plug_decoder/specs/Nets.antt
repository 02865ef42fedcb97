-- What is said of the nets of an answer.
use Rattle.std.specs.Prelude.{◌≡◌, ℕ, List, get_or}
use Rattle.core_words.specs.Values.{one_if}
use Rattle.hw_pool.specs.Nodes.{PoolValue}
use Rattle.hw_pool.specs.Meaning.{Env}
use Rattle.hw_pool.specs.Scope.{Scope}
use Rattle.hw_expr.specs.declared.net.Net.{Net}
use Rattle.hw_gates.specs.Places.{Is, IsIn, value_in}
use Rattle.hw_words.specs.Gather.{or_from}
use Rattle.isa_table.specs.declared.claim.Claim.{Claim}
use Rattle.plug_decoder.specs.declared.circuit.Decoded.{Decoded}
use Rattle.plug_decoder.specs.declared.circuit.Zeros.{Zeros}
use Rattle.plug_decoder.specs.Machine.{claim_at, hit_of, masked, uses_a, uses_b, has_value}

-- their widths; they are of level 1 at most
pub record AreDecoded (p : PoolValue) (d : Decoded) : Type 0 where
  pub legal : Is p d.legal 1 1
  pub row : Is p d.row 7 1
  pub unit : Is p d.unit 5 1
  pub uses_a : Is p d.uses_a 1 1
  pub uses_b : Is p d.uses_b 1 1
  pub has_value : Is p d.has_value 1 1

-- what they take from outside is in a scope
pub record AreDecodedIn (s : Scope) (p : PoolValue) (d : Decoded) : Type 0 where
  pub legal : IsIn s p d.legal
  pub row : IsIn s p d.row
  pub unit : IsIn s p d.unit
  pub uses_a : IsIn s p d.uses_a
  pub uses_b : IsIn s p d.uses_b
  pub has_value : IsIn s p d.has_value

-- nets of 0 with their widths, of level 1 at most
pub record AreZeros (p : PoolValue) (z : Zeros) : Type 0 where
  pub row : Is p z.row 7 1
  pub unit : Is p z.unit 5 1
  pub no_row : (env : Env) → value_in env p z.row ≡ 0
  pub no_unit : (env : Env) → value_in env p z.unit ≡ 0

pub record AreZerosIn (s : Scope) (p : PoolValue) (z : Zeros) : Type 0 where
  pub row : IsIn s p z.row
  pub unit : IsIn s p z.unit

-- their values after n claims, on top of a first answer
pub record Gives (old new : PoolValue) (word : Net) (rows : List Claim) (owners : List ℕ) (first d : Decoded) (n : ℕ) : Type 0 where
  pub legal : (env : Env) → value_in env new d.legal ≡ or_from (value_in env old first.legal) (λ k. hit_of (value_in env old word) (claim_at rows k)) n
  pub row : (env : Env) → value_in env new d.row ≡ or_from (value_in env old first.row) (λ k. masked (value_in env old word) (claim_at rows k) (claim_at rows k).row) n
  pub unit : (env : Env) → value_in env new d.unit ≡ or_from (value_in env old first.unit) (λ k. masked (value_in env old word) (claim_at rows k) (get_or owners k 0)) n
  pub uses_a : (env : Env) → value_in env new d.uses_a ≡ or_from (value_in env old first.uses_a) (λ k. masked (value_in env old word) (claim_at rows k) (one_if (uses_a (claim_at rows k).row))) n
  pub uses_b : (env : Env) → value_in env new d.uses_b ≡ or_from (value_in env old first.uses_b) (λ k. masked (value_in env old word) (claim_at rows k) (one_if (uses_b (claim_at rows k).row))) n
  pub has_value : (env : Env) → value_in env new d.has_value
      ≡ or_from (value_in env old first.has_value) (λ k. masked (value_in env old word) (claim_at rows k) (one_if (has_value (claim_at rows k).row))) n
