-- The loop over claims.
use Rattle.std.proofs.Common.{◌≡◌, ◌∙◌, ℕ, ◌+◌, ◌*◌, bit_or, List, refl, ap, sym}
use Rattle.std.proofs.Math.Numerals.{add-one}
use Rattle.hw_pool.specs.Nodes.{PoolValue}
use Rattle.hw_pool.specs.Scope.{Scope}
use Rattle.hw_expr.specs.declared.net.Net.{Net}
use Rattle.hw_gates.specs.Places.{Is, IsIn, Step}
use Rattle.hw_gates.proofs.Steps.{none}
use Rattle.hw_words.specs.Gather.{or_from}
use Rattle.isa_table.specs.declared.claim.Claim.{Claim}
use Rattle.plug_decoder.specs.declared.circuit.Decoded.{Decoded}
use Rattle.plug_decoder.specs.declared.circuit.Zeros.{Zeros}
use Rattle.plug_decoder.specs.Nets.{AreDecoded, AreDecodedIn, AreZeros, AreZerosIn, Gives}

-- what there is after n claims
pub record SoFar (old new : PoolValue) (word : Net) (rows : List Claim) (owners : List ℕ) (zeros : Zeros) (first d : Decoded) (n : ℕ) : Type 0 where
  pub gives : Gives old new word rows owners first d n
  pub nets : AreDecoded new d
  pub scope : (s : Scope) → IsIn s old word → AreZerosIn s old zeros → AreDecodedIn s old first → AreDecodedIn s new d
  pub word_is : Is new word 32 1
  pub zeros_are : AreZeros new zeros
  pub step : Step old new (14 * n)

pub none_yet : (old : PoolValue) (word : Net) (rows : List Claim) (owners : List ℕ) (zeros : Zeros) (first : Decoded) → AreDecoded old first → Is old word 32 1 → AreZeros old zeros
    → SoFar old old word rows owners zeros first first 0
unfolding or_from
none_yet old word rows owners zeros first nets is are = record {
  gives = record { legal = λ env. refl; row = λ env. refl; unit = λ env. refl; uses_a = λ env. refl; uses_b = λ env. refl; has_value = λ env. refl };
  nets = nets;
  scope = λ s h z k. k;
  word_is = is;
  zeros_are = are;
  step = none old;
}

-- one number more, under the word as it was
pub or_more : (x base w v : ℕ) (g : ℕ → ℕ → ℕ) (n : ℕ) → x ≡ or_from base (g w) n → v ≡ w → bit_or x (g v n) ≡ or_from base (g w) (n + 1)
unfolding or_from
or_more x base w v g n e s = (λ i. bit_or (e i) (g (s i) n)) ∙ ap (or_from base (g w)) (sym (add-one n))
