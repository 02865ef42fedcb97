-- What one claim adds.
use Rattle.std.proofs.Common.{◌≡◌, ◌∙◌, ℕ, Bool, true, false, cond, eqb, bit_and, bit_or, refl, ap, sym}
use Rattle.std.specs.Int.Bits.{or_zero_r}
use Rattle.core_words.specs.Values.{one_if, choose}
use Rattle.hw_pool.specs.Nodes.{PoolValue}
use Rattle.hw_pool.specs.Scope.{Scope}
use Rattle.hw_gates.specs.Places.{Step}
use Rattle.hw_gates.proofs.Steps.{kept, stays, stays_in}
use Rattle.isa_table.specs.declared.claim.Claim.{Claim}
use Rattle.plug_decoder.specs.declared.circuit.Zeros.{Zeros}
use Rattle.plug_decoder.specs.Machine.{ecall, ebreak, hit_of, masked, of_calls}
use Rattle.plug_decoder.specs.Nets.{AreZeros, AreZerosIn}

-- the number 0 adds nothing, wherever it is chosen
either : (t : Bool) (n : ℕ) → cond t n n ≡ n
either true n = refl
either false n = refl

choice_zero : (c : ℕ) → choose c 0 0 ≡ 0
choice_zero c = either (eqb c 1) 0

pub nothing_more : (x c number : ℕ) → number ≡ 0 → bit_or x (choose c number 0) ≡ x
nothing_more x c number e = (λ i. bit_or x (choose c (e i) 0)) ∙ ap (bit_or x) (choice_zero c) ∙ or_zero_r x

-- nor does a property that the row has not
pub no_flag : (x hit : ℕ) (is : Bool) → is ≡ false → bit_or x (cond is hit 0) ≡ x
no_flag x hit is e = (λ i. bit_or x (cond (e i) hit 0)) ∙ or_zero_r x

-- a property of the claim's row adds the hit itself
pub flag_is : (word : ℕ) (claim : Claim) (is : Bool) → cond is (hit_of word claim) 0 ≡ masked word claim (one_if is)
unfolding hit_of
flag_is word claim true = go (eqb (bit_and word claim.mask) claim.value)
  where
    go : (t : Bool) → one_if t ≡ choose (one_if t) 1 0
    go true = refl
    go false = refl
flag_is word claim false = sym (choice_zero (hit_of word claim))

-- the two calls have no number
pub no_number : (word : ℕ) → of_calls word 0 0 ≡ 0
no_number word = λ i. bit_or (choice_zero (hit_of word ecall) i) (choice_zero (hit_of word ebreak) i)

module _ (old new : PoolValue) (n : ℕ) (step : Step old new n) (z : Zeros) (zeros : AreZeros old z) where
  pub zeros_stay : AreZeros new z
  zeros_stay = record {
    row = stays old new n z.row 7 1 step zeros.row;
    unit = stays old new n z.unit 5 1 step zeros.unit;
    no_row = λ env. kept env old new n z.row step zeros.row.0 ∙ zeros.no_row env;
    no_unit = λ env. kept env old new n z.unit step zeros.unit.0 ∙ zeros.no_unit env;
  }

  pub zeros_stay_in : (s : Scope) → AreZerosIn s old z → AreZerosIn s new z
  zeros_stay_in s h = record {
    row = stays_in s old new n z.row step zeros.row.0 h.row;
    unit = stays_in s old new n z.unit step zeros.unit.0 h.unit;
  }
