-- Of claims that no word shares, the one of the word is gathered.
use Rattle.std.proofs.Common.{◌≡◌, ◌∙◌, ◌≢◌, ◌⊎◌, ℕ, zero, suc, ◌^◌, ◌<◌, Bool, true, false, eqb, bit_and, bit_or, List, length, refl, arith, ap, inl, inr}
use Rattle.std.specs.Int.Bits.{or_zero_r, or_self}
use Rattle.std.proofs.lemmas.Bool.{cases_eq}
use Rattle.std.proofs.lemmas.Bool.Decides.{nat_tests}
use Rattle.core_words.specs.Values.{one_if, choose}
use Rattle.isa_table.specs.declared.claim.Claim.{Claim}
use Rattle.hw_words.specs.Gather.{or_from}
use Rattle.hw_words.proofs.Gathers.{or_none, or_one}
use Rattle.plug_decoder.specs.Machine.{claim_at, hit_of, masked}
use Rattle.plug_decoder.specs.Law.{IsOf, NoneOverlap}

-- no word is of two claims, the other way round
abbrev AreApart : List Claim → Type 0
AreApart rows = (word i j : ℕ) → word < 2 ^ 32 → i < length rows → j < length rows → IsOf word (claim_at rows i) → IsOf word (claim_at rows j) → i ≡ j

-- the numbers of a list of claims, gathered for a word: that of the one claim that the word is of, else what was there
abbrev pub Gathers : (rows : List Claim) (word : ℕ) → Type 0
Gathers rows word =
    ((j : ℕ) → j < length rows → IsOf word (claim_at rows j)
    → (or_from 0 (λ k. hit_of word (claim_at rows k)) (length rows) ≡ 1)
    × ((number : ℕ → ℕ) → or_from 0 (λ k. masked word (claim_at rows k) (number k)) (length rows) ≡ number j))
    × (((j : ℕ) → j < length rows → IsOf word (claim_at rows j) → ⊥) → (base : ℕ)
    → (or_from base (λ k. hit_of word (claim_at rows k)) (length rows) ≡ base)
    × ((number : ℕ → ℕ) → or_from base (λ k. masked word (claim_at rows k) (number k)) (length rows) ≡ base))

-- ---- hits
module _ (word : ℕ) (claim : Claim) where
  pub hits : IsOf word claim → hit_of word claim ≡ 1
  unfolding hit_of
  hits h = let t : eqb (bit_and word claim.mask) claim.value ≡ true = grind (arith, nat_tests) in ap one_if t

  pub misses : (IsOf word claim → ⊥) → hit_of word claim ≡ 0
  unfolding hit_of
  misses h = go (eqb (bit_and word claim.mask) claim.value) refl
    where
      go : (t : Bool) → eqb (bit_and word claim.mask) claim.value ≡ t → one_if t ≡ 0
      go true e = absurd (h (grind (arith, nat_tests)))
      go false e = refl

  pub masked_hit : (number : ℕ) → IsOf word claim → masked word claim number ≡ number
  masked_hit number h = ap (λ (c : ℕ). choose c number 0) (hits h)

  pub masked_miss : (number : ℕ) → (IsOf word claim → ⊥) → masked word claim number ≡ 0
  masked_miss number h = ap (λ (c : ℕ). choose c number 0) (misses h)

  -- nothing, or the number where the word is of the claim
  pub hit_is : (hit_of word claim ≡ 0) ⊎ (hit_of word claim ≡ 1)
  unfolding hit_of
  hit_is = go (eqb (bit_and word claim.mask) claim.value)
    where
      go : (t : Bool) → (one_if t ≡ 0) ⊎ (one_if t ≡ 1)
      go true = inr refl
      go false = inl refl

  pub masked_is : (number wanted : ℕ) → (IsOf word claim → number ≡ wanted) → (masked word claim number ≡ 0) ⊎ (masked word claim number ≡ wanted)
  masked_is number wanted h = elim (cases_eq (bit_and word claim.mask) claim.value) [
    | inl is ↦ inr (masked_hit number is ∙ h is)
    | inr other ↦ inl (masked_miss number other)
  ]

  pub masked_zero : masked word claim 0 ≡ 0
  masked_zero = elim (cases_eq (bit_and word claim.mask) claim.value) [ inl is ↦ masked_hit 0 is | inr other ↦ masked_miss 0 other ]

-- numbers that are 0 or what is there already change nothing
pub or_same : (base : ℕ) (g : ℕ → ℕ) (n : ℕ) → ((k : ℕ) → k < n → (g k ≡ 0) ⊎ (g k ≡ base)) → or_from base g n ≡ base
unfolding or_from
or_same base g zero h = refl
or_same base g (suc n) h = elim (h n (omega arith)) [
  | inl e ↦ (λ i. bit_or (or_same base g n (λ k l. h k (omega arith)) i) (e i)) ∙ or_zero_r base
  | inr e ↦ (λ i. bit_or (or_same base g n (λ k l. h k (omega arith)) i) (e i)) ∙ or_self base
]

-- claims of which no two overlap are apart
pub apart_of : (rows : List Claim) → NoneOverlap rows → AreApart rows
apart_of rows none word i j fits l m is other = elim (cases_eq i j) [ inl e ↦ e | inr ne ↦ absurd (none i j l m ne (word, fits, is, other)) ]

pub gathers : (rows : List Claim) → NoneOverlap rows → (word : ℕ) → word < 2 ^ 32 → Gathers rows word
gathers rows none word fits =
    let apart = apart_of rows none in (
      λ j l is.
          let other : (k : ℕ) → k < length rows → k ≢ j → IsOf word (claim_at rows k) → ⊥ = λ k m ne of_k. ne (apart word k j fits m l of_k is) in (
            or_one (λ k. hit_of word (claim_at rows k)) (length rows) j l (λ k m ne. misses word (claim_at rows k) (other k m ne)) ∙ hits word (claim_at rows j) is,
            λ number. or_one (λ k. masked word (claim_at rows k) (number k)) (length rows) j l (λ k m ne. masked_miss word (claim_at rows k) (number k) (other k m ne))
                ∙ masked_hit word (claim_at rows j) (number j) is,
          ),
      λ none base. (
        or_none base (λ k. hit_of word (claim_at rows k)) (length rows) (λ k m. misses word (claim_at rows k) (none k m)),
        λ number. or_none base (λ k. masked word (claim_at rows k) (number k)) (length rows) (λ k m. masked_miss word (claim_at rows k) (number k) (none k m)),
      ),
    )
