-- A bus that answers within w cycles does so cycle by cycle, whatever the core does.
use Rattle.std.proofs.Common.{◌≡◌, ℕ, suc, ◌+◌, ◌<◌, ◌≤◌, true, false, eqb, ◌⊎◌, inl, inr, Some, subst, arith}
use Rattle.std.proofs.lemmas.Bool.{both_ways, eq-eqb, cases_lt}
use Rattle.core_ports.specs.Trace.{Bus}
use Rattle.bus_law.specs.Protocol.{is_given, is_accepted, owed}
use Rattle.bus_law.specs.Honest.{IsWithin}
use Rattle.bus_law.specs.Prompt.{given_from, IsPrompt}
use Rattle.bus_law.specs.Standing.{StandsSince, IsOwedSince}
use Rattle.bus_law.proofs.Standing.{stands_since, owed_since}

module _ (b : Bus) (w n : ℕ) (within : IsWithin b w n) where
  pub within_is_prompt : (k : ℕ) → k < n → IsPrompt b w k
  within_is_prompt k early = record { accepts = accepts; answers = answers }
    where
      accepts : is_given b k ≡ true → is_accepted b k ≡ false → k < given_from b k + w
      accepts g a = by (cases_lt k (given_from b k + w))
        where
          s : StandsSince b (given_from b k) k
          s = stands_since b k g

          late : given_from b k + w ≤ k → ⊥
          late m =
              let is = s.is in
              let got = within.accepts s.before s.begins (omega arith) in
              let most = got.1 in
              last (suc s.before + got.0) (omega arith) (omega arith) got.2 (cases_lt (suc s.before + got.0) k)
            where
              last : (i : ℕ) → given_from b k ≤ i → i ≤ k → is_accepted b i ≡ true → ((i < k) ⊎ (k ≤ i)) → ⊥
              last i l h t (inl m) = both_ways (is_accepted b i) (s.waits i l m) t
              last i l h t (inr m) = let e : i ≡ k = omega arith in both_ways (is_accepted b k) a (subst (λ x. is_accepted b x ≡ true) e t)

          by : ((k < given_from b k + w) ⊎ (given_from b k + w ≤ k)) → k < given_from b k + w
          by (inl m) = m
          by (inr m) = absurd (late m)

      answers : (j : ℕ) → owed b k ≡ Some j → eqb (b.rsp_valid k) 1 ≡ false → k < j + w
      answers j o v = by (cases_lt k (j + w))
        where
          s : IsOwedSince b j k
          s = owed_since b k j o

          late : j + w ≤ k → ⊥
          late m =
              let got = within.answers j s.accepted (omega arith) in
              let least = got.1 in
              let most = got.2 in
              last (j + got.0) (omega arith) (omega arith) (eq-eqb (b.rsp_valid (j + got.0)) 1 got.3) (cases_lt (j + got.0) k)
            where
              last : (i : ℕ) → j < i → i ≤ k → eqb (b.rsp_valid i) 1 ≡ true → ((i < k) ⊎ (k ≤ i)) → ⊥
              last i l h t (inl m) = both_ways (eqb (b.rsp_valid i) 1) (s.missing i l m) t
              last i l h t (inr m) = let e : i ≡ k = omega arith in both_ways (eqb (b.rsp_valid k) 1) v (subst (λ x. eqb (b.rsp_valid x) 1 ≡ true) e t)

          by : ((k < j + w) ⊎ (j + w ≤ k)) → k < j + w
          by (inl m) = m
          by (inr m) = absurd (late m)

pub soon_is_prompt : (b : Bus) (w k : ℕ) → k < w → IsPrompt b w k
soon_is_prompt b w k h = record { accepts = λ g a. omega arith; answers = λ j o v. omega arith }
