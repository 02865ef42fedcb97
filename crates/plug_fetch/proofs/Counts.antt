-- How counts of accepted commands and of taken items begin, and what a cycle adds to them.
use Rattle.std.proofs.Common.{◌≡◌, ℕ, zero, suc, ◌+◌, ◌<◌, ◌≤◌, Bool, true, false, cond, ltb, ◌&&◌, refl, ◌∙◌, arith}
use Rattle.std.proofs.lemmas.Bool.{lt-ltb}
use Rattle.core_words.specs.Values.{one_if}
use Rattle.core_ports.specs.Trace.{Bus}
use Rattle.bus_law.specs.Protocol.{is_accepted}
use Rattle.bus_law.specs.Prompt.{given_from}
use Rattle.bus_law.proofs.Standing.{from_by_now}
use Rattle.plug_law.specs.Past.{accepted_since, count_since}
use Rattle.plug_fetch.proofs.Truths.{ltb_off}

module _ (b : Bus) where
  pub none_accepted : (r t : ℕ) → t ≤ suc r → accepted_since b r t ≡ 0
  unfolding accepted_since
  none_accepted r zero l = refl
  none_accepted r (suc t) l = by (is_accepted b t) (none_accepted r t (omega arith))
    where
      not_since : ltb r (given_from b t) ≡ false
      not_since = ltb_off r (given_from b t) (let h = from_by_now b t in omega arith)

      by : (c : Bool) → accepted_since b r t ≡ 0 → cond (c && ltb r (given_from b t)) (suc (accepted_since b r t)) (accepted_since b r t) ≡ 0
      by true h = (λ j. cond (not_since j) (suc (accepted_since b r t)) (accepted_since b r t)) ∙ h
      by false h = h

  pub accepted_more : (r t : ℕ) → accepted_since b r (suc t) ≡ accepted_since b r t + one_if (is_accepted b t && ltb r (given_from b t))
  unfolding accepted_since
  accepted_more r t = by (is_accepted b t && ltb r (given_from b t))
    where
      by : (c : Bool) → cond c (suc (accepted_since b r t)) (accepted_since b r t) ≡ accepted_since b r t + one_if c
      by true = omega arith
      by false = omega arith

module _ (p : ℕ → Bool) (r : ℕ) where
  pub none_counted : (t : ℕ) → t ≤ suc r → count_since p r t ≡ 0
  unfolding count_since
  none_counted zero l = refl
  none_counted (suc t) l = by (p t) (none_counted t (omega arith))
    where
      not_since : ltb r t ≡ false
      not_since = ltb_off r t (omega arith)

      by : (c : Bool) → count_since p r t ≡ 0 → cond (c && ltb r t) (suc (count_since p r t)) (count_since p r t) ≡ 0
      by true h = (λ j. cond (not_since j) (suc (count_since p r t)) (count_since p r t)) ∙ h
      by false h = h

  pub counted_more : (t : ℕ) → r < t → count_since p r (suc t) ≡ count_since p r t + one_if (p t)
  unfolding count_since
  counted_more t l = by (p t)
    where
      since : ltb r t ≡ true
      since = lt-ltb r t l

      by : (c : Bool) → cond (c && ltb r t) (suc (count_since p r t)) (count_since p r t) ≡ count_since p r t + one_if c
      by true = (λ j. cond (since j) (suc (count_since p r t)) (count_since p r t)) ∙ omega arith
      by false = omega arith
