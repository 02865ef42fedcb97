-- How long a command and a response wait, for a bus that answers in time.
use Rattle.std.proofs.Common.{◌≡◌, ℕ, zero, suc, ◌+◌, ◌*◌, ◌<◌, ◌≤◌, Bool, true, false, cond, not, eqb, ◌&&◌, Some, None, refl, arith}
use Rattle.std.proofs.lemmas.Bool.{both_ways}
use Rattle.core_ports.specs.Trace.{Bus}
use Rattle.bus_law.specs.Protocol.{is_given, is_accepted, owed}
use Rattle.bus_law.specs.Honest.{IsWithin}
use Rattle.bus_law.specs.Prompt.{given_from, IsPrompt}
use Rattle.bus_law.proofs.Standing.{some_same, none_not_some, owed_since}
use Rattle.bus_law.proofs.InTimeByCycle.{within_is_prompt}

given_after_reset : (b : Bus) (k : ℕ) → is_given b k ≡ true → 1 ≤ k
unfolding is_given
given_after_reset b zero g = absurd (both_ways false refl g)
given_after_reset b (suc k) g = omega arith

-- ---- from each cycle before

module _ (b : Bus) (w n : ℕ) (prompt : (j : ℕ) → 1 ≤ j → j < n → IsPrompt b w j) where
  given_at : (k : ℕ) → k ≤ n → k ≤ given_from b k + w
  unfolding given_from
  given_at zero l = omega arith
  given_at (suc k) l = by (is_given b k) (is_accepted b k) refl refl
    where
      by : (x y : Bool) → is_given b k ≡ x → is_accepted b k ≡ y → suc k ≤ cond (x && not y) (given_from b k) (suc k) + w
      by true false e a = (prompt k (given_after_reset b k e) (omega arith)).accepts e a
      by true true e a = omega arith
      by false y e a = omega arith

  owed_at : (one : 1 ≤ w) (k j : ℕ) → k ≤ n → owed b k ≡ Some j → k ≤ j + w
  unfolding owed
  owed_at one zero j l o = omega arith
  owed_at one (suc k) j l o = by (is_accepted b k) (eqb (b.rsp_valid k) 1) refl o
    where
      waits : eqb (b.rsp_valid k) 1 ≡ false → owed b k ≡ Some j → suc k ≤ j + w
      waits v o = let before = (owed_since b k j o).before in (prompt k (omega arith) (omega arith)).answers j o v

      by : (x y : Bool) → eqb (b.rsp_valid k) 1 ≡ y → cond x (Some k) (cond y None (owed b k)) ≡ Some j → suc k ≤ j + w
      by true y v o = let same : k ≡ j = some_same k j o in omega arith
      by false true v o = absurd (none_not_some j o)
      by false false v o = waits v o

  both_at : (one : 1 ≤ w) (k j : ℕ) → k ≤ n → owed b k ≡ Some j → k ≤ given_from b j + 2 * w
  both_at one k j l o =
      let before = (owed_since b k j o).before in
      let answered : k ≤ j + w = owed_at one k j l o in
      let taken : j ≤ given_from b j + w = given_at j (omega arith) in
      omega arith

pub prompt_given : (b : Bus) (w k : ℕ) → ((j : ℕ) → 1 ≤ j → j < k → IsPrompt b w j) → k ≤ given_from b k + w
prompt_given b w k prompt = given_at b w k prompt k (omega arith)

pub prompt_owed : (b : Bus) (w k j : ℕ) → 1 ≤ w → ((i : ℕ) → 1 ≤ i → i < k → IsPrompt b w i) → owed b k ≡ Some j → k ≤ j + w
prompt_owed b w k j one prompt o = owed_at b w k prompt one k j (omega arith) o

pub prompt_both : (b : Bus) (w k j : ℕ) → 1 ≤ w → ((i : ℕ) → 1 ≤ i → i < k → IsPrompt b w i) → owed b k ≡ Some j → k ≤ given_from b j + 2 * w
prompt_both b w k j one prompt o = both_at b w k prompt one k j (omega arith) o

-- ---- from the first n cycles

pub within_fewer : (b : Bus) (w k n : ℕ) → k ≤ n → IsWithin b w n → IsWithin b w k
within_fewer b w k n l h = record { accepts = λ j begins m. h.accepts j begins (omega arith); answers = λ j a m. h.answers j a (omega arith) }

module _ (b : Bus) (w n : ℕ) (within : IsWithin b w n) where
  prompt : (j : ℕ) → 1 ≤ j → j < n → IsPrompt b w j
  prompt j one l = within_is_prompt b w n within j l

  -- no bus answers an accepted command at once
  least : (w : ℕ) → IsWithin b w n → (j : ℕ) → is_accepted b j ≡ true → j < n → 1 ≤ w
  least zero h j a l = let got = h.answers j a (omega arith) in let one = got.1 in let most = got.2 in absurd (omega arith)
  least (suc w) h j a l = omega arith

  one_at : (k j : ℕ) → k ≤ n → owed b k ≡ Some j → 1 ≤ w
  one_at k j l o = let s = owed_since b k j o in let before = s.before in least w within j s.accepted (omega arith)

  pub within_given : (k : ℕ) → k ≤ n → k ≤ given_from b k + w
  within_given k l = given_at b w n prompt k l

  pub within_owed : (k j : ℕ) → k ≤ n → owed b k ≡ Some j → k ≤ j + w
  within_owed k j l o = owed_at b w n prompt (one_at k j l o) k j l o

  pub within_both : (k j : ℕ) → k ≤ n → owed b k ≡ Some j → k ≤ given_from b j + 2 * w
  within_both k j l o = both_at b w n prompt (one_at k j l o) k j l o
