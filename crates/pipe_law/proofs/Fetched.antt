-- Words in flight, told cycle by cycle: what a fetch may offer.
use Rattle.std.proofs.Common.{◌≡◌, ℕ, zero, suc, ◌<◌, ◌≤◌, Bool, true, false, cond, ◌⊎◌, inl, inr, refl, ap, ◌∙◌, subst, arith, eq-or-lt_of_le, le_of_suc-le-suc}
use Rattle.bus_law.specs.Memory.{Memory}
use Rattle.isa_model.specs.Machine.{Fetched}
use Rattle.isa_model.specs.Run.{FetchedFrom}
use Rattle.plug_law.specs.Fetch.{FetchSignals, IsTrueItem, offered}
use Rattle.plug_law.specs.Past.{last}

-- what memory gave at a pc as some cycle began: from the cycle of the last fence up to t, t included, or from cycle 1
unfoldable pub Held : FetchSignals → (ℕ → Memory) → ℕ → (pc : ℕ) → Fetched → Type 0
Held f mem zero pc got = ⊥
Held f mem (suc t) pc got = FetchedFrom (mem (suc t)) pc got ⊎ ((f.fence (suc t) ≡ false) × Held f mem t pc got)

-- no cycle lies before itself
pub last_le : (p : ℕ → Bool) (t : ℕ) → last p t ≤ t
unfolding last
last_le p zero = omega arith
last_le p (suc t) = by (p t) (last_le p t)
  where
    by : (b : Bool) → last p t ≤ t → cond b t (last p t) ≤ suc t
    by true l = omega arith
    by false l = omega arith

-- after the last cycle that p names there is none
none_after : (p : ℕ → Bool) (t k : ℕ) → last p t < k → k < t → p k ≡ false
unfolding last
none_after p zero k l m = absurd (omega arith)
none_after p (suc t) k l m = by (p t) refl l (eq-or-lt_of_le (le_of_suc-le-suc m)) (none_after p t k)
  where
    by : (b : Bool) → p t ≡ b → cond b t (last p t) < k → (k ≡ t) ⊎ (k < t) → (last p t < k → k < t → p k ≡ false) → p k ≡ false
    by true e a q ih = absurd (omega arith)
    by false e a (inl q) ih = ap p q ∙ e
    by false e a (inr q) ih = ih a q

-- what was there in a cycle is still in flight where no fence came since
held_from : (f : FetchSignals) (mem : ℕ → Memory) (pc : ℕ) (got : Fetched) (c t : ℕ) → 1 ≤ c → c ≤ t → ((k : ℕ) → c < k → k ≤ t → f.fence k ≡ false) → FetchedFrom (mem c) pc got → Held f mem t pc got
unfolding Held
held_from f mem pc got c zero one l none g = absurd (omega arith)
held_from f mem pc got c (suc t) one l none g = by (eq-or-lt_of_le l) (held_from f mem pc got c t)
  where
    by : (c ≡ suc t) ⊎ (c < suc t) → (1 ≤ c → c ≤ t → ((k : ℕ) → c < k → k ≤ t → f.fence k ≡ false) → FetchedFrom (mem c) pc got → Held f mem t pc got)
        → FetchedFrom (mem (suc t)) pc got ⊎ ((f.fence (suc t) ≡ false) × Held f mem t pc got)
    by (inl q) ih = inl (subst (λ k. FetchedFrom (mem k) pc got) q g)
    by (inr q) ih = inr (none (suc t) q (omega arith), ih one (omega arith) (λ k a b. none k a (omega arith)) g)

-- an item that is true was in memory as its cycle began, or is in flight since an earlier one
pub truth_held : (f : FetchSignals) (mem : ℕ → Memory) (s : ℕ) → IsTrueItem f mem (suc s) → FetchedFrom (mem (suc s)) (f.pc (suc s)) (offered f (suc s)) ⊎ Held f mem s (f.pc (suc s)) (offered f (suc s))
truth_held f mem s h = by (eq-or-lt_of_le h.by_then)
  where
    by : (h.cycle ≡ suc s) ⊎ (h.cycle < suc s) → FetchedFrom (mem (suc s)) (f.pc (suc s)) (offered f (suc s)) ⊎ Held f mem s (f.pc (suc s)) (offered f (suc s))
    by (inl q) = inl (subst (λ k. FetchedFrom (mem k) (f.pc (suc s)) (offered f (suc s))) q h.gives)
    by (inr q) = inr (held_from f mem (f.pc (suc s)) (offered f (suc s)) h.cycle s h.after_reset (omega arith)
        (λ k a b. none_after f.fence (suc s) k (let l : last f.fence (suc s) ≤ h.cycle = h.after_fence in omega arith) (omega arith)) h.gives)
