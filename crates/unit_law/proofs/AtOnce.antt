-- A unit that is done at once keeps its law: nothing is ever at work as a cycle begins, and nothing happens on its bus.
use Rattle.std.proofs.Common.{◌≡◌, ◌∙◌, ℕ, zero, suc, Bool, true, false, cond, not, eqb, ◌&&◌, [], ◌∷◌, Some, None, refl, arith, ap, sym, subst, inl}
use Rattle.std.specs.Prelude.{option_to_list, is_some}
use Rattle.std.proofs.lemmas.Bool.{both_ways}
use Rattle.core_ports.specs.Trace.{Bus}
use Rattle.bus_law.specs.Memory.{Memory}
use Rattle.bus_law.specs.Protocol.{is_given, is_accepted, is_write, owed}
use Rattle.bus_law.specs.Duties.{is_repeated, is_mask, breaks_standing, breaks_waiting, breaks_form}
use Rattle.bus_law.specs.Prompt.{store_at}
use Rattle.isa_csr.specs.Csrs.{Csrs}
use Rattle.isa_model.specs.Effects.{Moment}
use Rattle.plug_law.specs.Exec.{ExecSignals, Terms, ExecAssumed, ExecKept, IsTimely, busy, made, made_by, no_bus, bus_of}
use Rattle.unit_law.specs.AtOnce.{IsAtOnce, KeepsAtOnce}

-- ---- a bus on which nothing happens

none_given : (k : ℕ) → is_given no_bus k ≡ false
unfolding is_given
none_given zero = refl
none_given (suc k) = refl

none_accepted : (k : ℕ) → is_accepted no_bus k ≡ false
unfolding is_accepted
none_accepted k = ap (λ (b : Bool). b && eqb 0 1) (none_given k)

none_written : (k : ℕ) → is_write no_bus k ≡ false
unfolding is_write
none_written k = ap (λ (b : Bool). b && eqb 0 1) (none_accepted k)

none_owed : (k : ℕ) → owed no_bus k ≡ None
unfolding owed
none_owed zero = refl
none_owed (suc k) = λ i. cond (none_accepted k i) (Some k) (none_owed k i)

none_stands : (k : ℕ) → breaks_standing no_bus k ≡ false
unfolding breaks_standing
none_stands zero = refl
none_stands (suc k) = ap (λ (b : Bool). b && (not (is_accepted no_bus k) && not (is_repeated no_bus k))) (none_given k)

none_waits : (k : ℕ) → breaks_waiting no_bus k ≡ false
unfolding breaks_waiting
none_waits k = ap (λ (b : Bool). b && is_some (owed no_bus k)) (none_given k)

none_forms : (k : ℕ) → breaks_form no_bus k ≡ false
unfolding breaks_form
none_forms k = ap (λ (b : Bool). b && not (eqb 0 0 && is_mask (eqb 0 1) 0)) (none_given k)

-- ---- the unit

gone : (g d c : Bool) → d ≡ g → (g && (not d && not c)) ≡ false
gone true true c e = refl
gone true false c e = absurd cc
gone false d c e = refl

module _ (x : Terms) (e : ExecSignals) (mem : ℕ → Memory) (csrs : ℕ → Csrs) (moments : ℕ → Moment) (is : IsAtOnce x e mem csrs moments) where
  idle : (k : ℕ) → busy e k ≡ false
  unfolding busy
  idle zero = refl
  idle (suc zero) = refl
  idle (suc (suc k)) = gone (e.go (suc k)) (e.done (suc k)) (e.clear (suc k)) (is.at_once k)

  none_made : (k : ℕ) → made e no_bus k ≡ []
  unfolding made
  none_made zero = refl
  none_made (suc k) = ap (λ (b : Bool). cond b (cond (is_write no_bus k) (store_at no_bus k ∷ made e no_bus k) (made e no_bus k)) []) (idle (suc k))

  none_by : (k : ℕ) → made_by e no_bus k ≡ []
  none_by k = (λ i. cond (none_written k i) (store_at no_bus k ∷ made e no_bus k) (made e no_bus k)) ∙ none_made k

  kept : (s : ℕ) → ExecAssumed x e no_bus mem s → ExecKept x.table e no_bus mem csrs moments s
  kept s assumed = record {
    rests = λ h. is.at_once s ∙ h;
    result = λ h d. let c = assumed.claimed h in let r = is.shows s h c.0 c.1 in (r.0, r.1);
    idle = λ h. (none_given (suc s), none_owed (suc s));
    asks = λ h. absurd (both_ways (is_given no_bus (suc s)) (none_given (suc s)) h);
    writes = λ h. inl (none_by (suc s));
    wrote = λ h d.
        let c = assumed.claimed h in
        let r = is.shows s h c.0 c.1 in
        (none_made (suc s) ∙ sym (ap option_to_list r.2), none_accepted (suc s));
    duties = record { stands = none_stands (suc s); waits = none_waits (suc s); forms = none_forms (suc s) };
  }

  -- a go is never without its done
  timely : (s : ℕ) → IsTimely x e no_bus mem csrs moments s
  timely s w one prompt go done = absurd (both_ways (e.done (suc s)) done (is.at_once s ∙ go))

  both : (s : ℕ) → ExecAssumed x e no_bus mem s → ExecKept x.table e no_bus mem csrs moments s × IsTimely x e no_bus mem csrs moments s
  both s assumed = (kept s assumed, timely s)

pub keeps_law : KeepsAtOnce
keeps_law x e db mem csrs moments free is s assumed alone =
    let none : bus_of x.holds db ≡ no_bus = ap (λ (b : Bool). bus_of b db) free in
    subst (λ (b : Bus). ExecKept x.table e b mem csrs moments s × IsTimely x e b mem csrs moments s) (sym none)
    (both x e mem csrs moments is s (subst (λ (b : Bus). ExecAssumed x e b mem s) none (assumed s (omega arith))))
