-- A bus on which nothing happens.
use Rattle.std.proofs.Common.{◌≡◌, ℕ, zero, suc, Bool, true, false, cond, not, [], ◌∷◌, ◌&&◌, None, refl, ◌∙◌}
use Rattle.std.specs.Prelude.{is_some}
use Rattle.bus_law.specs.Duties.{KeepsDuties, breaks_form, breaks_standing, breaks_waiting, is_repeated}
use Rattle.bus_law.specs.Prompt.{store_at}
use Rattle.bus_law.specs.Protocol.{is_accepted, is_given, is_write, owed}
use Rattle.plug_law.specs.Exec.{ExecSignals, busy, made, made_by, no_bus}
use Rattle.std.proofs.lemmas.Bool.{cond-false}
use Rattle.csr_law.proofs.Tests.{and_no_l}

pub quiet_given : (t : ℕ) → is_given no_bus t ≡ false
unfolding is_given
quiet_given zero = refl
quiet_given (suc t) = refl

pub quiet_accepted : (t : ℕ) → is_accepted no_bus t ≡ false
unfolding is_accepted
quiet_accepted t = and_no_l (is_given no_bus t) false (quiet_given t)

pub quiet_write : (t : ℕ) → is_write no_bus t ≡ false
unfolding is_write
quiet_write t = and_no_l (is_accepted no_bus t) false (quiet_accepted t)

pub quiet_owed : (i : ℕ) → owed no_bus i ≡ None
unfolding owed is_accepted is_given
quiet_owed zero = refl
quiet_owed (suc zero) = refl
quiet_owed (suc (suc i)) = quiet_owed (suc i)

pub quiet_duties : (t : ℕ) → KeepsDuties no_bus t
unfolding breaks_standing breaks_waiting breaks_form
quiet_duties zero = record { stands = refl; waits = and_no_l (is_given no_bus zero) (is_some (owed no_bus zero)) (quiet_given zero); forms = and_no_l (is_given no_bus zero) false (quiet_given zero) }
quiet_duties (suc t) = record {
  stands = and_no_l (is_given no_bus t) (not (is_accepted no_bus t) && not (is_repeated no_bus t)) (quiet_given t);
  waits = and_no_l (is_given no_bus (suc t)) (is_some (owed no_bus (suc t))) (quiet_given (suc t));
  forms = and_no_l (is_given no_bus (suc t)) false (quiet_given (suc t));
}

pub quiet_made : (e : ExecSignals) (t : ℕ) → made e no_bus t ≡ []
unfolding made
quiet_made e zero = refl
quiet_made e (suc t) = by (busy e (suc t)) (cond-false (is_write no_bus t) (store_at no_bus t ∷ made e no_bus t) (made e no_bus t) (quiet_write t) ∙ quiet_made e t)
  where
    by : (b : Bool) → made_by e no_bus t ≡ [] → cond b (made_by e no_bus t) [] ≡ []
    by true h = h
    by false h = refl

pub quiet_made_by : (e : ExecSignals) (t : ℕ) → made_by e no_bus t ≡ []
quiet_made_by e t = cond-false (is_write no_bus t) (store_at no_bus t ∷ made e no_bus t) (made e no_bus t) (quiet_write t) ∙ quiet_made e t
