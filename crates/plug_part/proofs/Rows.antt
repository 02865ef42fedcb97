-- The rows of an entry in its part.
use Rattle.std.proofs.Common.{◌≡◌, ◌∙◌, ℕ, refl, ap, Bool, true, false, cond, Option, None, Some}
use Rattle.std.proofs.lemmas.Bool.{both_ways, cond-true, cond-false, eqb-true, eq-eqb, false_from_ne_true}
use Rattle.hw_module.specs.declared.rows.Owner.{Owner}
use Rattle.hw_module.specs.declared.rows.Owner.TheVariants.{Pipe, Entry}
use Rattle.plug_part.specs.Owned.{is_owner}

pub owner_is : (o : Owner) (entry : ℕ) → is_owner o entry ≡ true → o ≡ Entry entry
owner_is Pipe entry e = absurd (both_ways false refl e)
owner_is (Entry n) entry e = ap Entry (eqb-true n entry e)

pub is_owned : (o : Owner) (entry : ℕ) → o ≡ Entry entry → is_owner o entry ≡ true
is_owned o entry e = ap (λ (p : Owner). is_owner p entry) e ∙ eq-eqb entry entry refl

-- what is kept of a row of the entry, and of another's
pub owned : {A : Type 0} (o : Owner) (entry : ℕ) (x : A) → o ≡ Entry entry → cond (is_owner o entry) (Some x) None ≡ Some x
owned o entry x e = cond-true (is_owner o entry) (Some x) None (is_owned o entry e)

pub away : {A : Type 0} (o : Owner) (entry : ℕ) (x : A) → (o ≡ Entry entry → ⊥) → cond (is_owner o entry) (Some x) None ≡ None
away o entry x apart = cond-false (is_owner o entry) (Some x) None (false_from_ne_true (is_owner o entry) (λ e. apart (owner_is o entry e)))

pub kept : {A : Type 0} (b : Bool) (x : Option A) → b ≡ true → cond b x None ≡ x
kept b x e = cond-true b x None e

pub dropped : {A : Type 0} (b : Bool) (x : Option A) → b ≡ false → cond b x None ≡ None
dropped b x e = cond-false b x None e
