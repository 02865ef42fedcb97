-- What the unit shows where the target is taken and where it is not.
use Rattle.std.proofs.Common.{◌≡◌, ◌∙◌, ℕ, ◌%◌, Bool, true, false, eqb, not, bit_and, Option, None, refl, ap, arith}
use Rattle.core_words.specs.Values.{one_if, choose, not_of, bits_of}
use Rattle.isa_model.specs.Effects.{behind, branch, go_to, goes_behind, is_multiple, jump, write_of}
use Rattle.plug_law.specs.Exec.{HasValue}
use Rattle.plug_branch.specs.Machine.{goes_on, next_of, taken_of, target_of, trap_of, trap_on}
use Rattle.plug_branch.specs.Law.{ShowsFlow}

low : (target : ℕ) → bits_of target 1 0 ≡ target % 4
low target = omega arith

turns : (t : Bool) → bit_and 1 (not_of 1 (one_if t)) ≡ one_if (not t)
turns true = refl
turns false = refl

-- a taken target traps where it is no multiple of 4
trap_taken : (t : Bool) (target : ℕ) → is_multiple target 4 ≡ t → trap_on 1 target ≡ one_if (not t)
unfolding trap_on
trap_taken t target e =
    ap (λ (n : ℕ). bit_and 1 (not_of 1 (one_if (eqb n 0)))) (low target) ∙ ap (λ (b : Bool). bit_and 1 (not_of 1 (one_if b))) e ∙ turns t

-- one that is not taken does not
trap_stays : (target : ℕ) → trap_on 0 target ≡ 0
unfolding trap_on
trap_stays target = refl

-- a word whose target is taken
module _ (word pc a b target : ℕ) (taken : taken_of word a b ≡ 1) (is : target_of word pc a ≡ target) where
  next_taken : next_of word pc a b ≡ target
  unfolding next_of goes_on
  next_taken = λ i. choose (taken i) (is i) (behind pc)

  trap_is : (t : Bool) → is_multiple target 4 ≡ t → trap_of word pc a b ≡ one_if (not t)
  unfolding trap_of
  trap_is t e = (λ i. trap_on (taken i) (is i)) ∙ trap_taken t target e

  pub jumps : (v : Option ℕ) → HasValue v (behind pc) → ShowsFlow (jump v target) word pc a b × (write_of (jump v target) ≡ None)
  jumps v has = by (is_multiple target 4) refl
    where
      by : (t : Bool) → is_multiple target 4 ≡ t → ShowsFlow (go_to t v target) word pc a b × (write_of (go_to t v target) ≡ None)
      by true e = ((ap (λ n. eqb n 1) (trap_is true e), next_taken, has), refl)
      by false e = ((ap (λ n. eqb n 1) (trap_is false e), refl, next_taken), refl)

-- a word whose target is not taken
module _ (word pc a b : ℕ) (stays : taken_of word a b ≡ 0) where
  next_stays : next_of word pc a b ≡ behind pc
  unfolding next_of goes_on
  next_stays = λ i. choose (stays i) (target_of word pc a) (behind pc)

  no_trap : trap_of word pc a b ≡ 0
  unfolding trap_of
  no_trap = (λ i. trap_on (stays i) (target_of word pc a)) ∙ trap_stays (target_of word pc a)

  goes_by : ShowsFlow (goes_behind pc None) word pc a b × (write_of (goes_behind pc None) ≡ None)
  goes_by = ((ap (λ n. eqb n 1) no_trap, next_stays, tt), refl)

pub branches : (word pc a b target : ℕ) (t : Bool) → taken_of word a b ≡ one_if t → target_of word pc a ≡ target
    → ShowsFlow (branch t pc target) word pc a b × (write_of (branch t pc target) ≡ None)
branches word pc a b target true taken is = jumps word pc a b target taken is None tt
branches word pc a b target false taken is = goes_by word pc a b taken
