-- The part keeps the law of Hazard.
use Rattle.std.proofs.Common.{◌≡◌, ◌∙◌, ℕ, suc, ◌&&◌, ◌||◌, Bool, true, false, eqb, refl, ap, sym}
use Rattle.core_words.specs.Values.{one_if}
use Rattle.hw_words.proofs.Bits.{bit_is}
use Rattle.plug_law.specs.RegFile.{RegSignals}
use Rattle.plug_law.specs.Hazard.{HazardSignals, writer, waits_for, value_or}
use Rattle.plug_hazard.specs.Machine.{chosen_of, hold_of}
use Rattle.plug_hazard.specs.Law.{Now, IsHazard, HazardKeepsLaw}
use Rattle.plug_hazard.proofs.Chooses.{chooses}

back : (b : Bool) → eqb (one_if b) 1 ≡ b
back true = refl
back false = refl

two_waits : (a p b q : Bool) → hold_of (one_if a) (one_if p) (one_if b) (one_if q) ≡ one_if ((a && p) || (b && q))
unfolding hold_of
two_waits true true true true = refl
two_waits true true true false = refl
two_waits true true false true = refl
two_waits true true false false = refl
two_waits true false true true = refl
two_waits true false true false = refl
two_waits true false false true = refl
two_waits true false false false = refl
two_waits false p true true = refl
two_waits false p true false = refl
two_waits false p false q = refl

module _ (bypassed : ℕ → Bool) (q : ℕ → Now) (h : HazardSignals) (r : RegSignals) (is : IsHazard bypassed q h r) (s : ℕ) where
  abbrev n : Now
  n = q (suc s)

  waits_a : (chosen_of n.ra bypassed n.stages n.plain_a).bad ≡ one_if (waits_for (writer bypassed (h.stages (suc s)) (h.ra (suc s))))
  waits_a = (chooses bypassed n.stages n.ra n.plain_a (is.bits s)).bad ∙ λ i. one_if (waits_for (writer bypassed (sym (is.stages s) i) (sym (is.ra s) i)))

  waits_b : (chosen_of n.rb bypassed n.stages n.plain_b).bad ≡ one_if (waits_for (writer bypassed (h.stages (suc s)) (h.rb (suc s))))
  waits_b = (chooses bypassed n.stages n.rb n.plain_b (is.bits s)).bad ∙ λ i. one_if (waits_for (writer bypassed (sym (is.stages s) i) (sym (is.rb s) i)))

  uses_a : n.uses_a ≡ one_if (h.uses_a (suc s))
  uses_a = bit_is n.uses_a (is.uses_a_bit s) ∙ ap one_if (sym (is.uses_a s))

  uses_b : n.uses_b ≡ one_if (h.uses_b (suc s))
  uses_b = bit_is n.uses_b (is.uses_b_bit s) ∙ ap one_if (sym (is.uses_b s))

  hold_is : h.hold (suc s)
      ≡ ((h.uses_a (suc s) && waits_for (writer bypassed (h.stages (suc s)) (h.ra (suc s)))) || (h.uses_b (suc s) && waits_for (writer bypassed (h.stages (suc s)) (h.rb (suc s)))))
  hold_is =
      is.hold s ∙ ((λ i. eqb (hold_of (uses_a i) (waits_a i) (uses_b i) (waits_b i)) 1)
      ∙ (ap (λ x. eqb x 1) (two_waits (h.uses_a (suc s)) (waits_for (writer bypassed (h.stages (suc s)) (h.ra (suc s)))) (h.uses_b (suc s)) (waits_for (writer bypassed (h.stages (suc s)) (h.rb (suc s)))))
      ∙ back _))

  a_is : h.a (suc s) ≡ value_or (writer bypassed (h.stages (suc s)) (h.ra (suc s))) (r.a (suc s))
  a_is =
      is.a s ∙ ((chooses bypassed n.stages n.ra n.plain_a (is.bits s)).value
      ∙ λ i. value_or (writer bypassed (sym (is.stages s) i) (sym (is.ra s) i)) (sym (is.plain_a s) i))

  b_is : h.b (suc s) ≡ value_or (writer bypassed (h.stages (suc s)) (h.rb (suc s))) (r.b (suc s))
  b_is =
      is.b s ∙ ((chooses bypassed n.stages n.rb n.plain_b (is.bits s)).value
      ∙ λ i. value_or (writer bypassed (sym (is.stages s) i) (sym (is.rb s) i)) (sym (is.plain_b s) i))

pub keeps_law : HazardKeepsLaw
keeps_law bypassed q h r is = record {
  hold = hold_is bypassed q h r is;
  a = λ s held uses. a_is bypassed q h r is s;
  b = λ s held uses. b_is bypassed q h r is s;
}
