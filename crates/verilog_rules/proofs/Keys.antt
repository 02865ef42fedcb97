-- Names in a set of keys.
use Rattle.std.proofs.Common.{◌≡◌, ℕ, Bool, true, false, List, [], ◌∷◌, ◌||◌, ◌∙◌, sym, refl, ap, map, nat_eq, cond}
use Rattle.std.specs.List.{list_any}
use Rattle.std.specs.Cmp.Lexicographic.{pointwise}
use Rattle.std.proofs.lemmas.Cmp.{nat_list_eq_equiv}
use Rattle.verilog_mean.specs.Names.{is_among}
use Rattle.verilog_rules.specs.SameNames.{SameNames}
use denote.Bor.{Bor}

pub among_keys : (x : List ℕ) (ks : List (Bor (List ℕ))) → list_any (λ k. pointwise nat_eq x k.now) ks ≡ is_among x (map (λ k. k.now) ks)
among_keys x [] = refl
among_keys x (k ∷ ks) = λ i. nat_list_eq_equiv.symm x k.now i || among_keys x ks i

cond_or : (b c : Bool) → cond b true c ≡ (b || c)
cond_or true c = refl
cond_or false c = refl

-- a set with one name more
pub added : (n name : List ℕ) (old new : List (Bor (List ℕ))) (seen : List (List ℕ)) → n ≡ name → map (λ k. k.now) old ≡ seen
    → ((q : Bor (List ℕ)) → list_any (λ k. pointwise nat_eq q.now k.now) new ≡ cond (pointwise nat_eq n q.now) true (list_any (λ k. pointwise nat_eq q.now k.now) old))
    → SameNames (map (λ k. k.now) new) (name ∷ seen)
added n name old new seen e v h = record {
  same = λ x. sym (among_keys x new) ∙ h (record { ref_ptr = (0, 0); now = x }) ∙ cond_or (pointwise nat_eq n x) _
      ∙ (λ i. pointwise nat_eq (e i) x || (among_keys x old ∙ ap (λ ks. is_among x ks) v) i);
}

pub knows : (n name : List ℕ) (keys : List (Bor (List ℕ))) (seen : List (List ℕ)) → n ≡ name → map (λ k. k.now) keys ≡ seen
    → list_any (λ k. pointwise nat_eq n k.now) keys ≡ is_among name seen
knows n name keys seen e v = among_keys n keys ∙ (λ i. is_among (e i) (v i))
