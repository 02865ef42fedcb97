-- Answers of one row after another.
use Rattle.std.proofs.Common.{◌≡◌, ◌∙◌, inl, inr, List, [], ◌∷◌, ◌++◌, Result, Ok, Err, refl, ap, sym, append_assoc}
use Rattle.core_config.specs.declared.refusal.ConfigRefusal.{ConfigRefusal}
use Rattle.core_config.specs.Config.{IsAnswer, then_read}

-- what was read is the answer
pub answer_ok : {A : Type 0} (x : A) (p : Result A ConfigRefusal) → IsAnswer (Ok x) p → p ≡ Ok x
answer_ok x p (inl h) = sym h
answer_ok x p (inr h) = cc

pub then_read-all : {A : Type 0} (p : Result (List A) ConfigRefusal) → p ≡ then_read p (λ rest. Ok ([] ++ rest))
then_read-all (Ok x) = refl
then_read-all (Err e) = refl

-- one entry more
pub entry_read : {A : Type 0} (p : Result A ConfigRefusal) (q : Result (List A) ConfigRefusal) (done : List A) (x : A) → p ≡ Ok x
    → then_read (then_read p (λ y. then_read q (λ ys. Ok (y ∷ ys)))) (λ rest. Ok (done ++ rest)) ≡ then_read q (λ rest. Ok ((done ++ x ∷ []) ++ rest))
entry_read (Ok y) (Ok ys) done x h =
    let same : y ≡ x = cc in
    ap (λ z. Ok (done ++ (z ∷ ys))) same ∙ ap Ok (sym (append_assoc done (x ∷ []) ys))
entry_read (Ok y) (Err e) done x h = refl
entry_read (Err e) q done x h = cc

-- a refusal of an entry is that of the whole
pub entry_refused : {A : Type 0} (p : Result A ConfigRefusal) (q : Result (List A) ConfigRefusal) (done : List A) (e : ConfigRefusal)
    → IsAnswer {A = A} (Err e) p
    → IsAnswer {A = List A} (Err e) (then_read (then_read p (λ y. then_read q (λ ys. Ok (y ∷ ys)))) (λ rest. Ok (done ++ rest)))
entry_refused (Ok y) q done e (inl h) = cc
entry_refused (Ok y) q done e (inr h) = inr cc
entry_refused (Err f) q done e (inl h) = inl cc
entry_refused (Err f) q done e (inr h) = inr cc
