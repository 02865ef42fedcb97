-- The place and the bytes of the first file of a name, from what is known file by file.
use Rattle.std.proofs.Common.{◌≡◌, ◌<◌, ◌+◌, ◌∙◌, ℕ, List, [], ◌∷◌, length, get_or, Some, None, true, false, if◌then◌else◌, nat_eq, option_map, zero, suc, refl, inl, inr, ap, sym, add-one, arith}
use Rattle.std.proofs.lemmas.Bool.{cases_Bool}
use Rattle.std.specs.Cmp.Lexicographic.{pointwise, same_text, other_text}
use Rattle.core_host.specs.declared.memory.MemFile.{MemFile}
use Rattle.core_host.specs.Outside.{held}
use Rattle.core_host.specs.Memory.{pairs, place, no_file}

same : (xs ys : List ℕ) → xs ≡ ys → pointwise nat_eq xs ys ≡ true
same xs ys e = elim (cases_Bool (pointwise nat_eq xs ys)) [
  | inl t ↦ t
  | inr f ↦ absurd (other_text xs ys (sym f) e)
]

differs : (xs ys : List ℕ) → ¬ (xs ≡ ys) → pointwise nat_eq xs ys ≡ false
differs xs ys e = elim (cases_Bool (pointwise nat_eq xs ys)) [
  | inl t ↦ absurd (e (same_text xs ys (sym t)))
  | inr f ↦ f
]

-- the file at this place, and none before it, has the name
pub place-first : (name : List ℕ) (files : List MemFile) (i : ℕ) → i < length files → (get_or files i no_file).name ≡ name
    → ((k : ℕ) → k < i → ¬ ((get_or files k no_file).name ≡ name)) → place name files ≡ Some i
place-first name [] i h is before = absurd (omega (arith, h))
place-first name (f ∷ fs) zero h is before = ap (λ b. if b then Some 0 else option_map (λ n. n + 1) (place name fs)) (same f.name name is)
place-first name (f ∷ fs) (suc i) h is before =
    ap (λ b. if b then Some 0 else option_map (λ n. n + 1) (place name fs)) (differs f.name name (before 0 (omega arith)))
    ∙ (ap (option_map (λ n. n + 1)) (place-first name fs i (omega (arith, h)) is (λ k l. before (suc k) (omega (arith, l)))) ∙ ap Some (add-one i))

pub held-first : (name : List ℕ) (files : List MemFile) (i : ℕ) → i < length files → (get_or files i no_file).name ≡ name
    → ((k : ℕ) → k < i → ¬ ((get_or files k no_file).name ≡ name)) → held name (pairs files) ≡ Some (get_or files i no_file).bytes
held-first name [] i h is before = absurd (omega (arith, h))
held-first name (f ∷ fs) zero h is before = ap (λ b. if b then Some f.bytes else held name (pairs fs)) (same f.name name is)
held-first name (f ∷ fs) (suc i) h is before =
    ap (λ b. if b then Some f.bytes else held name (pairs fs)) (differs f.name name (before 0 (omega arith)))
    ∙ held-first name fs i (omega (arith, h)) is (λ k l. before (suc k) (omega (arith, l)))

-- no file has the name
pub place-none : (name : List ℕ) (files : List MemFile) → ((k : ℕ) → k < length files → ¬ ((get_or files k no_file).name ≡ name)) → place name files ≡ None
place-none name [] none = refl
place-none name (f ∷ fs) none =
    ap (λ b. if b then Some 0 else option_map (λ n. n + 1) (place name fs)) (differs f.name name (none 0 (omega arith)))
    ∙ ap (option_map (λ n. n + 1)) (place-none name fs (λ k l. none (suc k) (omega (arith, l))))

pub held-none : (name : List ℕ) (files : List MemFile) → ((k : ℕ) → k < length files → ¬ ((get_or files k no_file).name ≡ name)) → held name (pairs files) ≡ None
held-none name [] none = refl
held-none name (f ∷ fs) none =
    ap (λ b. if b then Some f.bytes else held name (pairs fs)) (differs f.name name (none 0 (omega arith)))
    ∙ held-none name fs (λ k l. none (suc k) (omega (arith, l)))
