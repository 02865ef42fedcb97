-- The sum over an order of numbers is at most the sum over all of them.
use Rattle.std.proofs.Common.{◌≡◌, ◌∙◌, ℕ, zero, suc, ◌+◌, ◌<◌, ◌≤◌, List, [], ◌∷◌, length, get_or, refl, arith, ap, sym}
use Rattle.std.specs.Prelude.{sum_by}
use Rattle.std.proofs.lemmas.List.Sums.{sum_by-cons}

-- the sum of the first n numbers of a function
abbrev pub front : ℕ → (ℕ → ℕ) → ℕ
front zero g = 0
front (suc n) g = g 0 + front n (λ i. g (suc i))

-- the function with 0 at one place
abbrev without : ℕ → (ℕ → ℕ) → ℕ → ℕ
without zero g zero = 0
without zero g (suc i) = g (suc i)
without (suc x) g zero = g 0
without (suc x) g (suc i) = without x (λ j. g (suc j)) i

without_adds : (n x : ℕ) (g : ℕ → ℕ) → x < n → g x + front n (without x g) ≡ front n g
without_adds zero x g l = absurd (omega arith)
without_adds (suc n) zero g l = omega arith
without_adds (suc n) (suc x) g l = let rest = without_adds n x (λ i. g (suc i)) (omega arith) in omega (arith, rest)

without_other : (x y : ℕ) (g : ℕ → ℕ) → (y ≡ x → ⊥) → without x g y ≡ g y
without_other zero zero g ne = absurd (ne refl)
without_other zero (suc y) g ne = refl
without_other (suc x) zero g ne = refl
without_other (suc x) (suc y) g ne = without_other x y (λ j. g (suc j)) (λ e. ne (ap suc e))

without_same : (xs : List ℕ) (x : ℕ) (g : ℕ → ℕ) → ((k : ℕ) → k < length xs → get_or xs k 0 ≡ x → ⊥) → sum_by g xs ≡ sum_by (without x g) xs
without_same [] x g none = refl
without_same (y ∷ ys) x g none =
    let rest = without_same ys x g (λ k l e. none (suc k) (omega arith) e) in
    let here = without_other x y g (none 0 (omega arith)) in
    sum_by-cons g y ys ∙ (λ i. (sym here) i + rest i) ∙ sym (sum_by-cons (without x g) y ys)

-- no number comes twice
abbrev pub NoneTwice : List ℕ → Type 0
NoneTwice xs = (i j : ℕ) → i < length xs → j < length xs → get_or xs i 0 ≡ get_or xs j 0 → i ≡ j

pub sum_most : (xs : List ℕ) (n : ℕ) (g : ℕ → ℕ) → NoneTwice xs → ((k : ℕ) → k < length xs → get_or xs k 0 < n) → sum_by g xs ≤ front n g
sum_most [] n g once inside = omega arith
sum_most (x ∷ xs) n g once inside =
    let others = sum_most xs n (without x g) (λ i j l m e. let q = once (suc i) (suc j) (omega arith) (omega arith) e in omega (arith, q)) (λ k l. inside (suc k) (omega arith)) in
    let same = without_same xs x g (λ k l e. let q = once (suc k) 0 (omega arith) (omega arith) e in omega (arith, q)) in
    let all = without_adds n x g (inside 0 (omega arith)) in
    let sum = sum_by-cons g x xs in
    omega (arith, others, same, all, sum)

-- twice the half of each
pub halves : (n : ℕ) (g c : ℕ → ℕ) → ((i : ℕ) → i < n → g i + g i ≤ c i) → front n g + front n g ≤ front n c
halves zero g c each = omega arith
halves (suc n) g c each =
    let here = each 0 (omega arith) in
    let rest = halves n (λ i. g (suc i)) (λ i. c (suc i)) (λ i l. each (suc i) (omega arith)) in
    omega (arith, here, rest)

pub front_list : {X : Type 0} (xs : List X) (f : X → ℕ) (d : X) → front (length xs) (λ i. f (get_or xs i d)) ≡ sum_by f xs
front_list [] f d = refl
front_list (x ∷ xs) f d = ap (λ n. f x + n) (front_list xs f d) ∙ sym (sum_by-cons f x xs)

-- different numbers below n are at most n
ones : (xs : List ℕ) → sum_by (λ x. 1) xs ≡ length xs
ones [] = refl
ones (x ∷ xs) = sum_by-cons (λ x. 1) x xs ∙ ap (λ n. 1 + n) (ones xs) ∙ omega arith

front_ones : (n : ℕ) → front n (λ i. 1) ≡ n
front_ones zero = refl
front_ones (suc n) = let rest = front_ones n in omega (arith, rest)

pub few_below : (xs : List ℕ) (n : ℕ) → NoneTwice xs → ((k : ℕ) → k < length xs → get_or xs k 0 < n) → length xs ≤ n
few_below xs n once inside = let most = sum_most xs n (λ x. 1) once inside in omega (arith, most, ones xs, front_ones n)
