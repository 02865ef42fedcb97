-- How many numbers pass a test.
use Rattle.std.proofs.Common.{◌≡◌, ℕ, zero, suc, ◌+◌, ◌<◌, ◌≤◌, Bool, true, false, eqb, refl, ap, ◌∙◌, arith}
use Rattle.std.proofs.lemmas.Bool.Decides.{nat_tests}
use Rattle.core_words.specs.Values.{one_if}

-- of the numbers k, k + 1 and so on, n of them
unfoldable pub count : (p : ℕ → Bool) (k n : ℕ) → ℕ
count p k zero = 0
count p k (suc n) = one_if (p k) + count p (suc k) n

step_le : (a b : Bool) (x y : ℕ) → (a ≡ true → b ≡ true) → x ≤ y → one_if a + x ≤ one_if b + y
step_le true true x y h l = omega arith
step_le true false x y h l = absurd (let e : false ≡ true = h refl in grind arith)
step_le false true x y h l = omega arith
step_le false false x y h l = omega arith

pub count_le : (p q : ℕ → Bool) (n k : ℕ) → ((i : ℕ) → k ≤ i → i < k + n → p i ≡ true → q i ≡ true) → count p k n ≤ count q k n
unfolding count
count_le p q zero k h = omega arith
count_le p q (suc n) k h =
    step_le (p k) (q k) (count p (suc k) n) (count q (suc k) n) (h k (omega arith) (omega arith)) (count_le p q n (suc k) (λ i a b. h i (omega arith) (omega arith)))

lt_here : (a b : Bool) (x y : ℕ) → a ≡ false → b ≡ true → x ≤ y → suc (one_if a + x) ≤ one_if b + y
lt_here true b x y e f l = absurd (grind arith)
lt_here false true x y e f l = omega arith
lt_here false false x y e f l = absurd (grind arith)

lt_later : (a b : Bool) (x y : ℕ) → (a ≡ true → b ≡ true) → suc x ≤ y → suc (one_if a + x) ≤ one_if b + y
lt_later true true x y h l = omega arith
lt_later true false x y h l = absurd (let e : false ≡ true = h refl in grind arith)
lt_later false true x y h l = omega arith
lt_later false false x y h l = omega arith

lt_at : (p q : ℕ → Bool) (k i : ℕ) (x y : ℕ) → k ≤ i → p i ≡ false → q i ≡ true → (p k ≡ true → q k ≡ true) → x ≤ y → (suc k ≤ i → suc x ≤ y)
    → (t : Bool) → eqb k i ≡ t → suc (one_if (p k) + x) ≤ one_if (q k) + y
lt_at p q k i x y l e f h same later true t =
    let s : k ≡ i = grind (arith, nat_tests) in
    lt_here (p k) (q k) x y (ap p s ∙ e) (ap q s ∙ f) same
lt_at p q k i x y l e f h same later false t = lt_later (p k) (q k) x y h (later (grind (arith, nat_tests)))

-- one of the numbers passes the second test alone
pub count_lt : (p q : ℕ → Bool) (n k i : ℕ) → k ≤ i → i < k + n → p i ≡ false → q i ≡ true
    → ((j : ℕ) → k ≤ j → j < k + n → p j ≡ true → q j ≡ true) → suc (count p k n) ≤ count q k n
unfolding count
count_lt p q zero k i low high e f h = absurd (omega arith)
count_lt p q (suc n) k i low high e f h =
    lt_at p q k i (count p (suc k) n) (count q (suc k) n) low e f (h k (omega arith) (omega arith))
    (count_le p q n (suc k) (λ j a b. h j (omega arith) (omega arith)))
    (λ l. count_lt p q n (suc k) i l (omega arith) e f (λ j a b. h j (omega arith) (omega arith)))
    (eqb k i) refl

pub count_all : (n k : ℕ) → count (λ i. true) k n ≡ n
unfolding count
count_all zero k = refl
count_all (suc n) k = let e : count (λ i. true) (suc k) n ≡ n = count_all n (suc k) in omega arith
