-- How many things of two kinds come before a key. Those of the first kind are to pass a test.
use Rattle.std.proofs.Common.{◌≡◌, ℕ, suc, ◌+◌, ◌<◌, ◌≤◌, Bool, true, false, ltb, ◌&&◌, refl, arith}
use Rattle.std.proofs.lemmas.Bool.Decides.{nat_tests}
use Rattle.netlist_order.proofs.Counts.{count, count_le, count_lt, count_all}

and_more : (a b c : Bool) → (b ≡ true → c ≡ true) → (a && b) ≡ true → (a && c) ≡ true
and_more true b c f h = f h
and_more false b c f h = h

and_first : (a b : Bool) → (a && b) ≡ true → a ≡ true
and_first true b h = refl
and_first false b h = h

pub and_true : (a b : Bool) → a ≡ true → b ≡ true → (a && b) ≡ true
and_true true b e f = f
and_true false b e f = e

and_false : (a b : Bool) → b ≡ false → (a && b) ≡ false
and_false true b e = e
and_false false b e = refl

not_below : (n : ℕ) → ltb n n ≡ false
not_below n = grind (arith, nat_tests)

below_more : (n k l : ℕ) → k ≤ l → ltb n k ≡ true → ltb n l ≡ true
below_more n k l h e = grind (arith, nat_tests)

pub is_below : (n k : ℕ) → n < k → ltb n k ≡ true
is_below n k h = grind (arith, nat_tests)

module _ (p : ℕ → Bool) (f g : ℕ → ℕ) (n w : ℕ) where
  unfoldable pub before : ℕ → ℕ
  before key = count (λ j. p j && ltb (f j) key) 0 n + count (λ v. ltb (g v) key) 0 w

  unfoldable pub total : ℕ
  total = count p 0 n + w

  first_le : (k l : ℕ) → k ≤ l → count (λ j. p j && ltb (f j) k) 0 n ≤ count (λ j. p j && ltb (f j) l) 0 n
  first_le k l h = count_le _ _ n 0 (λ j a b. and_more (p j) (ltb (f j) k) (ltb (f j) l) (below_more (f j) k l h))

  second_le : (k l : ℕ) → k ≤ l → count (λ v. ltb (g v) k) 0 w ≤ count (λ v. ltb (g v) l) 0 w
  second_le k l h = count_le _ _ w 0 (λ v a b. below_more (g v) k l h)

  pub first_before : (j key : ℕ) → j < n → p j ≡ true → f j < key → before (f j) < before key
  unfolding before
  first_before j key l e h =
      let a : suc (count (λ i. p i && ltb (f i) (f j)) 0 n) ≤ count (λ i. p i && ltb (f i) key) 0 n =
      count_lt _ _ n 0 j (omega arith) (omega arith) (and_false (p j) (ltb (f j) (f j)) (not_below (f j))) (and_true (p j) (ltb (f j) key) e (is_below (f j) key h))
      (λ i c d. and_more (p i) (ltb (f i) (f j)) (ltb (f i) key) (below_more (f i) (f j) key (omega arith))) in
      let b : count (λ v. ltb (g v) (f j)) 0 w ≤ count (λ v. ltb (g v) key) 0 w = second_le (f j) key (omega arith) in
      omega arith

  pub second_before : (v key : ℕ) → v < w → g v < key → before (g v) < before key
  unfolding before
  second_before v key l h =
      let a : count (λ i. p i && ltb (f i) (g v)) 0 n ≤ count (λ i. p i && ltb (f i) key) 0 n = first_le (g v) key (omega arith) in
      let b : suc (count (λ u. ltb (g u) (g v)) 0 w) ≤ count (λ u. ltb (g u) key) 0 w =
      count_lt _ _ w 0 v (omega arith) (omega arith) (not_below (g v)) (is_below (g v) key h) (λ u c d. below_more (g u) (g v) key (omega arith)) in
      omega arith

  pub first_total : (j : ℕ) → j < n → p j ≡ true → before (f j) < total
  unfolding before total
  first_total j l e =
      let a : suc (count (λ i. p i && ltb (f i) (f j)) 0 n) ≤ count p 0 n =
      count_lt _ _ n 0 j (omega arith) (omega arith) (and_false (p j) (ltb (f j) (f j)) (not_below (f j))) e
      (λ i c d. and_first (p i) (ltb (f i) (f j))) in
      let b : count (λ v. ltb (g v) (f j)) 0 w ≤ count (λ v. true) 0 w = count_le _ _ w 0 (λ v c d k. refl) in
      let c : count (λ v. true) 0 w ≡ w = count_all w 0 in
      omega arith

  pub second_total : (v : ℕ) → v < w → before (g v) < total
  unfolding before total
  second_total v l =
      let a : count (λ i. p i && ltb (f i) (g v)) 0 n ≤ count p 0 n = count_le _ _ n 0 (λ i c d. and_first (p i) (ltb (f i) (g v))) in
      let b : suc (count (λ u. ltb (g u) (g v)) 0 w) ≤ count (λ u. true) 0 w =
      count_lt _ _ w 0 v (omega arith) (omega arith) (not_below (g v)) refl (λ u c d k. refl) in
      let c : count (λ v. true) 0 w ≡ w = count_all w 0 in
      omega arith
