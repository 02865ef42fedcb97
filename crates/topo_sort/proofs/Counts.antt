-- Counts of the nodes below a rank, as ranks change; the needs that are left.
use Rattle.std.proofs.Common.{◌≡◌, ℕ, zero, suc, ◌+◌, ◌<◌, ◌≤◌, Bool, true, false, cond, ltb, List, [], ◌∷◌, length, get_or, set, refl, ap, arith}
use Rattle.std.proofs.lemmas.List.Sums.{sum_by-append, sum_by-set}
use Rattle.std.proofs.lemmas.Bool.Decides.{nat_tests}
use Rattle.topo_sort.specs.Graph.{needs}
use Rattle.topo_sort.specs.Ranks.{count_below}
use Rattle.topo_sort.specs.Search.{left}

abbrev one_if : Bool → ℕ
one_if b = cond b 1 0

-- a rank that changes on the same side of the bound leaves the count
pub count_same : (bound : ℕ) (rs : List ℕ) (x v : ℕ) → x < length rs → ltb (get_or rs x 0) bound ≡ ltb v bound → count_below bound (set rs x v) ≡ count_below bound rs
count_same bound rs x v h e =
    let s = sum_by-set (λ r. cond (ltb r bound) 1 0) rs x v 0 h in
    let q : one_if (ltb (get_or rs x 0) bound) ≡ one_if (ltb v bound) = ap one_if e in
    omega (arith, s, q)

-- one that rises above it makes the count less by one
pub count_less : (bound : ℕ) (rs : List ℕ) (x v : ℕ) → x < length rs → ltb (get_or rs x 0) bound ≡ true → ltb v bound ≡ false → count_below bound (set rs x v) + 1 ≡ count_below bound rs
count_less bound rs x v h a b =
    let s = sum_by-set (λ r. cond (ltb r bound) 1 0) rs x v 0 h in
    let p : one_if (ltb (get_or rs x 0) bound) ≡ 1 = ap one_if a in
    let q : one_if (ltb v bound) ≡ 0 = ap one_if b in
    omega (arith, s, p, q)

-- one more need of a node that is passed
pub left_less : (edges : List (List ℕ)) (done : List ℕ) (x : ℕ) → x < length done → length done ≡ length edges → get_or done x 0 < length (needs edges x)
    → left edges (set done x (get_or done x 0 + 1)) + 1 ≡ left edges done
left_less [] done x a b h = absurd (omega arith)
left_less (e ∷ edges) [] x a b h = absurd (omega arith)
left_less (e ∷ edges) (n ∷ done) zero a b h = omega arith
left_less (e ∷ edges) (n ∷ done) (suc x) a b h =
    let r : left edges (set done x (get_or done x 0 + 1)) + 1 ≡ left edges done = left_less edges done x (omega arith) (omega arith) h in
    omega arith

-- none is below, where each is at least the bound
pub count_none : (rs : List ℕ) → ((k : ℕ) → k < length rs → 2 ≤ get_or rs k 0) → count_below 2 rs ≡ 0
count_none [] h = refl
count_none (r ∷ rs) h =
    let a = sum_by-append (λ n. cond (ltb n 2) 1 0) (r ∷ []) rs in
    let b : count_below 2 rs ≡ 0 = count_none rs (λ k l. h (suc k) (omega (arith, l))) in
    let c : one_if (ltb r 2) ≡ 0 = ap one_if (not_below r (h 0 (omega arith))) in
    omega (arith, a, b, c)
  where
    not_below : (n : ℕ) → 2 ≤ n → ltb n 2 ≡ false
    not_below n l = grind (arith, nat_tests)
