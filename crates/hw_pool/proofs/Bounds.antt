-- Values of trees are within their widths.
use Rattle.std.proofs.Common.{◌≡◌, ℕ, ◌+◌, ◌-◌, ◌*◌, ◌/◌, ◌%◌, ◌^◌, ◌<◌, ◌≤◌, Bool, true, false, cond, eqb, ltb, arith, sym, subst, bit_and, pow-add}
use Rattle.std.proofs.lemmas.Nat.{pow_pos, or_lt, xor_lt, and_le_l}
use Rattle.core_words.specs.Values.{one_if, not_of, choose, join_of}
use Rattle.hw_pool.specs.Trees.{Tree, width_of}
use Rattle.hw_pool.specs.Trees.Tree.{Lit, Input, Wire, Reg, Not, And, Or, Xor, Add, Sub, Eq, Ltu, Mux, Cat, Slice, Read}
use Rattle.hw_pool.specs.Meaning.{Env, value, Fits, Within}

below-mod : (n w : ℕ) → n % 2 ^ w < 2 ^ w
below-mod n w = let p : 0 < 2 ^ w = pow_pos w in omega arith

below-one : (b : Bool) (w : ℕ) → w ≡ 1 → one_if b < 2 ^ w
below-one true w e = rw e (omega arith)
below-one false w e = rw e (omega arith)

below-not : (n w : ℕ) → not_of w n < 2 ^ w
below-not n w = let p : 0 < 2 ^ w = pow_pos w in omega arith

below-choose : (c a b m : ℕ) → a < m → b < m → choose c a b < m
below-choose c a b m h k = pick (eqb c 1) h k
  where
    pick : (t : Bool) → a < m → b < m → cond t a b < m
    pick true h k = h
    pick false h k = k

product : (a b m n : ℕ) → a < m → b < n → a * n + b < m * n
product a b m n h k = grind arith

below-join : (a b u v w : ℕ) → u + v ≡ w → a < 2 ^ u → b < 2 ^ v → join_of v a b < 2 ^ w
below-join a b u v w e h k =
    subst (λ n. a * 2 ^ v + b < 2 ^ n) e (subst (λ n. a * 2 ^ v + b < n) (sym (pow-add 2 u v)) (product a b (2 ^ u) (2 ^ v) h k))

to-width : (n v w : ℕ) → v ≡ w → n < 2 ^ v → n < 2 ^ w
to-width n v w e h = subst (λ u. n < 2 ^ u) e h

pub value-fits : (env : Env) (t : Tree) → Fits t → Within env t → value env t < 2 ^ width_of t
value-fits env (Lit w v) f h = f.1
value-fits env (Input w port) f h = h
value-fits env (Wire w wire) f h = h
value-fits env (Reg w reg) f h = h
value-fits env (Not w a) f h = to-width _ (width_of a) w f.1 (below-not (value env a) (width_of a))
value-fits env (And w a b) f h =
    let l : value env a < 2 ^ w = to-width _ (width_of a) w f.1 (value-fits env a f.3 h.0) in
    let m : bit_and (value env a) (value env b) ≤ value env a = and_le_l (value env a) (value env b) in
    omega arith
value-fits env (Or w a b) f h =
    or_lt w _ _ (to-width _ (width_of a) w f.1 (value-fits env a f.3 h.0)) (to-width _ (width_of b) w f.2 (value-fits env b f.4 h.1))
value-fits env (Xor w a b) f h =
    xor_lt w _ _ (to-width _ (width_of a) w f.1 (value-fits env a f.3 h.0)) (to-width _ (width_of b) w f.2 (value-fits env b f.4 h.1))
value-fits env (Add w a b) f h = to-width _ (width_of a) w f.1 (below-mod _ (width_of a))
value-fits env (Sub w a b) f h = to-width _ (width_of a) w f.1 (below-mod _ (width_of a))
value-fits env (Eq w a b) f h = below-one (eqb (value env a) (value env b)) w f.0
value-fits env (Ltu w a b) f h = below-one (ltb (value env a) (value env b)) w f.0
value-fits env (Mux w c a b) f h =
    below-choose (value env c) _ _ (2 ^ w) (to-width _ (width_of a) w f.2 (value-fits env a f.5 h.1)) (to-width _ (width_of b) w f.3 (value-fits env b f.6 h.2))
value-fits env (Cat w a b) f h =
    below-join _ _ (width_of a) (width_of b) w f.1 (value-fits env a f.2 h.0) (value-fits env b f.3 h.1)
value-fits env (Slice w a high low) f h =
    let e : high + 1 - low ≡ w = let sum : w + low ≡ high + 1 = f.2 in omega arith in
    to-width _ (high + 1 - low) w e (below-mod (value env a / 2 ^ low) (high + 1 - low))
value-fits env (Read w array a) f h = h.0
