-- A list of nets in two halves.
use Rattle.std.proofs.Common.{◌≡◌, ◌∙◌, ℕ, zero, suc, ◌+◌, ◌-◌, ◌*◌, ◌/◌, ◌^◌, ◌<◌, ◌≤◌, max, List, [], ◌∷◌, length, take, drop, refl, arith, ap, sym, subst}
use Rattle.std.proofs.lemmas.List.{get_or-take, get_or-drop, length-take-le, length-drop, take_all}
use Rattle.std.proofs.lemmas.Nat.{pow_pos}
use Rattle.std.proofs.Math.Nat.{pow-suc}
use Rattle.hw_pool.specs.Nodes.{PoolValue}
use Rattle.hw_expr.specs.declared.net.Net.{Net}
use Rattle.hw_expr.specs.Nets.{IsNet}
use Rattle.hw_expr.specs.Lists.{net_at, AreNets, greatest}

-- two lists of h nets are the halves of a list
pub record Halves (list first second : List Net) (h : ℕ) : Type 0 where
  pub some : 1 ≤ h
  pub whole : length list ≡ h + h
  pub first_length : length first ≡ h
  pub second_length : length second ≡ h
  pub first_at : (k : ℕ) → k < h → net_at first k ≡ net_at list k
  pub second_at : (k : ℕ) → k < h → net_at second k ≡ net_at list (h + k)
  pub levels : greatest list ≡ max (greatest first) (greatest second)

greatest-split : (h : ℕ) (list : List Net) → greatest list ≡ max (greatest (take h list)) (greatest (drop h list))
greatest-split zero list = omega arith
greatest-split (suc h) [] = refl
greatest-split (suc h) (net ∷ nets) = let e = greatest-split h nets in omega arith

halves-at : (list : List Net) (h : ℕ) → 1 ≤ h → length list ≡ h + h → Halves list (take h list) (take (length list - h) (drop h list)) h
halves-at list h some whole =
    let left : length (drop h list) ≡ length list - h = length-drop h list in
    let second : take (length list - h) (drop h list) ≡ drop h list = take_all (length list - h) (drop h list) (omega arith) in
    record {
      some = some;
      whole = whole;
      first_length = length-take-le h list (omega arith);
      second_length = let same = ap length second in omega arith;
      first_at = λ k l. get_or-take h list k _ l;
      second_at = λ k l. ap (λ nets. net_at nets k) second ∙ get_or-drop h list k _;
      levels = subst (λ nets. greatest list ≡ max (greatest (take h list)) (greatest nets)) (sym second) (greatest-split h list);
    }

half-suc : (n b : ℕ) → n ≡ 2 ^ suc b → n / 2 ≡ 2 ^ b
half-suc n b is = let e : 2 ^ suc b ≡ 2 ^ b * 2 = pow-suc 2 b in omega arith

-- half of a power of two
pub half-pow : (n b : ℕ) → n ≡ 2 ^ b → 1 ≤ b → n / 2 ≡ 2 ^ (b - 1)
half-pow n zero is l = absurd (omega arith)
half-pow n (suc b) is l = let e : b ≡ suc b - 1 = omega arith in half-suc n b is ∙ ap (λ k. 2 ^ k) e

double-suc : (n b : ℕ) → n ≡ 2 ^ suc b → n ≡ n / 2 + n / 2
double-suc n b is = let e : 2 ^ suc b ≡ 2 ^ b * 2 = pow-suc 2 b in omega arith

double-pow : (n b : ℕ) → n ≡ 2 ^ b → 1 ≤ b → n ≡ n / 2 + n / 2
double-pow n zero is l = absurd (omega arith)
double-pow n (suc b) is l = double-suc n b is

pub halves : (list : List Net) (b : ℕ) → length list ≡ 2 ^ b → 1 ≤ b
    → Halves list (take (length list / 2) list) (take (length list - length list / 2) (drop (length list / 2) list)) (length list / 2)
halves list b is l =
    let half = half-pow (length list) b is l in
    let p : 0 < 2 ^ (b - 1) = pow_pos (b - 1) in
    halves-at list (length list / 2) (omega arith) (double-pow (length list) b is l)

module _ (old new : PoolValue) (list first second : List Net) (h : ℕ) (are : AreNets old (net_at list 0).width list) (two : Halves list first second h) where
  pub first-width : (net_at first 0).width ≡ (net_at list 0).width
  first-width = ap (λ (n : Net). n.width) (two.first_at 0 two.some)

  pub second-width : (net_at second 0).width ≡ (net_at list 0).width
  second-width = ap (λ (n : Net). n.width) (two.second_at 0 two.some) ∙ are.widths (h + 0) (omega (arith, two.some, two.whole))

  pub first-nets : ((n : Net) → IsNet old n → IsNet new n) → AreNets new (net_at first 0).width first
  first-nets stay = record {
    nets = λ k l.
        let below : k < h = omega (arith, two.first_length) in
        subst (IsNet new) (sym (two.first_at k below)) (stay _ (are.nets k (omega (arith, two.whole))));
    widths = λ k l.
        let below : k < h = omega (arith, two.first_length) in
        ap (λ (n : Net). n.width) (two.first_at k below) ∙ are.widths k (omega (arith, two.whole)) ∙ sym first-width;
  }

  pub second-nets : ((n : Net) → IsNet old n → IsNet new n) → AreNets new (net_at second 0).width second
  second-nets stay = record {
    nets = λ k l.
        let below : k < h = omega (arith, two.second_length) in
        subst (IsNet new) (sym (two.second_at k below)) (stay _ (are.nets (h + k) (omega (arith, two.whole))));
    widths = λ k l.
        let below : k < h = omega (arith, two.second_length) in
        ap (λ (n : Net). n.width) (two.second_at k below) ∙ are.widths (h + k) (omega (arith, two.whole)) ∙ sym second-width;
  }
