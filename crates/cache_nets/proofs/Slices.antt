-- The parts of pcs and lines are quotients and remainders by the sizes.
use Rattle.std.proofs.Common.{◌≡◌, ◌∙◌, ℕ, zero, suc, ◌+◌, ◌-◌, ◌*◌, ◌/◌, ◌%◌, ◌^◌, ◌<◌, ◌≤◌, Bool, true, false, cond, eqb, ltb, List, length, get_or, set, get_or-set_same, get_or-set_other, refl, sym, ap, subst, pow-suc, arith}
use Rattle.std.proofs.lemmas.Bool.{ltb-true, ltb-false, eqb-true, eqb-false}
use Rattle.std.proofs.lemmas.Bool.Decides.{nat_tests}
use Rattle.std.proofs.lemmas.Nat.{div-mul-add, mod_low, pow-add, pow_pos, shr-shr, shr_below}
use Rattle.core_words.specs.Values.{add_of, not_of, one_if}
use Rattle.cache_nets.specs.Machine.{address_in, cell_at, cell_in, index_at, index_in, line_at, place_at, tag_at, tag_in, walking_of}

pub mod_small : (k n : ℕ) → n < 2 ^ k → n % 2 ^ k ≡ n
mod_small k n l = let e : 0 * 2 ^ k + n ≡ n = omega arith in subst (λ z. z % 2 ^ k ≡ n) e (mod_low 0 k n l)

pub one_below : (n : ℕ) → 1 ≤ n → 1 < 2 ^ n
one_below zero h = absurd (omega (arith, h))
one_below (suc n) h =
    let e : 2 ^ suc n ≡ 2 ^ n * 2 = pow-suc 2 n in
    let p : 1 ≤ 2 ^ n = pow_pos n in
    omega arith

four : (x : ℕ) → x * 2 ^ 2 + 0 ≡ 4 * x
four x = omega arith

-- the top bit of a number below twice a power of 2
top_bit : (b n : ℕ) → 1 ≤ b → n < b * 2 → 2 ^ 1 - 1 - n / b % 2 ^ 1 ≡ one_if (ltb n b)
top_bit b n least l = by (ltb n b) refl
  where
    by : (c : Bool) → ltb n b ≡ c → 2 ^ 1 - 1 - n / b % 2 ^ 1 ≡ one_if c
    by true e =
        let below : n < b = ltb-true n b e in
        let sum : 0 * b + n ≡ n = omega arith in
        let q : n / b ≡ 0 = subst (λ z. z / b ≡ 0) sum (div-mul-add 0 b n below) in
        ap (λ z. 2 ^ 1 - 1 - z % 2 ^ 1) q
    by false e =
        let above : b ≤ n = ltb-false n b e in
        let rest : n - b < b = omega arith in
        let sum : 1 * b + (n - b) ≡ n = omega arith in
        let q : n / b ≡ 1 = subst (λ z. z / b ≡ 1) sum (div-mul-add 1 b (n - b) rest) in
        ap (λ z. 2 ^ 1 - 1 - z % 2 ^ 1) q

pub last_same : (p n : ℕ) → 1 ≤ p → eqb n (p - 1 - 0) ≡ eqb (suc n) p
last_same p n least = grind (arith, nat_tests)

-- a cell behind a write
pub get_set : (cells : List ℕ) (a v i : ℕ) → a < length cells → get_or (set cells a v) i 0 ≡ cond (eqb i a) v (get_or cells i 0)
get_set cells a v i l = by (eqb i a) refl
  where
    by : (c : Bool) → eqb i a ≡ c → get_or (set cells a v) i 0 ≡ cond c v (get_or cells i 0)
    by true e = subst (λ z. get_or (set cells a v) z 0 ≡ v) (sym (eqb-true i a e)) (get_or-set_same cells a v 0 l)
    by false e = get_or-set_other cells a i v 0 (eqb-false i a e)

module _ (l k : ℕ) (least_l : 1 ≤ l) (most_l : l ≤ 10) (least_k : 1 ≤ k) (most_k : k ≤ 4) where
  quarter : (pc : ℕ) → pc / 4 / 2 ^ k ≡ pc / 2 ^ (k + 2)
  quarter pc = shr-shr pc 2 k ∙ ap (λ e. pc / 2 ^ e) (let e : 2 + k ≡ k + 2 = omega arith in e)

  pub place_is : (pc : ℕ) → place_at k pc ≡ pc / 4 % 2 ^ k
  unfolding place_at
  place_is pc = ap (λ e. pc / 4 % 2 ^ e) (let e : k + 1 + 1 - 2 ≡ k = omega arith in e)

  pub index_is : (pc : ℕ) → index_at l k pc ≡ pc / 4 / 2 ^ k % 2 ^ l
  unfolding index_at
  index_is pc = let e : l + k + 1 + 1 - (k + 2) ≡ l = omega arith in λ j. sym (quarter pc) j % 2 ^ e j

  pub line_is : (pc : ℕ) → pc < 2 ^ 32 → line_at k pc ≡ pc / 4 / 2 ^ k
  unfolding line_at
  line_is pc h =
      let e : 32 ≡ 31 + 1 - (k + 2) + (k + 2) = omega arith in
      mod_small (31 + 1 - (k + 2)) (pc / 2 ^ (k + 2)) (shr_below pc (31 + 1 - (k + 2)) (k + 2) (subst (λ z. pc < 2 ^ z) e h)) ∙ sym (quarter pc)

  upper : (pc : ℕ) → pc / 4 / 2 ^ k / 2 ^ l ≡ pc / 2 ^ (l + k + 2)
  upper pc = ap (λ z. z / 2 ^ l) (quarter pc) ∙ (shr-shr pc (k + 2) l ∙ ap (λ e. pc / 2 ^ e) (let e : k + 2 + l ≡ l + k + 2 = omega arith in e))

  above : (t x : ℕ) → 1 * t + x ≡ t + x
  above t x = omega arith

  pub tag_is : (pc : ℕ) → pc < 2 ^ 32 → tag_at l k pc ≡ 2 ^ (30 - k - l) + pc / 4 / 2 ^ k / 2 ^ l
  unfolding tag_at
  tag_is pc h =
      let e : 32 ≡ 31 + 1 - (l + k + 2) + (l + k + 2) = omega arith in
      ap (λ z. 1 * 2 ^ (30 - k - l) + z)
      (mod_small (31 + 1 - (l + k + 2)) (pc / 2 ^ (l + k + 2)) (shr_below pc (31 + 1 - (l + k + 2)) (l + k + 2) (subst (λ z. pc < 2 ^ z) e h)) ∙ sym (upper pc))
      ∙ above (2 ^ (30 - k - l)) (pc / 4 / 2 ^ k / 2 ^ l)

  pub cell_is : (pc : ℕ) → cell_at l k pc ≡ pc / 4 / 2 ^ k % 2 ^ l * 2 ^ k + pc / 4 % 2 ^ k
  unfolding cell_at
  cell_is pc = λ j. index_is pc j * 2 ^ k + place_is pc j

  pub index_in_is : (line : ℕ) → index_in l line ≡ line % 2 ^ l
  unfolding index_in
  index_in_is line =
      let e : l - 1 + 1 - 0 ≡ l = omega arith in
      let one : line / 2 ^ 0 ≡ line = omega arith in
      λ j. one j % 2 ^ e j

  pub tag_in_is : (line : ℕ) → line < 2 ^ (30 - k) → tag_in l k line ≡ 2 ^ (30 - k - l) + line / 2 ^ l
  unfolding tag_in
  tag_in_is line h =
      let e : 30 - k ≡ 29 - k + 1 - l + l = omega arith in
      ap (λ z. 1 * 2 ^ (30 - k - l) + z) (mod_small (29 - k + 1 - l) (line / 2 ^ l) (shr_below line (29 - k + 1 - l) l (subst (λ z. line < 2 ^ z) e h)))
      ∙ above (2 ^ (30 - k - l)) (line / 2 ^ l)

  pub cell_in_is : (line place : ℕ) → cell_in l k line place ≡ line % 2 ^ l * 2 ^ k + place
  unfolding cell_in
  cell_in_is line place = λ j. index_in_is line j * 2 ^ k + place

  pub address_is : (line place : ℕ) → address_in k line place ≡ 4 * (line * 2 ^ k + place)
  unfolding address_in
  address_is line place = four (line * 2 ^ k + place)

  double : 2 ^ (l + 1) ≡ 2 ^ l * 2
  double = pow-add 2 l 1

  pub walking_is : (walk : ℕ) → walk < 2 ^ (l + 1) → walking_of l walk ≡ one_if (ltb walk (2 ^ l))
  unfolding walking_of
  walking_is walk h =
      let e : l + 1 - l ≡ 1 = omega arith in
      ap (λ z. 2 ^ 1 - 1 - walk / 2 ^ l % 2 ^ z) e ∙ top_bit (2 ^ l) walk (pow_pos l) (subst (λ z. walk < z) double h)

  -- the walk does not wrap while it goes on
  pub walk_more : (walk : ℕ) → ltb walk (2 ^ l) ≡ true → add_of (l + 1) walk 1 ≡ suc walk
  walk_more walk e =
      let d = double in
      let below : walk < 2 ^ l = ltb-true walk (2 ^ l) e in
      mod_small (l + 1) (walk + 1) (omega arith) ∙ (let s : walk + 1 ≡ suc walk = omega arith in s)

  -- the index of a line, and a word of it, are in the arrays
  pub index_below : (line : ℕ) → line % 2 ^ l < 2 ^ l
  index_below line = Rattle.std.proofs.lemmas.Nat.mod_below line (2 ^ l) (pow_pos l)

  pub cell_below : (line place : ℕ) → place < 2 ^ k → line % 2 ^ l * 2 ^ k + place < 2 ^ (l + k)
  cell_below line place h = subst (λ z. line % 2 ^ l * 2 ^ k + place < z) (let e : 2 ^ k * 2 ^ l ≡ 2 ^ (k + l) = sym (pow-add 2 k l) in e ∙ ap (λ e. 2 ^ e) (let e : k + l ≡ l + k = omega arith in e))
      (Rattle.std.proofs.lemmas.Nat.mul-add-lt (line % 2 ^ l) (2 ^ k) place (2 ^ l) (index_below line) h)
