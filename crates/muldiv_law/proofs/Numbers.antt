-- Single steps on plain numbers.
use Rattle.std.proofs.Common.{◌≡◌, ◌∙◌, ℕ, ◌+◌, ◌-◌, ◌*◌, ◌/◌, ◌%◌, ◌^◌, ◌<◌, ◌≤◌, arith, ap}

-- ---- the sum of a product's step: s and t are the signs, of which t is that of b where use is 1
-- signed b: H + b
pub adds-signed : (hi b : ℕ) → hi < 2 ^ 32 → b < 2 ^ 32
    → let x : ℕ = hi / 2 ^ 31 % 2 * 2 ^ 32 + hi in let y : ℕ = b / 2 ^ 31 % 2 * 2 ^ 32 + b in let total : ℕ = (0 + (x * 2 + 1) + (0 + (y * 2 + 0))) % 2 ^ 35 in
    2 * (total / 2 ^ 2 % 2 ^ 32) + total / 2 ^ 1 % 2 + (hi / 2 ^ 31 % 2 + b / 2 ^ 31 % 2) * 2 ^ 32 ≡ hi + b + (total / 2 ^ 2 % 2 ^ 32) / 2 ^ 31 % 2 * 2 ^ 33
adds-signed hi b h k = omega arith

pub keeps-signed : (hi : ℕ) → hi < 2 ^ 32
    → let x : ℕ = hi / 2 ^ 31 % 2 * 2 ^ 32 + hi in let total : ℕ = (0 + (x * 2 + 1) + (0 + 0)) % 2 ^ 35 in
    2 * (total / 2 ^ 2 % 2 ^ 32) + total / 2 ^ 1 % 2 + hi / 2 ^ 31 % 2 * 2 ^ 32 ≡ hi + (total / 2 ^ 2 % 2 ^ 32) / 2 ^ 31 % 2 * 2 ^ 33
keeps-signed hi h = omega arith

pub adds-plain : (hi b : ℕ) → hi < 2 ^ 32 → b < 2 ^ 32
    → let total : ℕ = (0 + (hi * 2 + 1) + (0 + (b * 2 + 0))) % 2 ^ 35 in
    2 * (total / 2 ^ 2 % 2 ^ 32) + total / 2 ^ 1 % 2 ≡ hi + b
adds-plain hi b h k = omega arith

-- the last step: H - b, of which the sign is that of the result
pub takes-signed : (hi b : ℕ) → hi < 2 ^ 32 → b < 2 ^ 32
    → let x : ℕ = hi / 2 ^ 31 % 2 * 2 ^ 32 + hi in let y : ℕ = b / 2 ^ 31 % 2 * 2 ^ 32 + b in let total : ℕ = (0 + (x * 2 + 1) + (0 + ((2 ^ 33 - 1 - y) * 2 + 1))) % 2 ^ 35 in
    2 * (total / 2 ^ 2 % 2 ^ 32) + total / 2 ^ 1 % 2 + hi / 2 ^ 31 % 2 * 2 ^ 32 + b ≡ hi + b / 2 ^ 31 % 2 * 2 ^ 32 + (total / 2 ^ 2 % 2 ^ 32) / 2 ^ 31 % 2 * 2 ^ 33
takes-signed hi b h k = omega arith

pub takes-plain : (hi b : ℕ) → hi < 2 ^ 32 → b < 2 ^ 32
    → let total : ℕ = (0 + (hi * 2 + 1) + (0 + ((2 ^ 33 - 1 - b) * 2 + 1))) % 2 ^ 35 in
    2 * (total / 2 ^ 2 % 2 ^ 32) + total / 2 ^ 1 % 2 + b ≡ hi + (total / 2 ^ 2 % 2 ^ 32) / 2 ^ 31 % 2 * 2 ^ 33
takes-plain hi b h k = omega arith

-- ---- the difference of a division's step
pub divides-above : (x b : ℕ) → x < 2 ^ 33 → b < 2 ^ 32 → b ≤ x → let total : ℕ = (0 + (x * 2 + 1) + (0 + ((2 ^ 33 - 1 - (0 + b)) * 2 + 1))) % 2 ^ 35 in (total / 2 ^ 34 % 2 ≡ 1) × (total / 2 ^ 1 % 2 ^ 32 ≡ (x - b) % 2 ^ 32)
divides-above x b h k l = (omega arith, omega arith)

pub divides-below : (x b : ℕ) → x < 2 ^ 33 → b < 2 ^ 32 → x < b → let total : ℕ = (0 + (x * 2 + 1) + (0 + ((2 ^ 33 - 1 - (0 + b)) * 2 + 1))) % 2 ^ 35 in total / 2 ^ 34 % 2 ≡ 0
divides-below x b h k l = omega arith

-- the same with a negative b, of which minus b is d
pub divides-above-negative : (x b d : ℕ) → x < 2 ^ 33 → b < 2 ^ 32 → d + b ≡ 2 ^ 32 → d ≤ x → let total : ℕ = (0 + (x * 2 + 1) + (0 + ((2 ^ 32 + b) * 2 + 0))) % 2 ^ 35 in (total / 2 ^ 34 % 2 ≡ 1) × (total / 2 ^ 1 % 2 ^ 32 ≡ (x - d) % 2 ^ 32)
divides-above-negative x b d h k e l = (omega arith, omega arith)

pub divides-below-negative : (x b d : ℕ) → x < 2 ^ 33 → b < 2 ^ 32 → d + b ≡ 2 ^ 32 → x < d → let total : ℕ = (0 + (x * 2 + 1) + (0 + ((2 ^ 32 + b) * 2 + 0))) % 2 ^ 35 in total / 2 ^ 34 % 2 ≡ 0
divides-below-negative x b d h k e l = omega arith

-- ---- a step of a product, over the places: p * q is 2 ^ 31, as q is 2 ^ n
module _ (p q : ℕ) (places : p * q ≡ 2 ^ 31) where
  pub low-half : (l r bit odd lo : ℕ) → lo ≡ l * (p * 2) + (r * 2 + odd) → odd < 2 → bit * 2 ^ 31 + lo / 2 ≡ (bit * q + l) * p + r
  low-half l r bit odd lo h u =
      let e : l * (p * 2) ≡ l * p * 2 = grind arith in
      let f : (bit * q + l) * p ≡ bit * (p * q) + l * p = grind arith in
      let g : bit * (p * q) ≡ bit * 2 ^ 31 = ap (λ (k : ℕ). bit * k) places in
      omega arith

  -- what is owed after a step in which nothing is added, and after one in which b is
  pub keeps-product : (hi l am b s t hi' bit s' : ℕ) → hi * q + l + am * t * 2 ^ 32 ≡ am * b + s * 2 ^ 32 * q → 2 * hi' + bit + s * 2 ^ 32 ≡ hi + s' * 2 ^ 33
      → hi' * (q * 2) + (bit * q + l) + am * t * 2 ^ 32 ≡ am * b + s' * 2 ^ 32 * (q * 2)
  keeps-product hi l am b s t hi' bit s' h k =
      let e : (2 * hi' + bit + s * 2 ^ 32) * q ≡ (hi + s' * 2 ^ 33) * q = ap (λ (z : ℕ). z * q) k in
      let e0 : (2 * hi' + bit + s * 2 ^ 32) * q ≡ hi' * q * 2 + bit * q + s * q * 2 ^ 32 = grind arith in
      let e1 : (hi + s' * 2 ^ 33) * q ≡ hi * q + s' * q * 2 ^ 33 = grind arith in
      let e2 : hi' * (q * 2) ≡ hi' * q * 2 = grind arith in
      let e3 : s' * 2 ^ 32 * (q * 2) ≡ s' * q * 2 ^ 33 = grind arith in
      let e4 : s * 2 ^ 32 * q ≡ s * q * 2 ^ 32 = grind arith in
      omega arith

  pub adds-product : (hi l am b s t hi' bit s' : ℕ) → hi * q + l + am * t * 2 ^ 32 ≡ am * b + s * 2 ^ 32 * q → 2 * hi' + bit + (s + t) * 2 ^ 32 ≡ hi + b + s' * 2 ^ 33
      → hi' * (q * 2) + (bit * q + l) + (am + q) * t * 2 ^ 32 ≡ (am + q) * b + s' * 2 ^ 32 * (q * 2)
  adds-product hi l am b s t hi' bit s' h k =
      let e : (2 * hi' + bit + (s + t) * 2 ^ 32) * q ≡ (hi + b + s' * 2 ^ 33) * q = ap (λ (z : ℕ). z * q) k in
      let e0 : (2 * hi' + bit + (s + t) * 2 ^ 32) * q ≡ hi' * q * 2 + bit * q + s * q * 2 ^ 32 + t * q * 2 ^ 32 = grind arith in
      let e1 : (hi + b + s' * 2 ^ 33) * q ≡ hi * q + b * q + s' * q * 2 ^ 33 = grind arith in
      let e2 : hi' * (q * 2) ≡ hi' * q * 2 = grind arith in
      let e3 : s' * 2 ^ 32 * (q * 2) ≡ s' * q * 2 ^ 33 = grind arith in
      let e4 : s * 2 ^ 32 * q ≡ s * q * 2 ^ 32 = grind arith in
      let e5 : (am + q) * t * 2 ^ 32 ≡ am * t * 2 ^ 32 + t * q * 2 ^ 32 = grind arith in
      let e6 : (am + q) * b ≡ am * b + b * q = grind arith in
      omega arith

  -- ---- a step of a division
  pub low-rest : (r bit q' c lo : ℕ) → lo ≡ (bit * p + r) * q + q' → r < p → q' < q → bit < 2
      → (lo / 2 ^ 31 % 2 ≡ bit) × (lo % 2 ^ 31 * 2 + c ≡ r * (q * 2) + (q' * 2 + c))
  low-rest r bit q' c lo h k l m =
      let e : (bit * p + r) * q ≡ bit * (p * q) + r * q = grind arith in
      let g : bit * (p * q) ≡ bit * 2 ^ 31 = ap (λ (z : ℕ). bit * z) places in
      let d : p ≡ r + 1 + (p - 1 - r) = omega arith in
      let f : p * q ≡ (r + 1 + (p - 1 - r)) * q = ap (λ (z : ℕ). z * q) d in
      let f1 : (r + 1 + (p - 1 - r)) * q ≡ r * q + q + (p - 1 - r) * q = spread r (p - 1 - r) q in
      let f2 : r * (q * 2) ≡ r * q * 2 = grind arith in
      let small : r * q + q' < 2 ^ 31 = omega arith in
      (omega arith, omega arith)
    where
      spread : (u v w : ℕ) → (u + 1 + v) * w ≡ u * w + w + v * w
      spread u v w = grind arith

  -- the dividend in parts: k is the quotient's new digit
  pub divides : (a d quotient hi bit r k hi' : ℕ) → a ≡ (quotient * d + hi) * (p * 2) + (bit * p + r) → hi' + k * d ≡ hi * 2 + bit
      → a ≡ ((quotient * 2 + k) * d + hi') * p + r
  divides a d quotient hi bit r k hi' h e =
      let e1 : (quotient * d + hi) * (p * 2) ≡ (quotient * d * 2 + hi * 2) * p = grind arith in
      let e2 : (quotient * 2 + k) * d + hi' ≡ quotient * d * 2 + (hi' + k * d) = grind arith in
      let e3 : ((quotient * 2 + k) * d + hi') * p ≡ (quotient * d * 2 + (hi * 2 + bit)) * p = ap (λ (z : ℕ). z * p) (e2 ∙ ap (λ (z : ℕ). quotient * d * 2 + z) e) in
      let e4 : (quotient * d * 2 + (hi * 2 + bit)) * p ≡ (quotient * d * 2 + hi * 2) * p + bit * p = grind arith in
      omega arith
