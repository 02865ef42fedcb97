-- Values of nodes keep when more nodes come.
use Rattle.std.proofs.Common.{◌≡◌, ℕ, zero, suc, ◌+◌, ◌-◌, ◌*◌, ◌%◌, ◌^◌, ◌<◌, ◌≤◌, cond, ltb, true, false, List, [], ◌∷◌, ◌++◌, length, get_or, refl, ap, sym, ◌∙◌, subst, arith, bit_and, length-append, pow-add}
use Rattle.std.proofs.lemmas.List.{get_or_append_left, get_or_push}
use Rattle.std.proofs.lemmas.Nat.{and_mask, pow_pos}
use Rattle.std.proofs.Math.Pow.{mod-mod-pow, pow_mono}
use Rattle.std.proofs.Math.Nat.{add-mul-mod_self_right, mod-eq_of_lt}
use Rattle.std.proofs.lemmas.Bool.Decides.{nat_tests}
use Rattle.verilog_flat.specs.declared.node.Node.{Node}
use Rattle.verilog_flat.specs.Flat.{node_value, grow, values}
use Rattle.verilog_resolve.specs.Flat.{mask_of}

module _ (regs cells ins : List ℕ) where
  pub grow-append : (ns ms : List Node) (vals : List ℕ) → grow regs cells ins (ns ++ ms) vals ≡ grow regs cells ins ms (grow regs cells ins ns vals)
  grow-append [] ms vals = refl
  grow-append (n ∷ ns) ms vals = grow-append ns ms (vals ++ (node_value regs cells ins vals n ∷ []))

  pub length-grow : (ns : List Node) (vals : List ℕ) → length (grow regs cells ins ns vals) ≡ length vals + length ns
  length-grow [] vals = omega arith
  length-grow (n ∷ ns) vals = length-grow ns (vals ++ (node_value regs cells ins vals n ∷ [])) ∙ grind (arith, length-append)

  pub values-push : (ns : List Node) (n : Node) → values regs cells ins (ns ++ (n ∷ [])) ≡ values regs cells ins ns ++ (node_value regs cells ins (values regs cells ins ns) n ∷ [])
  values-push ns n = grow-append ns (n ∷ []) []

  pub push_is : (ns : List Node) (n : Node) → get_or (values regs cells ins (ns ++ (n ∷ []))) (length ns) 0 ≡ node_value regs cells ins (values regs cells ins ns) n
  push_is ns n = ap (λ v. get_or v (length ns) 0) (values-push ns n) ∙ get_or_push (values regs cells ins ns) _ 0 (length ns) (length-grow ns [] ∙ omega arith)

  pub push_keeps : (ns : List Node) (n : Node) (j : ℕ) → j < length ns → get_or (values regs cells ins (ns ++ (n ∷ []))) j 0 ≡ get_or (values regs cells ins ns) j 0
  push_keeps ns n j h =
      ap (λ v. get_or v j 0) (values-push ns n)
      ∙ get_or_append_left (values regs cells ins ns) _ 0 j (let q : length (values regs cells ins ns) ≡ 0 + length ns = length-grow ns [] in omega arith)

-- the operators
pub mask_is : (w : ℕ) → w ≤ 64 → mask_of w ≡ 2 ^ w - 1
mask_is w h = mask_cases w h (ltb w 64) refl
  where
    mask_cases : (w : ℕ) → w ≤ 64 → (b : _) → ltb w 64 ≡ b → cond b (2 ^ w - 1) (2 ^ 64 - 1) ≡ 2 ^ w - 1
    mask_cases w h true q = refl
    mask_cases w h false q = let e : 64 ≡ w = grind (arith, nat_tests) in ap (λ k. 2 ^ k - 1) e

pub masked : (w n : ℕ) → w ≤ 64 → bit_and n (mask_of w) ≡ n % 2 ^ w
masked w n h = ap (bit_and n) (mask_is w h) ∙ and_mask n w

-- 64 is w and the rest
pub mod_wide : (w n : ℕ) → w ≤ 64 → n % 2 ^ 64 % 2 ^ w ≡ n % 2 ^ w
mod_wide w n h = let P : ℕ → Type 0 = λ k. n % 2 ^ k % 2 ^ w ≡ n % 2 ^ w in let e : 64 - w + w ≡ 64 = omega arith in subst P e (mod-mod-pow n (64 - w) w)

pub plus_is : (w a b : ℕ) → w ≤ 64 → bit_and ((a + b) % 2 ^ 64) (mask_of w) ≡ (a + b) % 2 ^ w
plus_is w a b h = masked w ((a + b) % 2 ^ 64) h ∙ mod_wide w (a + b) h

wrapped : (m k a b : ℕ) → b ≤ m → a + ((k * m + m) - b) ≡ (a + (m - b)) + k * m
wrapped m k a b h = omega arith

pub pow_split : (w : ℕ) → w ≤ 64 → 2 ^ 64 ≡ (2 ^ (64 - w) - 1) * 2 ^ w + 2 ^ w
pow_split w h =
    let e : 64 - w + w ≡ 64 = omega arith in
    let p : 0 < 2 ^ (64 - w) = pow_pos (64 - w) in
    let P : ℕ → Type 0 = λ k. 2 ^ k ≡ (2 ^ (64 - w) - 1) * 2 ^ w + 2 ^ w in
    subst P e (pow-add 2 (64 - w) w ∙ less_one (2 ^ (64 - w)) (2 ^ w) p)
  where
    less_one : (q m : ℕ) → 0 < q → q * m ≡ (q - 1) * m + m
    less_one zero m h = absurd (omega arith)
    less_one (suc q) m h = grind arith

pub minus_is : (w a b : ℕ) → w ≤ 64 → b < 2 ^ w → bit_and ((a + (2 ^ 64 - b)) % 2 ^ 64) (mask_of w) ≡ (a + (2 ^ w - b)) % 2 ^ w
minus_is w a b h l =
    let le : b ≤ 2 ^ w = omega arith in
    masked w ((a + (2 ^ 64 - b)) % 2 ^ 64) h ∙ mod_wide w (a + (2 ^ 64 - b)) h
    ∙ ap (λ n. (a + (n - b)) % 2 ^ w) (pow_split w h)
    ∙ ap (λ n. n % 2 ^ w) (wrapped (2 ^ w) (2 ^ (64 - w) - 1) a b le)
    ∙ add-mul-mod_self_right (a + (2 ^ w - b)) (2 ^ (64 - w) - 1) (2 ^ w)

fits : (a b m n : ℕ) → a < m → b < n → a * n + b < m * n
fits a b m n h k = grind arith

pub joined_fits : (a b u v : ℕ) → a < 2 ^ u → b < 2 ^ v → a * 2 ^ v + b < 2 ^ (u + v)
joined_fits a b u v k l = subst (λ n. a * 2 ^ v + b < n) (sym (pow-add 2 u v)) (fits a b (2 ^ u) (2 ^ v) k l)

-- a part behind others
pub joined_is : (a b u v : ℕ) → u + v ≤ 64 → a < 2 ^ u → b < 2 ^ v → (a * 2 ^ v % 2 ^ 64 + b) % 2 ^ 64 ≡ a * 2 ^ v + b
joined_is a b u v h k l =
    let s : a * 2 ^ v + b < 2 ^ (u + v) = joined_fits a b u v k l in
    let m : 2 ^ (u + v) ≤ 2 ^ 64 = pow_mono h in
    let q : a * 2 ^ v + b < 2 ^ 64 = omega (arith, s, m) in
    let r : a * 2 ^ v < 2 ^ 64 = omega (arith, q) in
    ap (λ n. (n + b) % 2 ^ 64) (mod-eq_of_lt r) ∙ mod-eq_of_lt q
