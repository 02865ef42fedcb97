-- The values of a cycle's forward wires meet their equations, and nothing else does.
use Rattle.std.proofs.Common.{◌≡◌, ◌∙◌, ℕ, zero, suc, ◌+◌, ◌<◌, ◌≤◌, Bool, true, false, eqb, ltb, length, get_or, Option, Some, None, refl, ap, sym, arith, bit_and, bit_or, bit_xor}
use Rattle.std.proofs.lemmas.Bool.Decides.{nat_tests}
use Rattle.core_words.specs.Values.{one_if, add_of, sub_of, not_of, bits_of, choose, join_of}
use Rattle.hw_pool.specs.Nodes.{PoolValue, IsPool}
use Rattle.hw_pool.specs.Trees.{Tree, tree_of, width_of}
use Rattle.hw_pool.specs.Trees.Tree.{Lit, Input, Wire, Reg, Not, And, Or, Xor, Add, Sub, Eq, Ltu, Mux, Cat, Slice, Read}
use Rattle.hw_pool.specs.Meaning.{value}
use Rattle.hw_expr.specs.declared.net.Net.{Net}
use Rattle.hw_module.specs.Rows.{ModuleValue, wire_at}
use Rattle.hw_module.specs.Fits.{TreeFits}
use Rattle.hw_module.specs.Checked.{DrivesWire, DriversFit}
use Rattle.hw_module.specs.Cycle.{Held, env_of, driven_value, wire_to, wire_value, cycle_env}

-- how many numbers below n pass a test
unfoldable pub count : (ℕ → Bool) → ℕ → ℕ
count p zero = 0
count p (suc n) = one_if (p n) + count p n

step_le : (a b : Bool) (x y : ℕ) → (a ≡ true → b ≡ true) → x ≤ y → one_if a + x ≤ one_if b + y
step_le true true x y h l = omega arith
step_le true false x y h l = absurd (let e : false ≡ true = h refl in grind arith)
step_le false true x y h l = omega arith
step_le false false x y h l = omega arith

count_le : (p q : ℕ → Bool) (n : ℕ) → ((i : ℕ) → i < n → p i ≡ true → q i ≡ true) → count p n ≤ count q n
unfolding count
count_le p q zero h = omega arith
count_le p q (suc n) h = step_le (p n) (q n) (count p n) (count q n) (h n (omega arith)) (count_le p q n (λ i l. h i (omega arith)))

lt_here : (a b : Bool) (x y : ℕ) → a ≡ false → b ≡ true → x ≤ y → suc (one_if a + x) ≤ one_if b + y
lt_here true b x y e f l = absurd (grind arith)
lt_here false true x y e f l = omega arith
lt_here false false x y e f l = absurd (grind arith)

lt_later : (a b : Bool) (x y : ℕ) → (a ≡ true → b ≡ true) → suc x ≤ y → suc (one_if a + x) ≤ one_if b + y
lt_later true true x y h l = omega arith
lt_later true false x y h l = absurd (let e : false ≡ true = h refl in grind arith)
lt_later false true x y h l = omega arith
lt_later false false x y h l = omega arith

count_lt_at : (p q : ℕ → Bool) (n i : ℕ) → i < suc n → p i ≡ false → q i ≡ true → ((j : ℕ) → j < suc n → p j ≡ true → q j ≡ true) → (i < n → suc (count p n) ≤ count q n)
    → (t : Bool) → eqb i n ≡ t → suc (one_if (p n) + count p n) ≤ one_if (q n) + count q n
count_lt_at p q n i l e f h ih true t =
    let s : i ≡ n = grind (arith, nat_tests) in
    lt_here (p n) (q n) (count p n) (count q n) (ap p (sym s) ∙ e) (ap q (sym s) ∙ f) (count_le p q n (λ j a. h j (omega arith)))
count_lt_at p q n i l e f h ih false t = lt_later (p n) (q n) (count p n) (count q n) (h n (omega arith)) (ih (grind (arith, nat_tests)))

count_lt : (p q : ℕ → Bool) (n i : ℕ) → i < n → p i ≡ false → q i ≡ true → ((j : ℕ) → j < n → p j ≡ true → q j ≡ true) → suc (count p n) ≤ count q n
unfolding count
count_lt p q zero i l e f h = absurd (omega arith)
count_lt p q (suc n) i l e f h = count_lt_at p q n i l e f h (λ a. count_lt p q n i a e f (λ j b. h j (omega arith))) (eqb i n) refl

count_all : (n : ℕ) → count (λ _. true) n ≡ n
unfolding count
count_all zero = refl
count_all (suc n) = let e : count (λ _. true) n ≡ n = count_all n in omega arith

-- the value of a tree depends on the values of the forward wires in it alone
pub value_same : (m : ModuleValue) (level : ℕ) (s : Held) (ins f g : ℕ → ℕ)
    → ((w : ℕ) → w < length m.wires → (wire_at m.wires w).level ≤ level → f w ≡ g w)
    → (t : Tree) → TreeFits m level t → value (env_of s ins f) t ≡ value (env_of s ins g) t
value_same m level s ins f g e (Lit width v) h = refl
value_same m level s ins f g e (Input width port) h = refl
value_same m level s ins f g e (Wire width wire) h = e wire h.there h.level
value_same m level s ins f g e (Reg width reg) h = refl
value_same m level s ins f g e (Not width a) h = ap (not_of (width_of a)) (value_same m level s ins f g e a h)
value_same m level s ins f g e (And width a b) h = λ i. bit_and (value_same m level s ins f g e a h.0 i) (value_same m level s ins f g e b h.1 i)
value_same m level s ins f g e (Or width a b) h = λ i. bit_or (value_same m level s ins f g e a h.0 i) (value_same m level s ins f g e b h.1 i)
value_same m level s ins f g e (Xor width a b) h = λ i. bit_xor (value_same m level s ins f g e a h.0 i) (value_same m level s ins f g e b h.1 i)
value_same m level s ins f g e (Add width a b) h = λ i. add_of (width_of a) (value_same m level s ins f g e a h.0 i) (value_same m level s ins f g e b h.1 i)
value_same m level s ins f g e (Sub width a b) h = λ i. sub_of (width_of a) (value_same m level s ins f g e a h.0 i) (value_same m level s ins f g e b h.1 i)
value_same m level s ins f g e (Eq width a b) h = λ i. one_if (eqb (value_same m level s ins f g e a h.0 i) (value_same m level s ins f g e b h.1 i))
value_same m level s ins f g e (Ltu width a b) h = λ i. one_if (ltb (value_same m level s ins f g e a h.0 i) (value_same m level s ins f g e b h.1 i))
value_same m level s ins f g e (Mux width c a b) h =
    λ i. choose (value_same m level s ins f g e c h.0 i) (value_same m level s ins f g e a h.1 i) (value_same m level s ins f g e b h.2 i)
value_same m level s ins f g e (Cat width a b) h = λ i. join_of (width_of b) (value_same m level s ins f g e a h.0 i) (value_same m level s ins f g e b h.1 i)
value_same m level s ins f g e (Slice width a high low) h = ap (λ v. bits_of v high low) (value_same m level s ins f g e a h)
value_same m level s ins f g e (Read width array a) h = ap (λ v. get_or (s.cells array) v 0) (value_same m level s ins f g e a h.1)

module _ (m : ModuleValue) (pool : PoolValue) (fits : DriversFit m pool) where
  -- how many forward wires have a level below a level
  below : ℕ → ℕ
  below level = count (λ v. ltb (wire_at m.wires v).level level) (length m.wires)

  below_less : (v level : ℕ) → v < length m.wires → (wire_at m.wires v).level < level → below (wire_at m.wires v).level < below level
  unfolding below
  below_less v level l h =
      let a : suc (below (wire_at m.wires v).level) ≤ below level =
      count_lt (λ u. ltb (wire_at m.wires u).level (wire_at m.wires v).level) (λ u. ltb (wire_at m.wires u).level level) (length m.wires) v l
      (grind (arith, nat_tests)) (grind (arith, nat_tests)) (λ j b e. grind (arith, nat_tests)) in
      omega arith

  below_most : (v : ℕ) → v < length m.wires → below (wire_at m.wires v).level < length m.wires
  unfolding below
  below_most v l =
      let a : suc (below (wire_at m.wires v).level) ≤ count (λ _. true) (length m.wires) =
      count_lt (λ u. ltb (wire_at m.wires u).level (wire_at m.wires v).level) (λ _. true) (length m.wires) v l
      (grind (arith, nat_tests)) refl (λ j b e. refl) in
      let b = count_all (length m.wires) in
      omega arith

  module _ (s : Held) (ins : ℕ → ℕ) where
    -- values that agree on the forward wires of smaller levels agree on what drives a wire
    driven_same_at : (f g : ℕ → ℕ) (w : ℕ) → w < length m.wires
        → ((v : ℕ) → v < length m.wires → (wire_at m.wires v).level < (wire_at m.wires w).level → f v ≡ g v)
        → (d : Option Net) → (wire_at m.wires w).driver ≡ d
        → driven_value (env_of s ins f) pool.nodes d ≡ driven_value (env_of s ins g) pool.nodes d
    driven_same_at f g w l e None is = refl
    driven_same_at f g w l e (Some net) is =
        let drives : DrivesWire m pool (wire_at m.wires w) net = fits.wires w net l is in
        value_same m net.level s ins f g (λ v h at. e v h (omega (arith, drives.below))) (tree_of pool.nodes net.id.0) drives.fits.tree

    driven_same : (f g : ℕ → ℕ) (w : ℕ) → w < length m.wires
        → ((v : ℕ) → v < length m.wires → (wire_at m.wires v).level < (wire_at m.wires w).level → f v ≡ g v)
        → driven_value (env_of s ins f) pool.nodes (wire_at m.wires w).driver ≡ driven_value (env_of s ins g) pool.nodes (wire_at m.wires w).driver
    driven_same f g w l e = driven_same_at f g w l e (wire_at m.wires w).driver refl

    -- all depths above the number of forward wires of smaller levels give one value
    enough : (d e w : ℕ) → w < length m.wires → below (wire_at m.wires w).level < d → below (wire_at m.wires w).level < e
        → wire_to m pool.nodes s ins d w ≡ wire_to m pool.nodes s ins e w
    unfolding wire_to
    enough zero e w l a b = absurd (omega arith)
    enough (suc d) zero w l a b = absurd (omega arith)
    enough (suc d) (suc e) w l a b =
        driven_same (wire_to m pool.nodes s ins d) (wire_to m pool.nodes s ins e) w l
        (λ v h less.
        let c : below (wire_at m.wires v).level < below (wire_at m.wires w).level = below_less v (wire_at m.wires w).level h less in
        enough d e v h (omega arith) (omega arith))

    solves : (w : ℕ) → w < length m.wires
        → wire_value m pool.nodes s ins w ≡ driven_value (cycle_env m pool.nodes s ins) pool.nodes (wire_at m.wires w).driver
    unfolding wire_to wire_value
    solves w l =
        let a = below_most w l in
        enough (length m.wires) (suc (length m.wires)) w l (omega arith) (omega arith)

    -- what meets the equations is the value
    once : (f g : ℕ → ℕ)
        → ((w : ℕ) → w < length m.wires → f w ≡ driven_value (env_of s ins f) pool.nodes (wire_at m.wires w).driver)
        → ((w : ℕ) → w < length m.wires → g w ≡ driven_value (env_of s ins g) pool.nodes (wire_at m.wires w).driver)
        → (d w : ℕ) → w < length m.wires → below (wire_at m.wires w).level < d → f w ≡ g w
    once f g p q zero w l a = absurd (omega arith)
    once f g p q (suc d) w l a =
        p w l
        ∙ driven_same f g w l
        (λ v h less.
        let c : below (wire_at m.wires v).level < below (wire_at m.wires w).level = below_less v (wire_at m.wires w).level h less in
        once f g p q d v h (omega arith))
        ∙ sym (q w l)

-- the value of a forward wire is its driver's
pub wire_solves : (m : ModuleValue) (pool : PoolValue) → IsPool pool.nodes → DriversFit m pool → (s : Held) (ins : ℕ → ℕ) (w : ℕ) → w < length m.wires
    → wire_value m pool.nodes s ins w ≡ driven_value (cycle_env m pool.nodes s ins) pool.nodes (wire_at m.wires w).driver
wire_solves m pool is fits s ins w l = solves m pool fits s ins w l

-- the equations of the forward wires have one solution
pub wires_are_one : (m : ModuleValue) (pool : PoolValue) → IsPool pool.nodes → DriversFit m pool → (s : Held) (ins wires : ℕ → ℕ)
    → ((w : ℕ) → w < length m.wires → wires w ≡ driven_value (env_of s ins wires) pool.nodes (wire_at m.wires w).driver)
    → (w : ℕ) → w < length m.wires → wires w ≡ wire_value m pool.nodes s ins w
wires_are_one m pool is fits s ins wires e w l =
    once m pool fits s ins wires (wire_value m pool.nodes s ins) e (solves m pool fits s ins) (suc (below m pool fits (wire_at m.wires w).level)) w l (omega arith)
