-- Inputs below the limits of a list are within the widths of their ports.
use Rattle.std.proofs.Common.{◌≡◌, ℕ, zero, suc, ◌^◌, ◌<◌, Bool, true, false, cond, eqb, List, [], ◌∷◌, get_or, refl, sym, subst, arith}
use Rattle.std.proofs.lemmas.Bool.Decides.{nat_tests}
use Rattle.core_ports.specs.Ports.{is_input, width_of}
use Rattle.hw_module.specs.Ports.{port_at}
use Rattle.hw_cycle.specs.Inputs.{inputs_before, ins_of, AreWithin}
use Rattle.hw_cycle.proofs.Tables.{input_few}

-- a test holds of each number below n
all_below : (n : ℕ) → (ℕ → Bool) → Bool
all_below zero f = true
all_below (suc n) f = cond (f n) (all_below n f) false

front : (n : ℕ) (f : ℕ → Bool) (b : Bool) → cond b (all_below n f) false ≡ true → all_below n f ≡ true
front n f true t = t
front n f false t = cc

head : (b c : Bool) → cond b c false ≡ true → b ≡ true
head true c t = refl
head false c t = cc

at_last : (n : ℕ) (f : ℕ → Bool) (k : ℕ) → k < suc n → f n ≡ true → (k < n → f k ≡ true) → (c : Bool) → eqb k n ≡ c → f k ≡ true
at_last n f k h last lower true q = let p : k ≡ n = grind (arith, nat_tests) in subst (λ (j : ℕ). f j ≡ true) (sym p) last
at_last n f k h last lower false q = lower (grind (arith, nat_tests))

below_at : (n : ℕ) (f : ℕ → Bool) (k : ℕ) → k < n → all_below n f ≡ true → f k ≡ true
unfolding all_below
below_at zero f k h t = absurd (omega arith)
below_at (suc n) f k h t = at_last n f k h (head (f n) (all_below n f) t) (λ less. below_at n f k less (front n f (f n) t)) (eqb k n) refl

is_equal : (a b : ℕ) → eqb a b ≡ true → a ≡ b
is_equal a b t = grind (arith, nat_tests)

abbrev pub limits : List ℕ
limits = 2 ∷ 2 ∷ 2 ∷ 2 ∷ 2 ∷ 4294967296 ∷ 2 ∷ 2 ∷ 2 ∷ 4294967296 ∷ 2 ∷ 2 ∷ 2 ∷ []

limits_right : all_below 30 (λ p. cond (is_input (port_at p)) (eqb (get_or limits (inputs_before p) 0) (2 ^ width_of (port_at p))) true) ≡ true
unfolding all_below inputs_before port_at
limits_right = refl

limit_is : (p : ℕ) → p < 30 → is_input (port_at p) ≡ true → get_or limits (inputs_before p) 0 ≡ 2 ^ width_of (port_at p)
limit_is p h i =
    is_equal (get_or limits (inputs_before p) 0) (2 ^ width_of (port_at p))
    (subst (λ (b : Bool). cond b (eqb (get_or limits (inputs_before p) 0) (2 ^ width_of (port_at p))) true ≡ true) i
    (below_at 30 (λ p. cond (is_input (port_at p)) (eqb (get_or limits (inputs_before p) 0) (2 ^ width_of (port_at p))) true) p h limits_right))

pub within_of : (ins : List ℕ) → ((k : ℕ) → k < 13 → get_or ins k 0 < get_or limits k 0) → AreWithin ins
within_of ins h p lt i = subst (λ (n : ℕ). ins_of ins p < n) (limit_is p lt i) (h (inputs_before p) (input_few p lt i))
