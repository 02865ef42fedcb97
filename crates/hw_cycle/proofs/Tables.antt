-- The table of the input ports' places.
use Rattle.std.proofs.Common.{◌≡◌, ◌∙◌, ℕ, zero, suc, ◌+◌, ◌<◌, ◌≤◌, Bool, true, false, cond, eqb, ltb, not, List, [], ◌∷◌, length, get_or, set, refl, ap, sym, subst, arith, add-one, inl, inr, get_or-set_same, get_or-set_other}
use Rattle.std.proofs.lemmas.Bool.{cases_eq}
use Rattle.std.proofs.lemmas.Bool.Decides.{nat_tests}
use Rattle.core_ports.specs.Ports.{is_input}
use Rattle.hw_module.specs.Ports.{port_at}
use Rattle.hw_cycle.specs.Inputs.{inputs_before, outputs_before}

-- a test holds of each number below n
all_below : (n : ℕ) → (ℕ → Bool) → Bool
all_below zero f = true
all_below (suc n) f = cond (f n) (all_below n f) false

front : (n : ℕ) (f : ℕ → Bool) (b : Bool) → cond b (all_below n f) false ≡ true → all_below n f ≡ true
front n f true t = t
front n f false t = cc

head : (b c : Bool) → cond b c false ≡ true → b ≡ true
head true c t = refl
head false c t = cc

at_last : (n : ℕ) (f : ℕ → Bool) (k : ℕ) → k < suc n → f n ≡ true → (k < n → f k ≡ true) → (c : Bool) → eqb k n ≡ c → f k ≡ true
at_last n f k h last lower true q = let p : k ≡ n = grind (arith, nat_tests) in subst (λ (j : ℕ). f j ≡ true) (sym p) last
at_last n f k h last lower false q = lower (grind (arith, nat_tests))

below_at : (n : ℕ) (f : ℕ → Bool) (k : ℕ) → k < n → all_below n f ≡ true → f k ≡ true
unfolding all_below
below_at zero f k h t = absurd (omega arith)
below_at (suc n) f k h t = at_last n f k h (head (f n) (all_below n f) t) (λ less. below_at n f k less (front n f (f n) t)) (eqb k n) refl

places : List ℕ
places =
    0 ∷ 1 ∷ 2 ∷ 2 ∷ 3 ∷ 3 ∷ 4 ∷ 5 ∷ 6 ∷ 6 ∷ 7 ∷ 7 ∷ 7 ∷ 7 ∷ 7 ∷ 8 ∷ 9 ∷ 10 ∷ 11 ∷ 12 ∷ 13 ∷ 13 ∷ 13 ∷ 13 ∷ 13 ∷ 13 ∷ 13 ∷ 13 ∷ 13 ∷ 13 ∷ []

places_right : all_below 30 (λ p. eqb (get_or places p 0) (inputs_before p)) ≡ true
unfolding all_below places inputs_before port_at
places_right = refl

inputs_few : all_below 30 (λ p. cond (is_input (port_at p)) (ltb (inputs_before p) 13) true) ≡ true
unfolding all_below inputs_before port_at
inputs_few = refl

outputs_few : all_below 30 (λ p. cond (is_input (port_at p)) true (ltb (outputs_before p) 17)) ≡ true
unfolding all_below outputs_before port_at
outputs_few = refl

is_equal : (a b : ℕ) → eqb a b ≡ true → a ≡ b
is_equal a b t = grind (arith, nat_tests)

is_below : (a b : ℕ) → ltb a b ≡ true → a < b
is_below a b t = grind (arith, nat_tests)

pub place_is : (p : ℕ) → p < 30
    → get_or (0 ∷ 1 ∷ 2 ∷ 2 ∷ 3 ∷ 3 ∷ 4 ∷ 5 ∷ 6 ∷ 6 ∷ 7 ∷ 7 ∷ 7 ∷ 7 ∷ 7 ∷ 8 ∷ 9 ∷ 10 ∷ 11 ∷ 12 ∷ 13 ∷ 13 ∷ 13 ∷ 13 ∷ 13 ∷ 13 ∷ 13 ∷ 13 ∷ 13 ∷ 13 ∷ []) p 0 ≡ inputs_before p
unfolding places
place_is p h = is_equal (get_or places p 0) (inputs_before p) (below_at 30 (λ p. eqb (get_or places p 0) (inputs_before p)) p h places_right)

pub input_few : (p : ℕ) → p < 30 → is_input (port_at p) ≡ true → inputs_before p < 13
input_few p h i =
    is_below (inputs_before p) 13
    (subst (λ (b : Bool). cond b (ltb (inputs_before p) 13) true ≡ true) i
    (below_at 30 (λ p. cond (is_input (port_at p)) (ltb (inputs_before p) 13) true) p h inputs_few))

pub output_few : (p : ℕ) → p < 30 → is_input (port_at p) ≡ false → outputs_before p < 17
output_few p h i =
    is_below (outputs_before p) 17
    (subst (λ (b : Bool). cond b true (ltb (outputs_before p) 17) ≡ true) i
    (below_at 30 (λ p. cond (is_input (port_at p)) true (ltb (outputs_before p) 17)) p h outputs_few))

is_output : (b r : Bool) → r ≡ not b → r ≡ true → b ≡ false
is_output true r e t = cc
is_output false r e t = refl

is_no_output : (b r : Bool) → r ≡ not b → r ≡ false → b ≡ true
is_no_output true r e t = refl
is_no_output false r e t = cc

pub output_is : (p : ℕ) (r : Bool) → r ≡ not (is_input (port_at p)) → r ≡ true → is_input (port_at p) ≡ false
output_is p r e t = is_output (is_input (port_at p)) r e t

pub input_is : (p : ℕ) (r : Bool) → r ≡ not (is_input (port_at p)) → r ≡ false → is_input (port_at p) ≡ true
input_is p r e t = is_no_output (is_input (port_at p)) r e t

pub before_output : (p : ℕ) → is_input (port_at p) ≡ false → outputs_before (p + 1) ≡ outputs_before p + 1
unfolding outputs_before
before_output p h = rw (add-one p) (ap (λ b. cond b (outputs_before p) (outputs_before p + 1)) h)

pub before_input : (p : ℕ) → is_input (port_at p) ≡ true → outputs_before (p + 1) ≡ outputs_before p
unfolding outputs_before
before_input p h = rw (add-one p) (ap (λ b. cond b (outputs_before p) (outputs_before p + 1)) h)

-- a port has no fewer output ports before it than the port before it
before_more : (b : Bool) (n : ℕ) → n ≤ cond b n (n + 1)
before_more true n = omega arith
before_more false n = omega arith

before_last : (p q : ℕ) → p ≡ q → is_input (port_at p) ≡ false → outputs_before p < cond (is_input (port_at q)) (outputs_before q) (outputs_before q + 1)
before_last p q e h =
    subst (λ (j : ℕ). outputs_before p < cond (is_input (port_at j)) (outputs_before j) (outputs_before j + 1)) e
    (subst (λ (b : Bool). outputs_before p < cond b (outputs_before p) (outputs_before p + 1)) (sym h) (omega arith))

before_step : (p q : ℕ) → p < suc q → is_input (port_at p) ≡ false → (p < q → outputs_before p < outputs_before q) → (c : Bool) → eqb p q ≡ c
    → outputs_before p < cond (is_input (port_at q)) (outputs_before q) (outputs_before q + 1)
before_step p q h o lower true t = before_last p q (grind (arith, nat_tests)) o
before_step p q h o lower false t =
    let less : p < q = grind (arith, nat_tests) in
    let below : outputs_before p < outputs_before q = lower less in
    let more : outputs_before q ≤ cond (is_input (port_at q)) (outputs_before q) (outputs_before q + 1) = before_more (is_input (port_at q)) (outputs_before q) in
    omega arith

pub before_less : (p q : ℕ) → p < q → is_input (port_at p) ≡ false → outputs_before p < outputs_before q
unfolding outputs_before
before_less p zero h o = absurd (omega arith)
before_less p (suc q) h o = before_step p q h o (λ less. before_less p q less o) (eqb p q) refl

-- the outputs before a port are in their places
abbrev pub ArePut : (value : ℕ → ℕ) → (port : ℕ) → List ℕ → Type 0
ArePut value port outs = (p : ℕ) → p < port → is_input (port_at p) ≡ false → get_or outs (outputs_before p) 0 ≡ value p

pub outs_set : (value : ℕ → ℕ) (port place v : ℕ) (outs new : List ℕ) → place ≡ outputs_before port → place < length outs → v ≡ value port → new ≡ set outs place v
    → ArePut value port outs → ArePut value (port + 1) new
outs_set value port place v outs new is_place short is_v is_new before p h o = elim (cases_eq p port) [
  | inl same ↦
      ap (λ (l : List ℕ). get_or l (outputs_before p) 0) is_new ∙ ap (λ (i : ℕ). get_or (set outs place v) i 0) (ap outputs_before same ∙ sym is_place)
      ∙ get_or-set_same outs place v 0 short ∙ is_v ∙ ap value (sym same)
  | inr other ↦
      let less : p < port = omega arith in
      let apart : outputs_before p < outputs_before port = before_less p port less o in
      ap (λ (l : List ℕ). get_or l (outputs_before p) 0) is_new ∙ get_or-set_other outs place (outputs_before p) v 0 (λ e. omega arith) ∙ before p less o
]

pub outs_skip : (value : ℕ → ℕ) (port : ℕ) (outs new : List ℕ) → is_input (port_at port) ≡ true → new ≡ outs → ArePut value port outs → ArePut value (port + 1) new
outs_skip value port outs new input is_new before p h o = elim (cases_eq p port) [
  | inl same ↦ let i : is_input (port_at p) ≡ true = ap (λ (j : ℕ). is_input (port_at j)) same ∙ input in cc
  | inr other ↦ let less : p < port = omega arith in ap (λ (l : List ℕ). get_or l (outputs_before p) 0) is_new ∙ before p less o
]

-- the place of `reset` among the inputs
pub reset_place : inputs_before 1 ≡ 1
unfolding inputs_before port_at
reset_place = refl
