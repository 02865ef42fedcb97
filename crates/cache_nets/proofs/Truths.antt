-- Gates over bits.
use Rattle.std.proofs.Common.{◌≡◌, ◌∙◌, ℕ, zero, suc, ◌+◌, ◌<◌, Bool, true, false, cond, not, eqb, ◌&&◌, ◌||◌, bit_and, bit_or, refl, sym, ap, arith}
use Rattle.core_words.specs.Values.{choose, not_of, one_if}

-- a number that is 1 where a test holds, and otherwise 0
pub record Bit (n : ℕ) (b : Bool) : Type 0 where
  pub is : n ≡ one_if b

pub bit_is : (n : ℕ) → n < 2 → Bit n (eqb n 1)
bit_is zero h = record { is = refl }
bit_is (suc zero) h = record { is = refl }
bit_is (suc (suc n)) h = absurd (omega arith)

-- the same test by another name, the same number by another name
pub told : {n : ℕ} {a b : Bool} → Bit n a → b ≡ a → Bit n b
told {n} {a} {b} h p = record { is = h.is ∙ ap one_if (sym p) }

pub after : {m n : ℕ} {b : Bool} → m ≡ n → Bit n b → Bit m b
after {m} {n} {b} p h = record { is = p ∙ h.is }

-- a comparison
pub same : (a b c : ℕ) → b ≡ c → Bit (one_if (eqb a b)) (eqb a c)
same a b c p = record { is = ap (λ z. one_if (eqb a z)) p }

back : (b : Bool) → eqb (one_if b) 1 ≡ b
back true = refl
back false = refl

and_is : (a b : Bool) → bit_and (one_if a) (one_if b) ≡ one_if (a && b)
and_is true true = refl
and_is true false = refl
and_is false true = refl
and_is false false = refl

or_is : (a b : Bool) → bit_or (one_if a) (one_if b) ≡ one_if (a || b)
or_is true true = refl
or_is true false = refl
or_is false true = refl
or_is false false = refl

not_is : (a : Bool) → not_of 1 (one_if a) ≡ one_if (not a)
not_is true = refl
not_is false = refl

choice : (b : Bool) (x y : ℕ) → choose (one_if b) x y ≡ cond b x y
choice true x y = refl
choice false x y = refl

bit_choice : (b p q : Bool) → choose (one_if b) (one_if p) (one_if q) ≡ one_if (cond b p q)
bit_choice true p q = refl
bit_choice false p q = refl

test_by : (b : Bool) (x y : ℕ) → eqb (cond b x y) 1 ≡ cond b (eqb x 1) (eqb y 1)
test_by true x y = refl
test_by false x y = refl

pub and_at : {x y : ℕ} {a b : Bool} → Bit x a → Bit y b → Bit (bit_and x y) (a && b)
and_at {x} {y} {a} {b} p q = record { is = (λ j. bit_and (p.is j) (q.is j)) ∙ and_is a b }

pub or_at : {x y : ℕ} {a b : Bool} → Bit x a → Bit y b → Bit (bit_or x y) (a || b)
or_at {x} {y} {a} {b} p q = record { is = (λ j. bit_or (p.is j) (q.is j)) ∙ or_is a b }

pub not_at : {x : ℕ} {a : Bool} → Bit x a → Bit (not_of 1 x) (not a)
not_at {x} {a} p = record { is = (λ j. not_of 1 (p.is j)) ∙ not_is a }

pub choose_at : {c : ℕ} {b : Bool} (x y : ℕ) → Bit c b → choose c x y ≡ cond b x y
choose_at {c} {b} x y p = (λ j. choose (p.is j) x y) ∙ choice b x y

-- a bit that is chosen
pub choose_bit : {c x y : ℕ} {b p q : Bool} → Bit c b → Bit x p → Bit y q → Bit (choose c x y) (cond b p q)
choose_bit {c} {x} {y} {b} {p} {q} cb xp yq = record { is = (λ j. choose (cb.is j) (xp.is j) (yq.is j)) ∙ bit_choice b p q }

pub test : {x : ℕ} {b : Bool} → Bit x b → eqb x 1 ≡ b
test {x} {b} p = ap (λ n. eqb n 1) p.is ∙ back b

-- a test of what is chosen
pub test_choice : {c : ℕ} {b : Bool} (x y : ℕ) → Bit c b → eqb (choose c x y) 1 ≡ cond b (eqb x 1) (eqb y 1)
test_choice {c} {b} x y p = ap (λ n. eqb n 1) (choose_at x y p) ∙ test_by b x y
