-- Words by their bytes.
use Rattle.std.proofs.Common.{arith, ◌≡◌, ℕ, Bool, true, false, List, [], ◌∷◌, refl, sym, ap, ◌∙◌, eqb, IsTrue, ◌↔◌}
use Rattle.verilog_tree.specs.Words.{same_bytes}
use Rattle.verilog_tree.proofs.ModuleIsRead.{same_bytes-is}
use Rattle.std.proofs.lemmas.Bool.Decides.{nat_tests}

same_bytes-self : (w : List ℕ) → same_bytes w w ≡ true
same_bytes-self [] = refl
same_bytes-self (b ∷ bs) = let e : eqb b b ≡ true = grind (arith, nat_tests) in rw (e, same_bytes-self bs) refl

-- a test of equality is the test of the bytes
pub same_test : (t : Bool) (v w : List ℕ) → (IsTrue t ↔ (v ≡ w)) → t ≡ same_bytes v w
same_test true v w h = sym (ap (same_bytes v) (sym (h.0 refl)) ∙ same_bytes-self v)
same_test false v w h = by_test (same_bytes v w) refl
  where
    by_test : (b : Bool) → same_bytes v w ≡ b → false ≡ b
    by_test true e = let both = h.1 (same_bytes-is v w e) in absurd cc
    by_test false e = refl
