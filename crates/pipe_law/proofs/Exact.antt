-- The bound holds of the cycles that are no waits by any test that finds all waits, so of the true number.
use Rattle.std.proofs.Common.{◌≡◌, ℕ, zero, suc, ◌+◌, ◌*◌, ◌<◌, ◌≤◌, Bool, true, false, cond, not, refl, ap, arith}
use Rattle.std.proofs.Math.Nat.{le_refl}
use Rattle.core_ports.specs.Trace.{Trace, instruction_bus, data_bus, lines_at}
use Rattle.bus_law.specs.Honest.{Within}
use Rattle.isa_model.specs.Machine.{Machine}
use Rattle.isa_model.specs.Run.{History}
use Rattle.plug_law.specs.Table.{Table}
use Rattle.pipe_law.proofs.Basics.{both}
use Rattle.pipe_law.specs.Brisk.{Brisk, IsStill, IsWait, count}

-- what is named more often counts more
count_more : (f g : ℕ → Bool) (len u : ℕ) → ((k : ℕ) → u ≤ k → k < u + len → f k ≡ true → g k ≡ true) → count f u len ≤ count g u len
unfolding count
count_more f g zero u h = omega arith
count_more f g (suc len) u h = by (f u) refl (g u) refl (count_more f g len (suc u) (λ k a b. h k (omega arith) (omega arith)))
  where
    by : (a : Bool) → f u ≡ a → (b : Bool) → g u ≡ b → count f (suc u) len ≤ count g (suc u) len → count f u (suc len) ≤ count g u (suc len)
    by true x true y l = let a : ◌≡◌ {A = ℕ} (cond (f u) 1 0) 1 = ap (λ z. cond z 1 0) x in let b : ◌≡◌ {A = ℕ} (cond (g u) 1 0) 1 = ap (λ z. cond z 1 0) y in omega arith
    by true x false y l = both (g u) (h u (le_refl u) (omega arith) x) y
    by false x b y l = let a : ◌≡◌ {A = ℕ} (cond (f u) 1 0) 0 = ap (λ z. cond z 1 0) x in omega arith

-- a test that finds all waits leaves no more cycles than the claim allows
pub few_others : (t : Table) (fetch exec : ℕ → ℕ) (start : Machine) (run' : Trace) (n : ℕ) (past : ℕ → History) → Brisk t fetch exec start run' n past
    → (other : ℕ → Bool) → ((k : ℕ) → 1 ≤ k → k < n → IsWait t start (past k) (lines_at run' k) → other k ≡ true)
    → (w : ℕ) → 1 ≤ w → Within (instruction_bus run') (data_bus run') w n → (u len : ℕ) → 1 ≤ u → u + len ≤ n → IsStill start run' past u len
    → count (λ k. not (other k)) u len < 2 * fetch w + 3 * exec w + 20
few_others t fetch exec start run' n past b other all w w_some within u len u_some inside still =
    let most = b.bound w w_some within u len u_some inside still in
    let less = count_more (λ k. not (other k)) (λ k. not (b.waits k)) len u (λ k a l e. by k (omega arith) (omega arith) e (b.waits k) refl) in
    omega arith
  where
    by : (k : ℕ) → 1 ≤ k → k < n → not (other k) ≡ true → (v : Bool) → b.waits k ≡ v → not (b.waits k) ≡ true
    by k a l e true z = both (not (other k)) e (ap not (all k a l (b.are k a l z)))
    by k a l e false z = ap not z
