-- What holds of each thing of a spread list.
use Rattle.std.proofs.Common.{ℕ, zero, suc, ◌+◌, ◌<◌, ◌≤◌, List, Option, Some, None, arith}
use Rattle.verilog_mean.specs.Look.{put}
use Rattle.module_netlist.specs.Lines.{spread}
use Rattle.netlist_sound.proofs.Fine.{Each}

module _ {A : Type 0} (P : A → Type 0) where
  abbrev pub Put : Option A → Type 0
  Put None = Unit {0}
  Put (Some a) = P a

  each_put : (o : Option A) (rest : List A) → Put o → Each P rest → Each P (put o rest)
  each_put None rest h r = r
  each_put (Some a) rest h r = (h, r)

  each_from : (f : ℕ → Option A) (rest : List A) (n k : ℕ) → ((i : ℕ) → k ≤ i → i < k + n → Put (f i)) → Each P rest → Each P (spread f k n rest)
  each_from f rest zero k h r = r
  each_from f rest (suc n) k h r = each_put (f k) (spread f (suc k) n rest) (h k (omega arith) (omega arith)) (each_from f rest n (suc k) (λ i a b. h i (omega arith) (omega arith)) r)

  pub each : (f : ℕ → Option A) (rest : List A) (n : ℕ) → ((i : ℕ) → i < n → Put (f i)) → Each P rest → Each P (spread f 0 n rest)
  each f rest n h r = each_from f rest n 0 (λ i a b. h i (omega arith)) r
