-- A step says what `Adds` says.
use Rattle.std.proofs.Common.{◌≡◌, ◌∙◌, ℕ, zero, suc, ◌+◌, ◌<◌, ◌≤◌, Bool, true, ltb, length, refl, arith, ap, sym}
use Rattle.hw_pool.specs.Nodes.{PoolValue, node_at}
use Rattle.hw_pool.specs.Trees.{tree_of}
use Rattle.hw_pool.specs.Meaning.{Env}
use Rattle.hw_pool.specs.Scope.{Scope}
use Rattle.hw_pool.specs.Frame.{Adds}
use Rattle.hw_expr.specs.declared.net.Net.{Net}
use Rattle.hw_gates.specs.Places.{Place, place, life, alive, shape, worth, takes, value_in, Has, Is, IsIn, Step}
use Rattle.hw_gates.proofs.Decides.{less-of, of-less}

pub step_of : (old new : PoolValue) (n : ℕ) → Adds old new n → Step old new n
unfolding place life alive
step_of old new n adds = record {
  most = adds.most;
  spare = adds.spare;
  places = λ m alive-is.
      let live = ap (λ (f : ℕ → Bool). f 0) alive-is in
      let h : m.id.0 < length old.nodes = less-of m.id.0 (length old.nodes) live in
      let still : ltb m.id.0 (length new.nodes) ≡ true = of-less m.id.0 (length new.nodes) (omega (arith, h, adds.longer)) in
      let same : ltb m.id.0 (length new.nodes) ≡ ltb m.id.0 (length old.nodes) = still ∙ sym live in
      sym (λ i. record { live = same i; node = adds.nodes m.id.0 h i; tree = adds.trees m.id.0 h i });
}

-- a net of a number
abbrev net_of_number : ℕ → Net
net_of_number k = record { id = record { 0 = k }; width = 0; level = 0 }

-- what a step says of a live number
stays-at : (old new : PoolValue) (n : ℕ) → Step old new n → (k : ℕ) → k < length old.nodes
    → (k < length new.nodes) × (node_at new.nodes k ≡ node_at old.nodes k) × (tree_of new.nodes k ≡ tree_of old.nodes k)
unfolding place life alive
stays-at old new n step k h =
    let live : ltb k (length old.nodes) ≡ true = of-less k (length old.nodes) h in
    let same = sym (step.places (net_of_number k) (λ i _. live i)) in
    (less-of k (length new.nodes) (ap (λ (x : Place). x.live) same ∙ live), ap (λ (x : Place). x.node) same, ap (λ (x : Place). x.tree) same)

longer : (m n : ℕ) → ((k : ℕ) → k < m → k < n) → m ≤ n
longer zero n h = omega arith
longer (suc m) n h = let l = h m (omega arith) in omega (arith, l)

pub adds_of : (old new : PoolValue) (n : ℕ) → Step old new n → Adds old new n
adds_of old new n step = record {
  longer = longer (length old.nodes) (length new.nodes) (λ k h. (stays-at old new n step k h).0);
  most = step.most;
  spare = step.spare;
  nodes = λ k h. (stays-at old new n step k h).1;
  trees = λ k h. (stays-at old new n step k h).2;
}

-- what is live stays so
live_in : (old new : PoolValue) (n : ℕ) (net : Net) → Step old new n → life (place old net) ≡ alive → life (place new net) ≡ alive
live_in old new n net step live = ap life (sym (step.places net live)) ∙ live

-- steps one behind the other
infixr 5 ◌▸◌
pub ◌▸◌ : {a b c : PoolValue} {m n : ℕ} → Step a b m → Step b c n → Step a c (m + n)
◌▸◌ {a} {b} {c} {m} {n} first second = record {
  most = omega (arith, first.most, second.most);
  spare = omega (arith, first.spare, second.spare);
  places = λ k h. first.places k h ∙ second.places k (live_in a b m k first h);
}

-- a net stays through a step
pub has_in : (old new : PoolValue) (n : ℕ) (net : Net) → Step old new n → Has old net → Has new net
has_in old new n net step has = (live_in old new n net step has.0, ap shape (sym (step.places net has.0)) ∙ has.1)

pub stays : (old new : PoolValue) (n : ℕ) (net : Net) (width level : ℕ) → Step old new n → Is old net width level → Is new net width level
stays old new n net width level step is = (has_in old new n net step is.0, is.1, is.2)

-- and keeps its value
pub kept : (env : Env) (old new : PoolValue) (n : ℕ) (net : Net) → Step old new n → Has old net → value_in env new net ≡ value_in env old net
kept env old new n net step has = sym (ap (worth env) (step.places net has.0))

-- no step
pub none : (pool : PoolValue) → Step pool pool 0
none pool = record { most = omega arith; spare = omega arith; places = λ m h. refl }

-- a greater bound of what is added
pub step_as : (old new : PoolValue) (m n : ℕ) → m ≤ n → Step old new m → Step old new n
step_as old new m n e s = record { most = omega (arith, s.most); spare = omega (arith, s.spare); places = s.places }

-- a net in a scope stays in it
pub stays_in : (s : Scope) (old new : PoolValue) (n : ℕ) (net : Net) → Step old new n → Has old net → IsIn s old net → IsIn s new net
stays_in s old new n net step has h = ap (takes s) (sym (step.places net has.0)) ∙ h
