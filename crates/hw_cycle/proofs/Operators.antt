-- The value of a node, and what its operands have.
use Rattle.std.proofs.Common.{◌≡◌, ◌∙◌, ℕ, ◌+◌, ◌*◌, ◌^◌, ◌<◌, ◌≤◌, length, get_or, refl, ap, sym, subst, arith, pow-add, bit_and, bit_or, bit_xor, eqb, ltb}
use Rattle.std.proofs.Math.Pow.{pow_mono}
use Rattle.core_words.specs.Values.{one_if, add_of, sub_of, not_of, bits_of, choose, join_of}
use Rattle.hw_pool.specs.declared.node.Op.{Op}
use Rattle.hw_pool.specs.declared.node.Op.TheVariants.{Lit, Input, Wire, Reg, Not, And, Or, Xor, Add, Sub, Eq, Ltu, Mux, Cat, Slice, Read}
use Rattle.hw_pool.specs.Nodes.{EachChild, IsWidth}
use Rattle.hw_pool.specs.Trees.{Tree, of_op, width_of}
use Rattle.hw_pool.specs.Meaning.{value, Fits}
use Rattle.hw_module.specs.Rows.{ModuleValue, array_at}
use Rattle.hw_module.specs.Fits.{TreeFits}
use Rattle.hw_module.specs.Cycle.{Held, env_of}
use Rattle.hw_cycle.specs.State.{cells_at}
use Rattle.hw_cycle.specs.Evaluate.{op_value, Counts, CanEvaluate}
use Rattle.hw_cycle.specs.Levels.{OfWire}

-- an operator over children whose widths and values are those of trees has the value of its own tree
module _ (s : Held) (ins here there : ℕ → ℕ) (width val : ℕ → ℕ) (t : ℕ → Tree) (w : ℕ) where
  -- the width and the value of a child
  abbrev IsRight : ℕ → Type 0
  IsRight c = (width c ≡ width_of (t c)) × (val c ≡ value (env_of s ins there) (t c))

  pub op_means : (o : Op) → EachChild IsRight o → OfWire (λ x. here x ≡ there x) o
      → op_value (env_of s ins here) width val o ≡ value (env_of s ins there) (of_op t w o)
  op_means (Lit v) h own = refl
  op_means (Input port) h own = refl
  op_means (Wire wire) h own = own
  op_means (Reg reg) h own = refl
  op_means (Not a) h own = λ i. not_of (h.0 i) (h.1 i)
  op_means (And a b) h own = λ i. bit_and (h.0.1 i) (h.1.1 i)
  op_means (Or a b) h own = λ i. bit_or (h.0.1 i) (h.1.1 i)
  op_means (Xor a b) h own = λ i. bit_xor (h.0.1 i) (h.1.1 i)
  op_means (Add a b) h own = λ i. add_of (h.0.0 i) (h.0.1 i) (h.1.1 i)
  op_means (Sub a b) h own = λ i. sub_of (h.0.0 i) (h.0.1 i) (h.1.1 i)
  op_means (Eq a b) h own = λ i. one_if (eqb (h.0.1 i) (h.1.1 i))
  op_means (Ltu a b) h own = λ i. one_if (ltb (h.0.1 i) (h.1.1 i))
  op_means (Mux c a b) h own = λ i. choose (h.0.1 i) (h.1.1 i) (h.2.1 i)
  op_means (Cat a b) h own = λ i. join_of (h.1.0 i) (h.0.1 i) (h.1.1 i)
  op_means (Slice a high low) h own = λ i. bits_of (h.1 i) high low
  op_means (Read array a) h own = ap (λ v. get_or (s.cells array) v 0) h.1

product : (a b m n : ℕ) → a < m → b < n → a * n + b < m * n
product a b m n h k = grind arith

join_fits : (a b u v w : ℕ) → u + v ≡ w → w ≤ 64 → a < 2 ^ u → b < 2 ^ v → join_of v a b < 2 ^ 64
join_fits a b u v w e l h k =
    let all : a * 2 ^ v + b < 2 ^ (u + v) = subst (λ n. a * 2 ^ v + b < n) (sym (pow-add 2 u v)) (product a b (2 ^ u) (2 ^ v) h k) in
    let sum : u + v ≤ 64 = omega arith in
    let most : 2 ^ (u + v) ≤ 2 ^ 64 = pow_mono sum in
    omega (arith, all, most)

-- what is known of a child: it is live, its width is that of its tree, and its value is within it
pub record IsOperand (nodes : ℕ) (width val : ℕ → ℕ) (t : ℕ → Tree) (c : ℕ) : Type 0 where
  pub live : c < nodes
  pub wide : IsWidth (width c)
  pub same : width c ≡ width_of (t c)
  pub bound : val c < 2 ^ width c

module _ (m : ModuleValue) (n : Counts) (width val : ℕ → ℕ) (t : ℕ → Tree) (level w : ℕ)
    (wires : n.wires ≡ length m.wires) (regs : n.regs ≡ length m.regs) (arrays : length n.cells ≡ length m.arrays)
    (counts : (a : ℕ) → a < length m.arrays → length (cells_at n.cells a) ≡ 2 ^ (array_at m.arrays a).bits) where
  pub can_evaluate : (o : Op) → EachChild (IsOperand n.nodes width val t) o → Fits (of_op t w o) → TreeFits m level (of_op t w o) → CanEvaluate n width val o
  can_evaluate (Lit v) h f tree = tt
  can_evaluate (Input port) h f tree = (tree.readable.most, tree.readable.input)
  can_evaluate (Wire wire) h f tree = let there : wire < length m.wires = tree.there in omega arith
  can_evaluate (Reg reg) h f tree = let there : reg < length m.regs = tree.there in omega arith
  can_evaluate (Not a) h f tree = (h.live, h.wide)
  can_evaluate (And a b) h f tree = (h.0.live, h.1.live)
  can_evaluate (Or a b) h f tree = (h.0.live, h.1.live)
  can_evaluate (Xor a b) h f tree = (h.0.live, h.1.live)
  can_evaluate (Add a b) h f tree = (h.0.live, h.1.live, h.0.wide)
  can_evaluate (Sub a b) h f tree =
      (h.0.live, h.1.live, h.0.wide, subst (λ u. val b.0 < 2 ^ u) (h.1.same ∙ f.2 ∙ sym f.1 ∙ sym h.0.same) h.1.bound)
  can_evaluate (Eq a b) h f tree = (h.0.live, h.1.live)
  can_evaluate (Ltu a b) h f tree = (h.0.live, h.1.live)
  can_evaluate (Mux c a b) h f tree = (h.0.live, h.1.live, h.2.live)
  can_evaluate (Cat a b) h f tree =
      let sum : width a.0 + width b.0 ≡ w = (λ i. h.0.same i + h.1.same i) ∙ f.1 in
      let most : w ≤ 64 = f.0.1 in
      let least : 1 ≤ width a.0 = h.0.wide.0 in
      (h.0.live, h.1.live, omega arith, join_fits (val a.0) (val b.0) (width a.0) (width b.0) w sum most h.0.bound h.1.bound)
  can_evaluate (Slice a high low) h f tree =
      let ordered : low ≤ high = f.0 in
      let inside : high < width_of (t a.0) = f.1 in
      let most : width a.0 ≤ 64 = h.wide.1 in
      let same : width a.0 ≡ width_of (t a.0) = h.same in
      (h.live, ordered, omega arith)
  can_evaluate (Read array a) h f tree =
      let there : array < length m.arrays = tree.0.there in (
        h.live,
        omega arith,
        subst (λ u. val a.0 < u) (sym (counts array there)) (subst (λ u. val a.0 < 2 ^ u) (h.same ∙ sym tree.0.bits) h.bound),
      )
