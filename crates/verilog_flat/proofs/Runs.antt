-- One sweep in place gives each node its value, whatever was there before.
use Rattle.std.proofs.Common.{◌≡◌, ℕ, suc, ◌+◌, ◌-◌, ◌*◌, ◌/◌, ◌%◌, ◌^◌, ◌<◌, cond, ltb, eqb, List, [], ◌∷◌, ◌++◌, length, get_or, set, take, refl, ap, sym, ◌∙◌, arith, bit_and, bit_or, bit_xor, length-set}
use Rattle.std.proofs.lemmas.List.{take_all, get_or-take}
use Rattle.std.proofs.Math.Seq.{take-suc-set}
use Rattle.verilog_flat.specs.declared.node.Node.{Node}
use Rattle.verilog_flat.specs.declared.node.Node.TheVariants.{Literal, Input, Reg, Slice, Cell, Not, Join, Or, Xor, And, Equal, Less, Plus, Minus, Choice}
use Rattle.verilog_flat.specs.Flat.{node_value, grow, values, IsFit, IsWell}

-- each node's value goes into its place
abbrev pub run_from : (regs cells ins : List ℕ) → (at : ℕ) → List Node → (vals : List ℕ) → List ℕ
run_from regs cells ins at [] vals = vals
run_from regs cells ins at (n ∷ ns) vals = run_from regs cells ins (suc at) ns (set vals at (node_value regs cells ins vals n))

module _ (regs cells ins : List ℕ) where
  -- a node reads only what is before it
  module _ (xs ys : List ℕ) (at : ℕ) (k : (j : ℕ) → j < at → get_or xs j 0 ≡ get_or ys j 0) where
    both : (f : ℕ → ℕ → ℕ) (a b : ℕ) → a < at → b < at → f (get_or xs a 0) (get_or xs b 0) ≡ f (get_or ys a 0) (get_or ys b 0)
    both f a b h l = ap (λ v. f v (get_or xs b 0)) (k a h) ∙ ap (f (get_or ys a 0)) (k b l)

    pub same_below : (r c i : ℕ) (n : Node) → IsFit r c i at n → node_value regs cells ins xs n ≡ node_value regs cells ins ys n
    same_below r c i (Literal value) h = refl
    same_below r c i (Input port) h = refl
    same_below r c i (Reg reg) h = refl
    same_below r c i (Slice of low mask) h = ap (λ v. bit_and (v / 2 ^ low) mask) (k of h.0)
    same_below r c i (Cell index base size) h = ap (λ v. cond (ltb v size) (get_or cells (base + v) 0) 0) (k index h.0)
    same_below r c i (Not of mask) h = ap (λ v. mask - v) (k of h)
    same_below r c i (Join high low shift) h = both (λ a b. (a * 2 ^ shift % 2 ^ 64 + b) % 2 ^ 64) high low h.0 h.1
    same_below r c i (Or a b) h = both bit_or a b h.0 h.1
    same_below r c i (Xor a b) h = both bit_xor a b h.0 h.1
    same_below r c i (And a b) h = both bit_and a b h.0 h.1
    same_below r c i (Equal a b) h = both (λ a b. cond (eqb a b) 1 0) a b h.0 h.1
    same_below r c i (Less a b) h = both (λ a b. cond (ltb a b) 1 0) a b h.0 h.1
    same_below r c i (Plus a b mask) h = both (λ a b. bit_and ((a + b) % 2 ^ 64) mask) a b h.0 h.1
    same_below r c i (Minus a b mask) h = both (λ a b. bit_and ((a + (2 ^ 64 - b)) % 2 ^ 64) mask) a b h.0 h.1
    same_below r c i (Choice test first other) h =
        ap (λ v. cond (eqb v 1) (get_or xs first 0) (get_or xs other 0)) (k test h.0) ∙ both (λ a b. cond (eqb (get_or ys test 0) 1) a b) first other h.1 h.2

  pub run_grow : (r c i at : ℕ) (ns : List Node) (vals : List ℕ) → IsWell r c i at ns → length vals ≡ at + length ns → run_from regs cells ins at ns vals ≡ grow regs cells ins ns (take at vals)
  run_grow r c i at [] vals w l = sym (take_all at vals (omega (arith, l)))
  run_grow r c i at (n ∷ ns) vals w l =
      let v = node_value regs cells ins vals n in
      let b : at < length vals = omega (arith, l) in
      run_grow r c i (suc at) ns (set vals at v) w.1 (length-set vals at v ∙ l ∙ omega arith)
      ∙ ap (grow regs cells ins ns) (take-suc-set vals at v b ∙ ap (λ u. take at vals ++ (u ∷ [])) (same_below vals (take at vals) at (λ j h. sym (get_or-take at vals j 0 h)) r c i n w.0))

  pub run_values : (r c i : ℕ) (ns : List Node) (vals : List ℕ) → IsWell r c i 0 ns → length vals ≡ length ns → run_from regs cells ins 0 ns vals ≡ values regs cells ins ns
  run_values r c i ns vals w l = run_grow r c i 0 ns vals w (omega (arith, l))
