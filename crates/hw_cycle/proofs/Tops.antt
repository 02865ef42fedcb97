-- The highest level of the forward wires in a tree.
use Rattle.std.proofs.Common.{◌≡◌, ℕ, ◌<◌, ◌≤◌, max, List, length, refl, arith}
use Rattle.hw_pool.specs.declared.node.Op.{Op}
use Rattle.hw_pool.specs.declared.node.Op.TheVariants as op
use Rattle.hw_pool.specs.Nodes.{EachChild}
use Rattle.hw_pool.specs.Trees.{Tree, of_op}
use Rattle.hw_pool.specs.Trees.Tree.{Lit, Input, Wire, Reg, Not, And, Or, Xor, Add, Sub, Eq, Ltu, Mux, Cat, Slice, Read}
use Rattle.hw_module.specs.declared.rows.WireRow.{WireRow}
use Rattle.hw_module.specs.Rows.{ModuleValue, wire_at}
use Rattle.hw_module.specs.Fits.{TreeFits}
use Rattle.hw_module.specs.Reached.{top_of}
use Rattle.hw_cycle.specs.Levels.{op_top, OfWire}

both : (a b l : ℕ) → a ≤ l → b ≤ l → max a b ≤ l
both a b l h k = omega arith

-- no forward wire of a tree that fits at a level is above it
pub top_most : (m : ModuleValue) (level : ℕ) (t : Tree) → TreeFits m level t → top_of m.wires t ≤ level
top_most m level (Lit width v) h = omega arith
top_most m level (Input width port) h = omega arith
top_most m level (Wire width wire) h = h.level
top_most m level (Reg width reg) h = omega arith
top_most m level (Not width a) h = top_most m level a h
top_most m level (And width a b) h = both _ _ level (top_most m level a h.0) (top_most m level b h.1)
top_most m level (Or width a b) h = both _ _ level (top_most m level a h.0) (top_most m level b h.1)
top_most m level (Xor width a b) h = both _ _ level (top_most m level a h.0) (top_most m level b h.1)
top_most m level (Add width a b) h = both _ _ level (top_most m level a h.0) (top_most m level b h.1)
top_most m level (Sub width a b) h = both _ _ level (top_most m level a h.0) (top_most m level b h.1)
top_most m level (Eq width a b) h = both _ _ level (top_most m level a h.0) (top_most m level b h.1)
top_most m level (Ltu width a b) h = both _ _ level (top_most m level a h.0) (top_most m level b h.1)
top_most m level (Mux width c a b) h =
    both _ _ level (top_most m level c h.0) (both _ _ level (top_most m level a h.1) (top_most m level b h.2))
top_most m level (Cat width a b) h = both _ _ level (top_most m level a h.0) (top_most m level b h.1)
top_most m level (Slice width a high low) h = top_most m level a h
top_most m level (Read width array a) h = top_most m level a h.1

left : (a b high : ℕ) → max a b < high → a < high
left a b high h = omega arith

right : (a b high : ℕ) → max a b < high → b < high
right a b high h = omega arith

-- where no forward wire has a level between two, no tree has
module _ (m : ModuleValue) (low high : ℕ) (gap : (w : ℕ) → w < length m.wires → (wire_at m.wires w).level < high → (wire_at m.wires w).level ≤ low) (level : ℕ) where
  pub top_gap : (t : Tree) → TreeFits m level t → top_of m.wires t < high → top_of m.wires t ≤ low
  top_gap (Lit width v) h l = omega arith
  top_gap (Input width port) h l = omega arith
  top_gap (Wire width wire) h l = gap wire h.there l
  top_gap (Reg width reg) h l = omega arith
  top_gap (Not width a) h l = top_gap a h l
  top_gap (And width a b) h l = both _ _ low (top_gap a h.0 (left _ _ high l)) (top_gap b h.1 (right _ _ high l))
  top_gap (Or width a b) h l = both _ _ low (top_gap a h.0 (left _ _ high l)) (top_gap b h.1 (right _ _ high l))
  top_gap (Xor width a b) h l = both _ _ low (top_gap a h.0 (left _ _ high l)) (top_gap b h.1 (right _ _ high l))
  top_gap (Add width a b) h l = both _ _ low (top_gap a h.0 (left _ _ high l)) (top_gap b h.1 (right _ _ high l))
  top_gap (Sub width a b) h l = both _ _ low (top_gap a h.0 (left _ _ high l)) (top_gap b h.1 (right _ _ high l))
  top_gap (Eq width a b) h l = both _ _ low (top_gap a h.0 (left _ _ high l)) (top_gap b h.1 (right _ _ high l))
  top_gap (Ltu width a b) h l = both _ _ low (top_gap a h.0 (left _ _ high l)) (top_gap b h.1 (right _ _ high l))
  top_gap (Mux width c a b) h l =
      both _ _ low (top_gap c h.0 (left _ _ high l))
      (both _ _ low (top_gap a h.1 (left _ _ high (right _ _ high l))) (top_gap b h.2 (right _ _ high (right _ _ high l))))
  top_gap (Cat width a b) h l = both _ _ low (top_gap a h.0 (left _ _ high l)) (top_gap b h.1 (right _ _ high l))
  top_gap (Slice width a high low) h l = top_gap a h l
  top_gap (Read width array a) h l = top_gap a h.1 l

-- a tree of an operator has the highest level that its children's give
pub top_op : (rows : List WireRow) (f : ℕ → Tree) (w : ℕ) (o : Op) → top_of rows (of_op f w o) ≡ op_top rows (λ c. top_of rows (f c)) o
top_op rows f w (op.Lit v) = refl
top_op rows f w (op.Input port) = refl
top_op rows f w (op.Wire wire) = refl
top_op rows f w (op.Reg reg) = refl
top_op rows f w (op.Not a) = refl
top_op rows f w (op.And a b) = refl
top_op rows f w (op.Or a b) = refl
top_op rows f w (op.Xor a b) = refl
top_op rows f w (op.Add a b) = refl
top_op rows f w (op.Sub a b) = refl
top_op rows f w (op.Eq a b) = refl
top_op rows f w (op.Ltu a b) = refl
top_op rows f w (op.Mux c a b) = refl
top_op rows f w (op.Cat a b) = refl
top_op rows f w (op.Slice a high low) = refl
top_op rows f w (op.Read array a) = refl

-- it is that of the same levels of the children
pub op_top-same : (rows : List WireRow) (f g : ℕ → ℕ) (o : Op) → EachChild (λ c. f c ≡ g c) o → op_top rows f o ≡ op_top rows g o
op_top-same rows f g (op.Lit v) h = refl
op_top-same rows f g (op.Input port) h = refl
op_top-same rows f g (op.Wire wire) h = refl
op_top-same rows f g (op.Reg reg) h = refl
op_top-same rows f g (op.Not a) h = h
op_top-same rows f g (op.And a b) h = λ i. max (h.0 i) (h.1 i)
op_top-same rows f g (op.Or a b) h = λ i. max (h.0 i) (h.1 i)
op_top-same rows f g (op.Xor a b) h = λ i. max (h.0 i) (h.1 i)
op_top-same rows f g (op.Add a b) h = λ i. max (h.0 i) (h.1 i)
op_top-same rows f g (op.Sub a b) h = λ i. max (h.0 i) (h.1 i)
op_top-same rows f g (op.Eq a b) h = λ i. max (h.0 i) (h.1 i)
op_top-same rows f g (op.Ltu a b) h = λ i. max (h.0 i) (h.1 i)
op_top-same rows f g (op.Mux c a b) h = λ i. max (h.0 i) (max (h.1 i) (h.2 i))
op_top-same rows f g (op.Cat a b) h = λ i. max (h.0 i) (h.1 i)
op_top-same rows f g (op.Slice a high low) h = h
op_top-same rows f g (op.Read array a) h = h

first : (a b : ℕ) → a ≤ max a b
first a b = omega arith

second : (a b : ℕ) → b ≤ max a b
second a b = omega arith

third : (c a b : ℕ) → a ≤ max c (max a b)
third c a b = omega arith

fourth : (c a b : ℕ) → b ≤ max c (max a b)
fourth c a b = omega arith

-- no child has a higher one
pub child_top : (rows : List WireRow) (f : ℕ → ℕ) (o : Op) → EachChild (λ c. f c ≤ op_top rows f o) o
child_top rows f (op.Lit v) = tt
child_top rows f (op.Input port) = tt
child_top rows f (op.Wire wire) = tt
child_top rows f (op.Reg reg) = tt
child_top rows f (op.Not a) = omega arith
child_top rows f (op.And a b) = (first _ _, second _ _)
child_top rows f (op.Or a b) = (first _ _, second _ _)
child_top rows f (op.Xor a b) = (first _ _, second _ _)
child_top rows f (op.Add a b) = (first _ _, second _ _)
child_top rows f (op.Sub a b) = (first _ _, second _ _)
child_top rows f (op.Eq a b) = (first _ _, second _ _)
child_top rows f (op.Ltu a b) = (first _ _, second _ _)
child_top rows f (op.Mux c a b) = (first _ _, third _ _ _, fourth _ _ _)
child_top rows f (op.Cat a b) = (first _ _, second _ _)
child_top rows f (op.Slice a high low) = omega arith
child_top rows f (op.Read array a) = omega arith

-- two facts of each child
pub each_both : (P Q : ℕ → Type 0) (o : Op) → EachChild P o → EachChild Q o → EachChild (λ c. P c × Q c) o
each_both P Q (op.Lit v) h k = tt
each_both P Q (op.Input port) h k = tt
each_both P Q (op.Wire wire) h k = tt
each_both P Q (op.Reg reg) h k = tt
each_both P Q (op.Not a) h k = (h, k)
each_both P Q (op.And a b) h k = ((h.0, k.0), (h.1, k.1))
each_both P Q (op.Or a b) h k = ((h.0, k.0), (h.1, k.1))
each_both P Q (op.Xor a b) h k = ((h.0, k.0), (h.1, k.1))
each_both P Q (op.Add a b) h k = ((h.0, k.0), (h.1, k.1))
each_both P Q (op.Sub a b) h k = ((h.0, k.0), (h.1, k.1))
each_both P Q (op.Eq a b) h k = ((h.0, k.0), (h.1, k.1))
each_both P Q (op.Ltu a b) h k = ((h.0, k.0), (h.1, k.1))
each_both P Q (op.Mux c a b) h k = ((h.0, k.0), (h.1, k.1), (h.2, k.2))
each_both P Q (op.Cat a b) h k = ((h.0, k.0), (h.1, k.1))
each_both P Q (op.Slice a high low) h k = (h, k)
each_both P Q (op.Read array a) h k = (h, k)

-- the forward wire of an operator whose tree fits
pub wire_of_op : (m : ModuleValue) (level : ℕ) (f : ℕ → Tree) (w : ℕ) (o : Op) → TreeFits m level (of_op f w o)
    → OfWire (λ x. (x < length m.wires) × ((wire_at m.wires x).level ≤ level)) o
wire_of_op m level f w (op.Lit v) h = tt
wire_of_op m level f w (op.Input port) h = tt
wire_of_op m level f w (op.Wire wire) h = (h.there, h.level)
wire_of_op m level f w (op.Reg reg) h = tt
wire_of_op m level f w (op.Not a) h = tt
wire_of_op m level f w (op.And a b) h = tt
wire_of_op m level f w (op.Or a b) h = tt
wire_of_op m level f w (op.Xor a b) h = tt
wire_of_op m level f w (op.Add a b) h = tt
wire_of_op m level f w (op.Sub a b) h = tt
wire_of_op m level f w (op.Eq a b) h = tt
wire_of_op m level f w (op.Ltu a b) h = tt
wire_of_op m level f w (op.Mux c a b) h = tt
wire_of_op m level f w (op.Cat a b) h = tt
wire_of_op m level f w (op.Slice a high low) h = tt
wire_of_op m level f w (op.Read array a) h = tt

pub of_wire : (P Q : ℕ → Type 0) → ((w : ℕ) → P w → Q w) → (o : Op) → OfWire P o → OfWire Q o
of_wire P Q f (op.Lit v) h = tt
of_wire P Q f (op.Input port) h = tt
of_wire P Q f (op.Wire wire) h = f wire h
of_wire P Q f (op.Reg reg) h = tt
of_wire P Q f (op.Not a) h = tt
of_wire P Q f (op.And a b) h = tt
of_wire P Q f (op.Or a b) h = tt
of_wire P Q f (op.Xor a b) h = tt
of_wire P Q f (op.Add a b) h = tt
of_wire P Q f (op.Sub a b) h = tt
of_wire P Q f (op.Eq a b) h = tt
of_wire P Q f (op.Ltu a b) h = tt
of_wire P Q f (op.Mux c a b) h = tt
of_wire P Q f (op.Cat a b) h = tt
of_wire P Q f (op.Slice a high low) h = tt
of_wire P Q f (op.Read array a) h = tt
