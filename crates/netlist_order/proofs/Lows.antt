-- The drivers of lines name only what is of a smaller rank.
use Rattle.std.proofs.Common.{◌≡◌, ℕ, zero, suc, ◌+◌, ◌<◌, ◌≤◌, Bool, true, ltb, List, ◌&&◌, max, Option, Some, None, refl, arith}
use Rattle.std.proofs.Math.Nat.{le-max_left, le-max_right}
use Rattle.verilog_mean.specs.Look.{put}
use Rattle.verilog_mean.specs.Cycle.{item_source}
use Rattle.verilog_mean.proofs.Ordered.{names_pass, gives_lower, all_lower}
use Rattle.verilog_netlist.specs.Netlist.{Line}
use Rattle.verilog_netlist.specs.Meaning.{value_expr, line_item, lines_items}
use Rattle.hw_pool.specs.declared.node.Op.{Op}
use Rattle.hw_pool.specs.declared.node.Op.TheVariants.{Lit, Input, Wire, Reg, Not, And, Or, Xor, Add, Sub, Eq, Ltu, Mux, Cat, Slice, Read}
use Rattle.hw_pool.specs.Nodes.{EachChild}
use Rattle.hw_pool.specs.Trees.{Tree, of_op}
use Rattle.hw_expr.specs.declared.net.Net.{Net}
use Rattle.hw_module.specs.declared.rows.ArrayWrite.{ArrayWrite}
use Rattle.hw_module.specs.declared.rows.WireRow.{WireRow}
use Rattle.hw_module.specs.Rows.{ModuleValue}
use Rattle.hw_module.specs.Reached.{top_of}
use Rattle.module_netlist.specs.Names.{node_name, wire_name, reg_name, port_name}
use Rattle.module_netlist.specs.Lines.{spread, node_value, assigned, clocked, written}
use Rattle.netlist_order.proofs.Before.{and_true, is_below}

-- what a driver of a line is to meet
abbrev pub LineIsLower : (rank : List ℕ → ℕ) → Option Line → Type 0
LineIsLower rank None = Unit {0}
LineIsLower rank (Some l) = gives_lower rank (item_source (line_item l)) ≡ true

module _ (rank : List ℕ → ℕ) where
  put_lower : (o : Option Line) (rest : List Line) → LineIsLower rank o → all_lower rank (lines_items rest) ≡ true → all_lower rank (lines_items (put o rest)) ≡ true
  put_lower None rest h k = k
  put_lower (Some l) rest h k = and_true (gives_lower rank (item_source (line_item l))) (all_lower rank (lines_items rest)) h k

  spread_lower_from : (f : ℕ → Option Line) (rest : List Line) (n k : ℕ) → ((i : ℕ) → k ≤ i → i < k + n → LineIsLower rank (f i))
      → all_lower rank (lines_items rest) ≡ true → all_lower rank (lines_items (spread f k n rest)) ≡ true
  spread_lower_from f rest zero k all h = h
  spread_lower_from f rest (suc n) k all h =
      put_lower (f k) (spread f (suc k) n rest) (all k (omega arith) (omega arith))
      (spread_lower_from f rest n (suc k) (λ i a b. all i (omega arith) (omega arith)) h)

  pub spread_lower : (f : ℕ → Option Line) (rest : List Line) (n : ℕ) → ((i : ℕ) → i < n → LineIsLower rank (f i))
      → all_lower rank (lines_items rest) ≡ true → all_lower rank (lines_items (spread f 0 n rest)) ≡ true
  spread_lower f rest n all h = spread_lower_from f rest n 0 (λ i a b. all i (omega arith)) h

  -- registers and writes drive nothing within the cycle
  pub clocked_lower : (x : List ℕ) (width : ℕ) (reset : Option ℕ) (o : Option Net) → LineIsLower rank (clocked x width reset o)
  clocked_lower x width reset None = tt
  clocked_lower x width None (Some net) = refl
  clocked_lower x width (Some start) (Some net) = refl

  pub written_lower : (x : List ℕ) (o : Option ArrayWrite) → LineIsLower rank (written x o)
  written_lower x None = tt
  written_lower x (Some w) = refl

  pub assigned_lower : (x : List ℕ) (o : Option Net) → ((net : Net) → o ≡ Some net → rank (node_name net.id.0) < rank x) → LineIsLower rank (assigned x o)
  assigned_lower x None h = tt
  assigned_lower x (Some net) h = is_below (rank (node_name net.id.0)) (rank x) (h net refl)

  module _ (m : ModuleValue) (bound : ℕ) where
    -- what an operator takes from outside is of a smaller rank than a bound
    abbrev pub LeafIsLower : Op → Type 0
    LeafIsLower (Lit value) = Unit {0}
    LeafIsLower (Input port) = rank (port_name port) < bound
    LeafIsLower (Wire wire) = rank (wire_name m wire) < bound
    LeafIsLower (Reg reg) = rank (reg_name m reg) < bound
    LeafIsLower (Not a) = Unit {0}
    LeafIsLower (And a b) = Unit {0}
    LeafIsLower (Or a b) = Unit {0}
    LeafIsLower (Xor a b) = Unit {0}
    LeafIsLower (Add a b) = Unit {0}
    LeafIsLower (Sub a b) = Unit {0}
    LeafIsLower (Eq a b) = Unit {0}
    LeafIsLower (Ltu a b) = Unit {0}
    LeafIsLower (Mux c a b) = Unit {0}
    LeafIsLower (Cat a b) = Unit {0}
    LeafIsLower (Slice a high low) = Unit {0}
    LeafIsLower (Read array a) = Unit {0}

    abbrev test : List ℕ → Bool
    test y = ltb (rank y) bound

    is_low : (k : ℕ) → rank (node_name k) < bound → test (node_name k) ≡ true
    is_low k h = is_below (rank (node_name k)) bound h

    two : (a b : ℕ) → rank (node_name a) < bound → rank (node_name b) < bound → (test (node_name a) && test (node_name b)) ≡ true
    two a b h k = and_true (test (node_name a)) (test (node_name b)) (is_low a h) (is_low b k)

    pub op_lower : (width : ℕ) (o : Op) → LeafIsLower o → EachChild (λ c. rank (node_name c) < bound) o
        → names_pass test (value_expr (node_value m width o)) ≡ true
    op_lower width (Lit value) l h = refl
    op_lower width (Input port) l h = is_below (rank (port_name port)) bound l
    op_lower width (Wire wire) l h = is_below (rank (wire_name m wire)) bound l
    op_lower width (Reg reg) l h = is_below (rank (reg_name m reg)) bound l
    op_lower width (Not a) l h = is_low a.0 h
    op_lower width (And a b) l h = two a.0 b.0 h.0 h.1
    op_lower width (Or a b) l h = two a.0 b.0 h.0 h.1
    op_lower width (Xor a b) l h = two a.0 b.0 h.0 h.1
    op_lower width (Add a b) l h = two a.0 b.0 h.0 h.1
    op_lower width (Sub a b) l h = two a.0 b.0 h.0 h.1
    op_lower width (Eq a b) l h = two a.0 b.0 h.0 h.1
    op_lower width (Ltu a b) l h = two a.0 b.0 h.0 h.1
    op_lower width (Mux c a b) l h = and_true (test (node_name c.0)) (test (node_name a.0) && test (node_name b.0)) (is_low c.0 h.0) (two a.0 b.0 h.1 h.2)
    op_lower width (Cat a b) l h =
        and_true (test (node_name a.0)) (test (node_name b.0) && true) (is_low a.0 h.0) (and_true (test (node_name b.0)) true (is_low b.0 h.1) refl)
    op_lower width (Slice a high low) l h = is_low a.0 h
    op_lower width (Read array a) l h = is_low a.0 h

-- ---- children

-- what holds of each child, and what else does
pub each_two : (P Q : ℕ → Type 0) (o : Op) → EachChild P o → EachChild Q o → EachChild (λ c. P c × Q c) o
each_two P Q (Lit value) h k = tt
each_two P Q (Input port) h k = tt
each_two P Q (Wire wire) h k = tt
each_two P Q (Reg reg) h k = tt
each_two P Q (Not a) h k = (h, k)
each_two P Q (And a b) h k = ((h.0, k.0), (h.1, k.1))
each_two P Q (Or a b) h k = ((h.0, k.0), (h.1, k.1))
each_two P Q (Xor a b) h k = ((h.0, k.0), (h.1, k.1))
each_two P Q (Add a b) h k = ((h.0, k.0), (h.1, k.1))
each_two P Q (Sub a b) h k = ((h.0, k.0), (h.1, k.1))
each_two P Q (Eq a b) h k = ((h.0, k.0), (h.1, k.1))
each_two P Q (Ltu a b) h k = ((h.0, k.0), (h.1, k.1))
each_two P Q (Mux c a b) h k = ((h.0, k.0), (h.1, k.1), (h.2, k.2))
each_two P Q (Cat a b) h k = ((h.0, k.0), (h.1, k.1))
each_two P Q (Slice a high low) h k = (h, k)
each_two P Q (Read array a) h k = (h, k)

le_self : (n : ℕ) → n ≤ n
le_self n = omega arith

-- no child has a forward wire above the highest of the node
module _ (rows : List WireRow) (f : ℕ → Tree) (width : ℕ) where
  two_tops : (a b : ℕ) → (a ≤ max a b) × (b ≤ max a b)
  two_tops a b = (le-max_left a b, le-max_right a b)

  three_tops : (a b c : ℕ) → (a ≤ max a (max b c)) × (b ≤ max a (max b c)) × (c ≤ max a (max b c))
  three_tops a b c = (omega arith, omega arith, omega arith)

  pub child_tops : (o : Op) → EachChild (λ c. top_of rows (f c) ≤ top_of rows (of_op f width o)) o
  child_tops (Lit value) = tt
  child_tops (Input port) = tt
  child_tops (Wire wire) = tt
  child_tops (Reg reg) = tt
  child_tops (Not a) = le_self (top_of rows (f a.0))
  child_tops (And a b) = two_tops (top_of rows (f a.0)) (top_of rows (f b.0))
  child_tops (Or a b) = two_tops (top_of rows (f a.0)) (top_of rows (f b.0))
  child_tops (Xor a b) = two_tops (top_of rows (f a.0)) (top_of rows (f b.0))
  child_tops (Add a b) = two_tops (top_of rows (f a.0)) (top_of rows (f b.0))
  child_tops (Sub a b) = two_tops (top_of rows (f a.0)) (top_of rows (f b.0))
  child_tops (Eq a b) = two_tops (top_of rows (f a.0)) (top_of rows (f b.0))
  child_tops (Ltu a b) = two_tops (top_of rows (f a.0)) (top_of rows (f b.0))
  child_tops (Mux c a b) = three_tops (top_of rows (f c.0)) (top_of rows (f a.0)) (top_of rows (f b.0))
  child_tops (Cat a b) = two_tops (top_of rows (f a.0)) (top_of rows (f b.0))
  child_tops (Slice a high low) = le_self (top_of rows (f a.0))
  child_tops (Read array a) = le_self (top_of rows (f a.0))
