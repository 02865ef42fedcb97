-- How many lines a module has at least.
use Rattle.std.proofs.Common.{◌≡◌, ℕ, zero, suc, ◌+◌, ◌<◌, ◌≤◌, Bool, true, false, eqb, List, [], ◌∷◌, length, get_or, Option, Some, None, refl, ap, sym, ◌∙◌, arith}
use Rattle.std.proofs.lemmas.Bool.Decides.{nat_tests}
use Rattle.core_words.specs.Values.{one_if}
use Rattle.verilog_mean.specs.Look.{put}
use Rattle.verilog_netlist.specs.Netlist.{Line}
use Rattle.verilog_netlist.specs.Meaning.{lines_items}
use Rattle.hw_pool.specs.declared.node.Node.{Node}
use Rattle.hw_expr.specs.declared.net.Net.{Net}
use Rattle.hw_module.specs.Rows.{ModuleValue, wire_at, out_at}
use Rattle.hw_module.specs.Driven.{WiresDriven}
use Rattle.module_netlist.specs.Names.{wire_name, port_name}
use Rattle.module_netlist.specs.Lines.{spread, assigned, line_if, wire_line, reg_line, array_line, node_line, drive_line, next_line, write_line, out_line, from_outs, from_writes, from_nexts, from_drives, from_nodes, from_arrays, from_regs, module_lines}
use Rattle.netlist_order.proofs.Counts.{count, count_lt, count_all}

put_many : {A : Type 0} (o : Option A) (rest : List A) (b : Bool) → (b ≡ true → o ≡ None → ⊥) → (n : ℕ) → n ≤ length rest → one_if b + n ≤ length (put o rest)
put_many None rest true h n l = absurd (h refl refl)
put_many None rest false h n l = omega arith
put_many (Some a) rest true h n l = omega arith
put_many (Some a) rest false h n l = omega arith

-- what passes a test is there
spread_many : {A : Type 0} (f : ℕ → Option A) (p : ℕ → Bool) (rest : List A) (n k : ℕ) → ((i : ℕ) → k ≤ i → i < k + n → p i ≡ true → f i ≡ None → ⊥)
    → count p k n + length rest ≤ length (spread f k n rest)
unfolding count
spread_many f p rest zero k h = omega arith
spread_many f p rest (suc n) k h =
    let a : one_if (p k) + (count p (suc k) n + length rest) ≤ length (put (f k) (spread f (suc k) n rest)) =
    put_many (f k) (spread f (suc k) n rest) (p k) (h k (omega arith) (omega arith)) (count p (suc k) n + length rest)
    (spread_many f p rest n (suc k) (λ i c d. h i (omega arith) (omega arith))) in
    omega arith

-- no fewer than the rest
spread_rest : {A : Type 0} (f : ℕ → Option A) (rest : List A) (n : ℕ) → length rest ≤ length (spread f 0 n rest)
spread_rest f rest n =
    let a : count (λ i. false) 0 n + length rest ≤ length (spread f 0 n rest) = spread_many f (λ i. false) rest n 0 (λ i c d e. absurd (grind arith)) in
    omega arith

spread_all : {A : Type 0} (f : ℕ → Option A) (rest : List A) (n : ℕ) → ((i : ℕ) → i < n → f i ≡ None → ⊥) → n + length rest ≤ length (spread f 0 n rest)
spread_all f rest n h =
    let a : count (λ i. true) 0 n + length rest ≤ length (spread f 0 n rest) = spread_many f (λ i. true) rest n 0 (λ i c d e. h i (omega arith)) in
    let b : count (λ i. true) 0 n ≡ n = count_all n 0 in
    omega arith

spread_one : {A : Type 0} (f : ℕ → Option A) (rest : List A) (n j : ℕ) → j < n → (f j ≡ None → ⊥) → suc (length rest) ≤ length (spread f 0 n rest)
spread_one f rest n j l h =
    let a : count (λ i. eqb i j) 0 n + length rest ≤ length (spread f 0 n rest) =
    spread_many f (λ i. eqb i j) rest n 0 (λ i c d e k. let s : i ≡ j = grind (arith, nat_tests) in h (ap f (sym s) ∙ k)) in
    let b : suc (count (λ i. false) 0 n) ≤ count (λ i. eqb i j) 0 n =
    count_lt (λ i. false) (λ i. eqb i j) n 0 j (omega arith) (omega arith) refl (grind (arith, nat_tests)) (λ i c d e. absurd (grind arith)) in
    omega arith

pub items_many : (ls : List Line) → length (lines_items ls) ≡ length ls
items_many [] = refl
items_many (l ∷ ls) = ap suc (items_many ls)

assigned_none : (x : List ℕ) (o : Option Net) → assigned x o ≡ None → o ≡ None
assigned_none x None e = refl
assigned_none x (Some net) e = absurd (grind arith)

line_if_none : (b : Bool) (l : Line) → b ≡ true → line_if b l ≡ None → ⊥
line_if_none true l t e = absurd (grind arith)
line_if_none false l t e = absurd (grind arith)

some_none : {A : Type 0} (a : A) → Some a ≡ None → ⊥
some_none a e = absurd (grind arith)

module _ (m : ModuleValue) (nodes : List Node) (marks : List Bool) where
  abbrev mark : ℕ → Bool
  mark k = get_or marks k false

  drives_many : WiresDriven m.wires (length m.wires) → length m.wires + length (from_outs m nodes marks) ≤ length (from_drives m nodes marks)
  drives_many driven =
      let a : length (from_outs m nodes marks) ≤ length (from_writes m nodes marks) = spread_rest (write_line m) (from_outs m nodes marks) (length m.arrays) in
      let b : length (from_writes m nodes marks) ≤ length (from_nexts m nodes marks) = spread_rest (next_line m) (from_writes m nodes marks) (length m.regs) in
      let c : length m.wires + length (from_nexts m nodes marks) ≤ length (from_drives m nodes marks) =
      spread_all (drive_line m) (from_nexts m nodes marks) (length m.wires) (λ w l e. driven w l (assigned_none (wire_name m w) (wire_at m.wires w).driver e)) in
      omega arith

  -- a line for each marked node and two for each forward wire, besides those of the outputs
  pub lines_many : WiresDriven m.wires (length m.wires)
      → count mark 0 (length nodes) + length m.wires + length m.wires + length (from_outs m nodes marks) ≤ length (module_lines m nodes marks)
  lines_many driven =
      let a : length m.wires + length (from_outs m nodes marks) ≤ length (from_drives m nodes marks) = drives_many driven in
      let b : count mark 0 (length nodes) + length (from_drives m nodes marks) ≤ length (from_nodes m nodes marks) =
      spread_many (node_line m nodes marks) mark (from_drives m nodes marks) (length nodes) 0 (λ k c d t e. line_if_none (mark k) _ t e) in
      let c : length (from_nodes m nodes marks) ≤ length (from_arrays m nodes marks) = spread_rest (array_line m) (from_nodes m nodes marks) (length m.arrays) in
      let d : length (from_arrays m nodes marks) ≤ length (from_regs m nodes marks) = spread_rest (reg_line m) (from_arrays m nodes marks) (length m.regs) in
      let e : length m.wires + length (from_regs m nodes marks) ≤ length (module_lines m nodes marks) =
      spread_all (wire_line m) (from_regs m nodes marks) (length m.wires) (λ w l e. some_none _ e) in
      omega arith

  -- a driven output has a line
  pub outs_many : (p : ℕ) (net : Net) → p < 30 → out_at m.outs p ≡ Some net → 1 ≤ length (from_outs m nodes marks)
  outs_many p net l is = spread_one (out_line m) [] 30 p l (λ e. some_none net (sym is ∙ assigned_none (port_name p) (out_at m.outs p) e))
