-- What the tree of a text meets.
use Rattle.std.proofs.Common.{ℕ, ◌^◌, ◌≤◌, List, [], ◌∷◌, length, arith}
use Rattle.verilog_tree.specs.Lexemes.{Placed}
use Rattle.verilog_tree.specs.declared.tree.Tree.{Tree}
use Rattle.verilog_tree.specs.Module.{SpellsModule, Reads}
use Rattle.verilog_mean.specs.Bounds.{AreWrittenItems, tree_size, IsBounded}
use Rattle.tree_bounds.proofs.Tokens.{AllFit, tokens_fit, tokens_count}
use Rattle.tree_bounds.proofs.Exprs.{split}
use Rattle.tree_bounds.proofs.Items.{ports_behind, items_met}

record ModuleMet (t : Tree) (ts : List Placed) : Type 0 where
  written : AreWrittenItems t.items
  size : tree_size t ≤ length ts

module_met : (t : Tree) (ts : List Placed) → SpellsModule t ts → AllFit ts → ModuleMet t ts
module_met t ts (a, b, paren, semicolon, end, free, e, ports, items) h =
    let head = split (_ ∷ _ ∷ _ ∷ []) ts a e h in
    let p = ports_behind t.ports a _ ports head.others in
    let m = items_met t.items b _ items p.others.1 in
    record { written = m.written; size = omega (arith, head.count, p.count, m.size) }

pub text_written : (bytes : List ℕ) (t : Tree) → Reads bytes t → AreWrittenItems t.items
text_written bytes t (ts, tokens, spelled) = (module_met t ts spelled (tokens_fit (length bytes) bytes ts tokens)).written

pub text_size : (bytes : List ℕ) (t : Tree) → Reads bytes t → tree_size t ≤ length bytes
text_size bytes t (ts, tokens, spelled) =
    let m = module_met t ts spelled (tokens_fit (length bytes) bytes ts tokens) in
    omega (arith, m.size, tokens_count (length bytes) bytes ts tokens)

pub text_bounded : (bytes : List ℕ) (t : Tree) → Reads bytes t → length bytes ≤ 2 ^ 24 → IsBounded t
text_bounded bytes t h l = record { written = text_written bytes t h; size = omega (arith, text_size bytes t h) }
