-- What an expression meets that is spelled by tokens whose literals fit.
use Rattle.std.proofs.Common.{◌≡◌, ◌+◌, ◌≤◌, List, [], ◌∷◌, ◌++◌, length, ap, subst, ◌∙◌, arith, length-append}
use Rattle.verilog_tree.specs.Lexemes.{Placed}
use Rattle.verilog_tree.specs.declared.expr.Pair.{Pair}
use Rattle.verilog_tree.specs.declared.expr.Expr.{Expr, Literal, Named, Select, Cell', Paren', Not', Join', Binary', Choice', Row_of-Expr, end_of-Expr, more_of-Expr}
use Rattle.verilog_tree.specs.Grammar.{Spells, SpellsParts, SpellsPair}
use Rattle.verilog_mean.specs.Erase.{plain, plain_parts}
use Rattle.verilog_mean.specs.Bounds.{IsWritten, AreWritten, HasPart, size_of, size_of_parts}
use Rattle.tree_bounds.proofs.Tokens.{AllFit}

-- ---- tokens in front

-- some tokens at the front, and those behind them
pub record Split (front ts rest : List Placed) : Type 0 where
  pub fits : AllFit front
  pub others : AllFit rest
  pub count : length ts ≡ length front + length rest

parts_fit : (front rest : List Placed) → AllFit (front ++ rest) → AllFit front × AllFit rest
parts_fit [] rest h = (tt, h)
parts_fit (t ∷ ts) rest h = let again = parts_fit ts rest h.1 in ((h.0, again.0), again.1)

pub split : (front ts rest : List Placed) → ts ≡ front ++ rest → AllFit ts → Split front ts rest
split front ts rest e h =
    let parts = parts_fit front rest (subst AllFit e h) in
    record { fits = parts.0; others = parts.1; count = ap length e ∙ length-append front rest }

-- one token at the front
pub first : (t : Placed) (ts rest : List Placed) → ts ≡ t ∷ rest → AllFit ts → Split (t ∷ []) ts rest
first t ts rest e h = split (t ∷ []) ts rest e h

-- the tokens of a range
pub record Left (ts rest : List Placed) : Type 0 where
  pub others : AllFit rest
  pub count : length rest ≤ length ts

pub pair_left : (p : Pair) (ts rest : List Placed) → SpellsPair p ts rest → AllFit ts → Left ts rest
pair_left p ts rest (colon, close, e) h =
    let s = split (_ ∷ _ ∷ _ ∷ _ ∷ _ ∷ []) ts rest e h in
    record { others = s.others; count = omega (arith, s.count) }

-- ---- expressions

pub record Met (e : Expr) (ts rest : List Placed) : Type 0 where
  pub written : IsWritten (plain e)
  pub size : size_of (plain e) + length rest ≤ length ts
  pub others : AllFit rest

record PartsMet {n : _} (row : Row_of-Expr n) (ts rest : List Placed) : Type 0 where
  some : HasPart (plain_parts row)
  written : AreWritten (plain_parts row)
  size : size_of_parts (plain_parts row) + length rest ≤ length ts
  others : AllFit rest

mutual
  pub expr_met : (e : Expr) (ts rest : List Placed) → Spells e ts rest → AllFit ts → Met e ts rest
  expr_met (Literal l) ts rest e h =
      let t = first _ ts rest e h in
      record { written = t.fits.0; size = omega (arith, t.count); others = t.others }
  expr_met (Named i) ts rest (free, e) h =
      let t = first _ ts rest e h in
      record { written = tt; size = omega (arith, t.count); others = t.others }
  expr_met (Select i bits) ts rest (mid, free, e, range) h =
      let t = first _ ts mid e h in
      let left = pair_left bits mid rest range t.others in
      record { written = tt; size = omega (arith, t.count, left.count); others = left.others }
  expr_met (Cell' i at s (more_of-Expr index end_of-Expr)) ts rest (mid, close, free, e, spelled) h =
      let t = first _ ts _ e h in
      let m = expr_met index mid _ spelled t.others.1 in
      record { written = m.written; size = omega (arith, t.count, m.size); others = m.others.1 }
  expr_met (Paren' at s (more_of-Expr inner end_of-Expr)) ts rest (mid, close, e, spelled) h =
      let t = first _ ts mid e h in
      let m = expr_met inner mid _ spelled t.others in
      record { written = m.written; size = omega (arith, t.count, m.size); others = m.others.1 }
  expr_met (Not' at s (more_of-Expr inner end_of-Expr)) ts rest (mid, e, primary, spelled) h =
      let t = first _ ts mid e h in
      let m = expr_met inner mid rest spelled t.others in
      record { written = m.written; size = omega (arith, t.count, m.size); others = m.others }
  expr_met (Join' at s parts) ts rest (mid, e, spelled) h =
      let t = first _ ts mid e h in
      let m = parts_met parts mid rest spelled t.others in
      record { written = (m.some, m.written); size = omega (arith, t.count, m.size); others = m.others }
  expr_met (Binary' op at s (more_of-Expr left end_of-Expr) s' (more_of-Expr right end_of-Expr)) ts rest (mid, loose, tight, spelled, spelled') h =
      let l = expr_met left ts _ spelled h in
      let r = expr_met right mid rest spelled' l.others.1 in
      record { written = (l.written, r.written); size = omega (arith, l.size, r.size); others = r.others }
  expr_met (Choice' at at' s (more_of-Expr test end_of-Expr) s' (more_of-Expr chosen end_of-Expr) s'' (more_of-Expr other end_of-Expr)) ts rest (mid, mid', loose, spelled, spelled', spelled'') h =
      let a = expr_met test ts _ spelled h in
      let b = expr_met chosen mid _ spelled' a.others.1 in
      let c = expr_met other mid' rest spelled'' b.others.1 in
      record { written = (a.written, (b.written, c.written)); size = omega (arith, a.size, b.size, c.size); others = c.others }

  parts_met : {n : _} (row : Row_of-Expr n) (ts rest : List Placed) → SpellsParts row ts rest → AllFit ts → PartsMet row ts rest
  parts_met end_of-Expr ts rest h k = elim h [ ]
  parts_met (more_of-Expr e end_of-Expr) ts rest (close, spelled) h =
      let m = expr_met e ts _ spelled h in
      record { some = tt; written = (m.written, tt); size = omega (arith, m.size); others = m.others.1 }
  parts_met (more_of-Expr e (more_of-Expr f more')) ts rest (mid, comma, spelled, spelled') h =
      let m = expr_met e ts _ spelled h in
      let r = parts_met (more_of-Expr f more') mid rest spelled' m.others.1 in
      record { some = tt; written = (m.written, r.written); size = omega (arith, m.size, r.size); others = r.others }
