-- What the ports and items meet that are spelled by tokens whose literals fit.
use Rattle.std.proofs.Common.{◌≡◌, ℕ, ◌+◌, ◌≤◌, inl, inr, List, [], ◌∷◌, length, Option, Some, None, ap, subst, arith}
use Rattle.verilog_tree.specs.Signs.{Sign}
use Rattle.verilog_tree.specs.Signs as sign
use Rattle.verilog_tree.specs.Lexemes.{Placed}
use Rattle.verilog_tree.specs.declared.expr.Pair.{Pair}
use Rattle.verilog_tree.specs.declared.tree.Driver.{Driver}
use Rattle.verilog_tree.specs.declared.tree.PortDecl.{PortDecl}
use Rattle.verilog_tree.specs.declared.tree.Stmt.{Stmt}
use Rattle.verilog_tree.specs.declared.tree.Stmt.TheVariants.{Next, Reset, Write}
use Rattle.verilog_tree.specs.declared.tree.Item.{Item}
use Rattle.verilog_tree.specs.declared.tree.Item.TheVariants.{Wire, Reg, Assign, Always}
use Rattle.verilog_tree.specs.Module.{SpellsRange, SpellsWire, SpellsPort, SpellsPorts, SpellsDriver, SpellsDriven, SpellsStmt, SpellsItem, SpellsItems}
use Rattle.verilog_mean.specs.Bounds.{IsWrittenDriver, IsWrittenStmt, IsWrittenItem, AreWrittenItems, driver_size, stmt_size, item_size, items_size}
use Rattle.tree_bounds.proofs.Tokens.{AllFit}
use Rattle.tree_bounds.proofs.Exprs.{split, first, Left, pair_left, Met, expr_met}

range_left : (range : Option Pair) (ts rest : List Placed) → SpellsRange range ts rest → AllFit ts → Left ts rest
range_left None ts rest e h = let count : length ts ≡ length rest = ap length e in record { others = subst AllFit e h; count = omega arith }
range_left (Some p) ts rest spelled h = pair_left p ts rest spelled h

-- ---- ports

wire_left : (ts rest : List Placed) → SpellsWire ts rest → AllFit ts → Left ts rest
wire_left ts rest (inl e) h = let count : length ts ≡ length rest = ap length e in record { others = subst AllFit e h; count = omega arith }
wire_left ts rest (inr (at, e)) h = let t = first _ ts rest e h in record { others = t.others; count = omega (arith, t.count) }

-- what is left behind something that takes some tokens
pub record Behind (size : ℕ) (ts rest : List Placed) : Type 0 where
  pub others : AllFit rest
  pub count : size + length rest ≤ length ts

port_behind : (p : PortDecl) (ts rest : List Placed) → SpellsPort p ts rest → AllFit ts → Behind 1 ts rest
port_behind p ts rest (a, b, e, wire, range, free) h =
    let t = first _ ts a e h in
    let w = wire_left a b wire t.others in
    let r = range_left p.range b _ range w.others in
    record { others = r.others.1; count = omega (arith, t.count, w.count, r.count) }

pub ports_behind : (ps : List PortDecl) (ts rest : List Placed) → SpellsPorts ps ts rest → AllFit ts → Behind (length ps) ts rest
ports_behind [] ts rest spelled h = elim spelled [ ]
ports_behind (p ∷ []) ts rest (close, spelled) h =
    let m = port_behind p ts _ spelled h in
    record { others = m.others.1; count = omega (arith, m.count) }
ports_behind (p ∷ q ∷ ps) ts rest (mid, comma, spelled, spelled') h =
    let m = port_behind p ts _ spelled h in
    let r = ports_behind (q ∷ ps) mid rest spelled' m.others.1 in
    record { others = r.others; count = omega (arith, m.count, r.count) }

-- ---- drivers

driver_met : (s : Sign) (d : Driver) (ts rest : List Placed) → SpellsDriver s d ts rest → AllFit ts → Met d.value ts rest
driver_met s d ts rest (mid, end, e, (spelled, depth)) h =
    let t = first _ ts mid e h in
    let m = expr_met d.value mid _ spelled t.others in
    record { written = m.written; size = omega (arith, t.count, m.size); others = m.others.1 }

record DrivenMet (d : Option Driver) (ts rest : List Placed) : Type 0 where
  written : IsWrittenDriver d
  size : driver_size d + length rest ≤ length ts
  others : AllFit rest

driven_met : (d : Option Driver) (ts rest : List Placed) → SpellsDriven d ts rest → AllFit ts → DrivenMet d ts rest
driven_met None ts rest (end, e) h =
    let t = first _ ts rest e h in
    record { written = tt; size = omega (arith, t.count); others = t.others }
driven_met (Some d) ts rest spelled h =
    let m = driver_met sign.Assign d ts rest spelled h in
    record { written = m.written; size = m.size; others = m.others }

-- ---- statements

record StmtMet (s : Stmt) (ts rest : List Placed) : Type 0 where
  written : IsWrittenStmt s
  size : stmt_size s + length rest ≤ length ts
  others : AllFit rest

stmt_met : (s : Stmt) (ts rest : List Placed) → SpellsStmt s ts rest → AllFit ts → StmtMet s ts rest
stmt_met (Next target driver) ts rest (mid, free, e, spelled) h =
    let t = first _ ts mid e h in
    let m = driver_met sign.LessEqual driver mid rest spelled t.others in
    record { written = m.written; size = omega (arith, t.count, m.size); others = m.others }
stmt_met (Reset at first' first_sign_at start target driver) ts rest (mid, paren, reset, close, end, other, free, free', e, spelled) h =
    let head = split (_ ∷ _ ∷ _ ∷ _ ∷ _ ∷ _ ∷ _ ∷ _ ∷ _ ∷ _ ∷ []) ts mid e h in
    let m = driver_met sign.LessEqual driver mid rest spelled head.others in
    record { written = (head.fits.1.1.1.1.1.1.0, m.written); size = omega (arith, head.count, m.size); others = m.others }
stmt_met (Write at paren_at enable target bracket_at index driver) ts rest (a, b, c, close, close', free, e, (test, depth), (place, depth'), spelled) h =
    let head = split (_ ∷ _ ∷ []) ts a e h in
    let m = expr_met enable a _ test head.others in
    let n = expr_met index b _ place m.others.1.1.1 in
    let d = driver_met sign.LessEqual driver c rest spelled n.others.1 in
    record { written = (m.written, (n.written, d.written)); size = omega (arith, head.count, m.size, n.size, d.size); others = d.others }

-- ---- items

record ItemMet (i : Item) (ts rest : List Placed) : Type 0 where
  written : IsWrittenItem i
  size : item_size i + length rest ≤ length ts
  others : AllFit rest

item_met : (i : Item) (ts rest : List Placed) → SpellsItem i ts rest → AllFit ts → ItemMet i ts rest
item_met (Wire at range name driver) ts rest (a, b, free, e, spelled, spelled') h =
    let t = first _ ts a e h in
    let r = range_left range a _ spelled t.others in
    let m = driven_met driver b rest spelled' r.others.1 in
    record { written = m.written; size = omega (arith, t.count, r.count, m.size); others = m.others }
item_met (Reg at range name cells) ts rest (a, b, end, free, e, spelled, spelled') h =
    let t = first _ ts a e h in
    let r = range_left range a _ spelled t.others in
    let c = range_left cells b _ spelled' r.others.1 in
    record { written = tt; size = omega (arith, t.count, r.count, c.count); others = c.others.1 }
item_met (Assign at target driver) ts rest (mid, free, e, spelled) h =
    let head = split (_ ∷ _ ∷ []) ts mid e h in
    let m = driver_met sign.Assign driver mid rest spelled head.others in
    record { written = m.written; size = omega (arith, head.count, m.size); others = m.others }
item_met (Always at stmt) ts rest (mid, sign_at, paren, edge, clock, close, e, spelled) h =
    let head = split (_ ∷ _ ∷ _ ∷ _ ∷ _ ∷ _ ∷ []) ts mid e h in
    let m = stmt_met stmt mid rest spelled head.others in
    record { written = m.written; size = omega (arith, head.count, m.size); others = m.others }

pub record ItemsMet (is : List Item) (ts rest : List Placed) : Type 0 where
  pub written : AreWrittenItems is
  pub size : items_size is + length rest ≤ length ts

pub items_met : (is : List Item) (ts rest : List Placed) → SpellsItems is ts rest → AllFit ts → ItemsMet is ts rest
items_met [] ts rest e h = let count : length ts ≡ length rest = ap length e in record { written = tt; size = omega arith }
items_met (i ∷ is) ts rest (mid, spelled, spelled') h =
    let m = item_met i ts mid spelled h in
    let r = items_met is mid rest spelled' m.others in
    record { written = (m.written, r.written); size = omega (arith, m.size, r.size) }
