-- The sixth rule at each form of an expression that code makes.
use Rattle.std.proofs.Common.{◌≡◌, ℕ, ◌+◌, ◌-◌, ◌∙◌, Bool, true, false, not, eqb, leb, List, [], ◌∷◌, ◌++◌, Option, Some, None, sym, refl, ap, map}
use Rattle.std.specs.Option.{option_or}
use Rattle.verilog_tree.specs.declared.expr.BinSign.{BinSign}
use Rattle.verilog_tree.specs.declared.expr.Ident.{Ident}
use Rattle.verilog_tree.specs.declared.expr.Lit.{Lit}
use Rattle.verilog_tree.specs.declared.expr.Pair.{Pair}
use Rattle.verilog_tree.specs.declared.expr.Expr.{Expr, Expr-F, fold-roll-Expr, Row_of-Expr, end_of-Expr, more_of-Expr, items-the_row-Expr}
use Rattle.verilog_tree.specs.declared.expr.Expr.TheVariants.{Literal, Named, Select, Cell, Paren, Not, Join, Binary, Choice, rolls-Literal, rolls-Named, rolls-Select, rolls-Cell, rolls-Paren, rolls-Not, rolls-Join, rolls-Binary, rolls-Choice}
use Rattle.verilog_tree.specs.declared.tree.Driver.{Driver}
use Rattle.verilog_tree.specs.declared.tree.Stmt as tree_stmt
use Rattle.verilog_tree.specs.declared.tree.Stmt.TheVariants as stmt
use Rattle.verilog_tree.specs.declared.tree.Item.TheVariants as item
use Rattle.verilog_tree.proofs.Made.{made_cell, made_paren, made_not, made_binary, made_choice, made_join}
use Rattle.verilog_mean.specs.declared.refusal.MeanRefusal.{MeanRefusal}
use Rattle.verilog_mean.specs.declared.refusal.MeanRefusal.TheVariants.{WidthDiffers}
use Rattle.verilog_mean.specs.Look.{put_if}
use Rattle.verilog_mean.specs.Names.{Refusals}
use Rattle.verilog_mean.specs.Erase.{plain_parts}
use Rattle.verilog_mean.specs.Cycle.{sign_width, width_of_parts}
use Rattle.verilog_mean.specs.Widths.{width, widths_in, widths_in_parts, index_width_of}
use Rattle.verilog_mean.specs.Declarations.{Declaration, width_among}
use Rattle.verilog_rules.specs.Bits.{bits_of, expr_bits, total}
use Rattle.verilog_rules.specs.Shut.{unequal, too_wide, expr_width, width_refusals, widths_by_driver, widths_by_stmt, widths_by_item}
use Rattle.verilog_rules.specs.First.{first, in_each}
use Rattle.verilog_rules.proofs.Rows.{row_of}

-- ---- the first of some lists

pub first_of_two : (xs ys : Refusals) → first (xs ++ ys) ≡ option_or (first xs) (first ys)
first_of_two [] ys = refl
first_of_two (x ∷ xs) ys = refl

pub earliest : {A : Type 0} (a b c : Option A) → option_or (option_or a b) c ≡ option_or a (option_or b c)
earliest None b c = refl
earliest (Some x) b c = refl

before : (b : Bool) (r : MeanRefusal) (rest : Refusals) → put_if b r rest ≡ put_if b r [] ++ rest
before true r rest = refl
before false r rest = refl

apart : (at left right : ℕ) (rest : Refusals) → put_if (not (eqb left right)) (WidthDiffers at left right) rest ≡ unequal at left right ++ rest
unfolding unequal
apart at left right rest = before (not (eqb left right)) (WidthDiffers at left right) rest

pub first_unequal : (at left right : ℕ) → first (unequal at left right) ≡ first (put_if (not (eqb left right)) (WidthDiffers at left right) [])
unfolding unequal
first_unequal at left right = refl

pub ruleset orders = (first_of_two, earliest)

-- ---- widths

pub width-Literal : (ds : List Declaration) (l : Lit) → expr_width ds (Literal l) ≡ l.width
unfolding expr_width
width-Literal ds l = refl

pub width-Named : (ds : List Declaration) (i : Ident) → expr_width ds (Named i) ≡ width_among ds i.text
unfolding expr_width
width-Named ds i = refl

pub width-Select : (ds : List Declaration) (i : Ident) (bits : Pair) → expr_width ds (Select i bits) ≡ bits.first.value + 1 - bits.second.value
unfolding expr_width
width-Select ds i bits = refl

pub width-Cell : (ds : List Declaration) (i : Ident) (at : ℕ) (e : Expr) → expr_width ds (Cell i at e) ≡ width_among ds i.text
unfolding expr_width
width-Cell ds i at e = ap (width ds) (made_cell i at tt e)

pub width-Paren : (ds : List Declaration) (at : ℕ) (e : Expr) → expr_width ds (Paren at e) ≡ expr_width ds e
unfolding expr_width
width-Paren ds at e = ap (width ds) (made_paren at tt e)

pub width-Not : (ds : List Declaration) (at : ℕ) (e : Expr) → expr_width ds (Not at e) ≡ expr_width ds e
unfolding expr_width
width-Not ds at e = ap (width ds) (made_not at tt e)

pub width-Binary : (ds : List Declaration) (op : BinSign) (at : ℕ) (a b : Expr) → expr_width ds (Binary op at a b) ≡ sign_width op (expr_width ds a)
unfolding expr_width
width-Binary ds op at a b = ap (width ds) (made_binary op at tt tt a b)

pub width-Choice : (ds : List Declaration) (at at' : ℕ) (a b c : Expr) → expr_width ds (Choice at at' a b c) ≡ expr_width ds b
unfolding expr_width
width-Choice ds at at' a b c = ap (width ds) (made_choice at at' tt tt tt a b c)

width_row : (ds : List Declaration) {n : _} (row : Row_of-Expr n) → width_of_parts (width_among ds) (plain_parts row) ≡ total (map (expr_width ds) (items-the_row-Expr _ row))
unfolding expr_width
width_row ds end_of-Expr = refl
width_row ds (more_of-Expr e row) = ap (λ n. width ds e + n) (width_row ds row)

pub width-Join : (ds : List Declaration) (at : ℕ) (es : List Expr) → expr_width ds (Join at es) ≡ total (map (expr_width ds) es)
unfolding expr_width
width-Join ds at es =
    let r = row_of es in
    ap (λ (l : List Expr). width ds (Join at l)) (sym r.items) ∙ ap (width ds) (made_join at r.shape r.row) ∙ width_row ds r.row
    ∙ ap (λ (l : List Expr). total (map (width ds) l)) r.items

pub ruleset expr_widths = (width-Literal, width-Named, width-Select, width-Cell, width-Paren, width-Not, width-Binary, width-Choice, width-Join)

-- ---- bits

pub bits-Literal : (ds : List Declaration) (l : Lit) → expr_bits ds (Literal l) ≡ l.width
unfolding expr_bits
bits-Literal ds l = ap (expr_bits ds) (sym (rolls-Literal l)) ∙ fold-roll-Expr ℕ (bits_of (width_among ds)) (Expr-F.Literal l)

pub bits-Named : (ds : List Declaration) (i : Ident) → expr_bits ds (Named i) ≡ width_among ds i.text
unfolding expr_bits
bits-Named ds i = ap (expr_bits ds) (sym (rolls-Named i)) ∙ fold-roll-Expr ℕ (bits_of (width_among ds)) (Expr-F.Named i)

pub bits-Select : (ds : List Declaration) (i : Ident) (bits : Pair) → expr_bits ds (Select i bits) ≡ bits.first.value + 1
unfolding expr_bits
bits-Select ds i bits = ap (expr_bits ds) (sym (rolls-Select i bits)) ∙ fold-roll-Expr ℕ (bits_of (width_among ds)) (Expr-F.Select i bits)

pub bits-Cell : (ds : List Declaration) (i : Ident) (at : ℕ) (e : Expr) → expr_bits ds (Cell i at e) ≡ width_among ds i.text + expr_bits ds e
unfolding expr_bits
bits-Cell ds i at e = ap (expr_bits ds) (sym (rolls-Cell i at e)) ∙ fold-roll-Expr ℕ (bits_of (width_among ds)) (Expr-F.Cell i at e)

pub bits-Paren : (ds : List Declaration) (at : ℕ) (e : Expr) → expr_bits ds (Paren at e) ≡ expr_bits ds e
unfolding expr_bits
bits-Paren ds at e = ap (expr_bits ds) (sym (rolls-Paren at e)) ∙ fold-roll-Expr ℕ (bits_of (width_among ds)) (Expr-F.Paren at e)

pub bits-Not : (ds : List Declaration) (at : ℕ) (e : Expr) → expr_bits ds (Not at e) ≡ expr_bits ds e
unfolding expr_bits
bits-Not ds at e = ap (expr_bits ds) (sym (rolls-Not at e)) ∙ fold-roll-Expr ℕ (bits_of (width_among ds)) (Expr-F.Not at e)

pub bits-Join : (ds : List Declaration) (at : ℕ) (es : List Expr) → expr_bits ds (Join at es) ≡ total (map (expr_bits ds) es)
unfolding expr_bits
bits-Join ds at es = ap (expr_bits ds) (sym (rolls-Join at es)) ∙ fold-roll-Expr ℕ (bits_of (width_among ds)) (Expr-F.Join at es)

pub bits-Binary : (ds : List Declaration) (op : BinSign) (at : ℕ) (a b : Expr) → expr_bits ds (Binary op at a b) ≡ expr_bits ds a + expr_bits ds b + 1
unfolding expr_bits
bits-Binary ds op at a b = ap (expr_bits ds) (sym (rolls-Binary op at a b)) ∙ fold-roll-Expr ℕ (bits_of (width_among ds)) (Expr-F.Binary op at a b)

pub bits-Choice : (ds : List Declaration) (at at' : ℕ) (a b c : Expr) → expr_bits ds (Choice at at' a b c) ≡ expr_bits ds a + (expr_bits ds b + expr_bits ds c)
unfolding expr_bits
bits-Choice ds at at' a b c = ap (expr_bits ds) (sym (rolls-Choice at at' a b c)) ∙ fold-roll-Expr ℕ (bits_of (width_among ds)) (Expr-F.Choice at at' a b c)

pub ruleset bits = (bits-Literal, bits-Named, bits-Select, bits-Cell, bits-Paren, bits-Not, bits-Join, bits-Binary, bits-Choice)

-- ---- refusals

pub widths-Literal : (ds : List Declaration) (l : Lit) → width_refusals ds (Literal l) ≡ []
unfolding width_refusals expr_width
widths-Literal ds l = refl

pub widths-Named : (ds : List Declaration) (i : Ident) → width_refusals ds (Named i) ≡ []
unfolding width_refusals expr_width
widths-Named ds i = refl

pub widths-Select : (ds : List Declaration) (i : Ident) (bits : Pair) → width_refusals ds (Select i bits) ≡ []
unfolding width_refusals expr_width
widths-Select ds i bits = refl

pub widths-Cell : (ds : List Declaration) (i : Ident) (at : ℕ) (e : Expr) → width_refusals ds (Cell i at e) ≡ unequal at (expr_width ds e) (index_width_of ds i) ++ width_refusals ds e
unfolding width_refusals expr_width
widths-Cell ds i at e = ap (widths_in ds) (made_cell i at tt e) ∙ apart at (width ds e) (index_width_of ds i) (widths_in ds e)

pub widths-Paren : (ds : List Declaration) (at : ℕ) (e : Expr) → width_refusals ds (Paren at e) ≡ width_refusals ds e
unfolding width_refusals expr_width
widths-Paren ds at e = ap (widths_in ds) (made_paren at tt e)

pub widths-Not : (ds : List Declaration) (at : ℕ) (e : Expr) → width_refusals ds (Not at e) ≡ width_refusals ds e
unfolding width_refusals expr_width
widths-Not ds at e = ap (widths_in ds) (made_not at tt e)

pub widths-Binary : (ds : List Declaration) (op : BinSign) (at : ℕ) (a b : Expr) → width_refusals ds (Binary op at a b) ≡ width_refusals ds a ++ (unequal at (expr_width ds a) (expr_width ds b) ++ width_refusals ds b)
unfolding width_refusals expr_width
widths-Binary ds op at a b = ap (widths_in ds) (made_binary op at tt tt a b)
    ∙ ap (λ rs. widths_in ds a ++ rs) (apart at (width ds a) (width ds b) (widths_in ds b))

pub widths-Choice : (ds : List Declaration) (at at' : ℕ) (a b c : Expr) → width_refusals ds (Choice at at' a b c) ≡ width_refusals ds a ++ (unequal at (expr_width ds a) 1 ++ (width_refusals ds b ++ (unequal at' (expr_width ds b) (expr_width ds c) ++ width_refusals ds c)))
unfolding width_refusals expr_width
widths-Choice ds at at' a b c = ap (widths_in ds) (made_choice at at' tt tt tt a b c)
    ∙ ap (λ rs. widths_in ds a ++ rs) (apart at (width ds a) 1 _ ∙ ap (λ rs. unequal at (width ds a) 1 ++ (widths_in ds b ++ rs)) (apart at' (width ds b) (width ds c) (widths_in ds c)))

widths_row : (ds : List Declaration) {n : _} (row : Row_of-Expr n) → widths_in_parts ds row ≡ in_each (width_refusals ds) (items-the_row-Expr _ row)
unfolding width_refusals
widths_row ds end_of-Expr = refl
widths_row ds (more_of-Expr e row) = ap (λ rs. widths_in ds e ++ rs) (widths_row ds row)

pub widths-Join : (ds : List Declaration) (at : ℕ) (es : List Expr)
    → width_refusals ds (Join at es) ≡ too_wide at (total (map (expr_width ds) es)) ++ in_each (width_refusals ds) es
unfolding width_refusals expr_width too_wide
widths-Join ds at es =
    let r = row_of es in
    let sum : ℕ = width_of_parts (width_among ds) (plain_parts r.row) in
    let same : sum ≡ total (map (width ds) es) = width_row ds r.row ∙ ap (λ (l : List Expr). total (map (width ds) l)) r.items in
    let parts : widths_in_parts ds r.row ≡ in_each (widths_in ds) es = widths_row ds r.row ∙ ap (in_each (widths_in ds)) r.items in
    ap (λ (l : List Expr). widths_in ds (Join at l)) (sym r.items) ∙ ap (widths_in ds) (made_join at r.shape r.row)
    ∙ before (not (leb sum 64)) (WidthDiffers at sum 64) (widths_in_parts ds r.row) ∙ (λ i. too_wide at (same i) ++ parts i)

pub ruleset widths = (widths-Literal, widths-Named, widths-Select, widths-Cell, widths-Paren, widths-Not, widths-Binary, widths-Choice, widths-Join)

-- ---- statements and items

pub widths-Driver : (ds : List Declaration) (left : ℕ) (d : Driver)
    → widths_by_driver ds left d ≡ unequal d.sign_at left (expr_width ds d.value) ++ width_refusals ds d.value
unfolding widths_by_driver width_refusals expr_width
widths-Driver ds left d = apart d.sign_at left (width ds d.value) (widths_in ds d.value)

pub ruleset drivers = (widths-Driver)

pub widths-Next : (ds : List Declaration) (target : Ident) (d : Driver) → widths_by_stmt ds (stmt.Next target d) ≡ widths_by_driver ds (width_among ds target.text) d
unfolding widths_by_stmt widths_by_driver
widths-Next ds target d = refl

pub widths-Reset : (ds : List Declaration) (at : ℕ) (one : Ident) (sign : ℕ) (start : Lit) (target : Ident) (d : Driver)
    → widths_by_stmt ds (stmt.Reset at one sign start target d)
    ≡ unequal sign (width_among ds one.text) start.width ++ widths_by_driver ds (width_among ds target.text) d
unfolding widths_by_stmt widths_by_driver
widths-Reset ds at one sign start target d = apart sign (width_among ds one.text) start.width (widths_by_driver ds (width_among ds target.text) d)

pub widths-Write : (ds : List Declaration) (at paren : ℕ) (enable : Expr) (target : Ident) (bracket : ℕ) (index : Expr) (d : Driver)
    → widths_by_stmt ds (stmt.Write at paren enable target bracket index d)
    ≡ unequal paren (expr_width ds enable) 1 ++ (width_refusals ds enable
    ++ (unequal bracket (expr_width ds index) (index_width_of ds target) ++ (width_refusals ds index ++ widths_by_driver ds (width_among ds target.text) d)))
unfolding widths_by_stmt widths_by_driver width_refusals expr_width
widths-Write ds at paren enable target bracket index d =
    apart paren (width ds enable) 1 _
    ∙ ap (λ rs. unequal paren (width ds enable) 1 ++ (widths_in ds enable ++ rs))
    (apart bracket (width ds index) (index_width_of ds target) (widths_in ds index ++ widths_by_driver ds (width_among ds target.text) d))

pub widths-Wire : (ds : List Declaration) (at : ℕ) (range : Option Pair) (name : Ident) (d : Driver)
    → widths_by_item ds (item.Wire at range name (Some d)) ≡ widths_by_driver ds (width_among ds name.text) d
unfolding widths_by_item widths_by_driver
widths-Wire ds at range name d = refl

pub widths-open : (ds : List Declaration) (at : ℕ) (range : Option Pair) (name : Ident) → widths_by_item ds (item.Wire at range name None) ≡ []
unfolding widths_by_item
widths-open ds at range name = refl

pub widths-Reg : (ds : List Declaration) (at : ℕ) (range : Option Pair) (name : Ident) (cells : Option Pair) → widths_by_item ds (item.Reg at range name cells) ≡ []
unfolding widths_by_item
widths-Reg ds at range name cells = refl

pub widths-Assign : (ds : List Declaration) (at : ℕ) (target : Ident) (d : Driver)
    → widths_by_item ds (item.Assign at target d) ≡ widths_by_driver ds (width_among ds target.text) d
unfolding widths_by_item widths_by_driver
widths-Assign ds at target d = refl

pub widths-Always : (ds : List Declaration) (at : ℕ) (s : tree_stmt.Stmt) → widths_by_item ds (item.Always at s) ≡ widths_by_stmt ds s
unfolding widths_by_item widths_by_stmt
widths-Always ds at s = refl

pub ruleset width_items = (widths-Next, widths-Reset, widths-Write, widths-Wire, widths-open, widths-Reg, widths-Assign, widths-Always)
