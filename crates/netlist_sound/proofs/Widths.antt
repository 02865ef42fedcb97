-- Sixth rule: the widths of fine lines agree.
use Rattle.std.proofs.Common.{◌≡◌, ℕ, suc, ◌+◌, ◌≤◌, Bool, true, not, eqb, leb, ◌++◌, List, [], ◌∷◌, Option, Some, None, refl, ap, sym, ◌∙◌, arith}
use Rattle.std.proofs.lemmas.Bool.Decides.{nat_tests}
use Rattle.verilog_tree.specs.declared.expr.Expr.TheBlock.{shape-the_row-Expr-0, hidden-the_row-Expr-0, shape-the_row-Expr-1, hidden-the_row-Expr-1}
use denote.Hole.Carrier.{hidden}
use Rattle.verilog_mean.specs.declared.refusal.MeanRefusal.TheVariants.{WidthDiffers}
use Rattle.verilog_mean.specs.Look.{put_if}
use Rattle.verilog_mean.specs.Names.{Refusals}
use Rattle.verilog_mean.specs.Cycle.{sign_width}
use Rattle.verilog_mean.specs.Declarations.{Declaration, declaration_of, width_among, declared_index_width}
use Rattle.verilog_mean.specs.Widths.{width, widths_in, widths_at, widths_in_item, widths_in_items}
use Rattle.verilog_netlist.specs.Netlist.{Value, Line}
use Rattle.verilog_netlist.specs.Netlist.Value.{Constant, Copy, Bits, Cell, Not, Both, Choice, Join}
use Rattle.verilog_netlist.specs.Netlist.Line.{Wire, Net, Reg, Array, Assign, Next, Reset, Write}
use Rattle.verilog_netlist.specs.Places.{placed_value, placed_driver, placed_line, behind_line, placed_lines}
use Rattle.netlist_sound.proofs.Fine.{Info, info_of, infos, info_among, Has, Reads, JoinFine, ValueFine, LineFine, Each}
use Rattle.netlist_sound.proofs.Selects.{has_width}

index_so : (o : Option Declaration) (i : Info) → infos o ≡ Some i → declared_index_width o ≡ i.index
index_so None i h = absurd (cc)
index_so (Some d) i h = let e : info_of d ≡ i = cc in ap (λ v. v.index) e

-- equal widths
agree : (at a b : ℕ) (rest : Refusals) → a ≡ b → rest ≡ [] → put_if (not (eqb a b)) (WidthDiffers at a b) rest ≡ []
agree at a b rest e r =
    let t : eqb a b ≡ true = grind (arith, nat_tests) in
    ap (λ v. put_if (not v) (WidthDiffers at a b) rest) t ∙ r

at_most : (at sum : ℕ) (rest : Refusals) → sum ≤ 64 → rest ≡ [] → put_if (not (leb sum 64)) (WidthDiffers at sum 64) rest ≡ []
at_most at sum rest l r =
    let t : leb sum 64 ≡ true = grind (arith, nat_tests) in
    ap (λ v. put_if (not v) (WidthDiffers at sum 64) rest) t ∙ r

module _ (ds : List Declaration) where
  has_index : (x : List ℕ) (test : Info → Bool) (wide bits : ℕ) (h : Has (info_among ds) x test wide) → h.info.index ≡ bits → declared_index_width (declaration_of ds x) ≡ bits
  has_index x test wide bits h e = index_so (declaration_of ds x) h.info h.is ∙ e

  reads_width : (x : List ℕ) (wide : ℕ) → Reads (info_among ds) x wide → width_among ds x ≡ wide
  reads_width x wide h = has_width ds x _ wide h.has

  join_sum : (a b : List ℕ) (wide : ℕ) → JoinFine (info_among ds) wide a b → width_among ds a + (width_among ds b + 0) ≡ wide
  join_sum a b wide h =
      let x : width_among ds a ≡ h.high = reads_width a h.high h.first in
      let y : width_among ds b ≡ h.low = reads_width b h.low h.second in
      let s : h.high + h.low ≡ wide = h.width in
      omega arith

  value_width : (p : ℕ → ℕ) (k : ℕ) (wide : ℕ) (v : Value) → ValueFine (info_among ds) wide v → width ds (placed_value p k v) ≡ wide
  unfolding shape-the_row-Expr-0 hidden-the_row-Expr-0 shape-the_row-Expr-1 hidden-the_row-Expr-1 hidden
  value_width p k wide (Constant width value) h = h
  value_width p k wide (Copy a) h = reads_width a wide h
  value_width p k wide (Bits a high low) h = h.width
  value_width p k wide (Cell a i) h = has_width ds a _ wide h.indexes.has
  value_width p k wide (Not a) h = reads_width a wide h
  value_width p k wide (Both s a b) h = ap (sign_width s) (reads_width a h.from h.left) ∙ h.width
  value_width p k wide (Choice t a b) h = reads_width a wide h.first
  value_width p k wide (Join a b) h = join_sum a b wide h

  value_widths : (p : ℕ → ℕ) (k : ℕ) (wide : ℕ) (v : Value) → ValueFine (info_among ds) wide v → widths_in ds (placed_value p k v) ≡ []
  unfolding shape-the_row-Expr-0 hidden-the_row-Expr-0 shape-the_row-Expr-1 hidden-the_row-Expr-1 hidden
  value_widths p k wide (Constant width value) h = refl
  value_widths p k wide (Copy a) h = refl
  value_widths p k wide (Bits a high low) h = refl
  value_widths p k wide (Cell a i) h = agree _ _ _ [] (reads_width i h.bits h.index ∙ sym (has_index a _ wide h.bits h.indexes.has h.indexes.index)) refl
  value_widths p k wide (Not a) h = refl
  value_widths p k wide (Both s a b) h = agree _ _ _ [] (reads_width a h.from h.left ∙ sym (reads_width b h.from h.right)) refl
  value_widths p k wide (Choice t a b) h =
      agree _ _ _ _ (reads_width t 1 h.test) (agree _ _ _ [] (reads_width a wide h.first ∙ sym (reads_width b wide h.second)) refl)
  value_widths p k wide (Join a b) h = at_most _ _ [] (let e : width_among ds a + (width_among ds b + 0) ≡ wide = join_sum a b wide h in let l : wide ≤ 64 = h.most in omega arith) refl

  -- a driver of the width on the left
  driver_widths : (p : ℕ → ℕ) (k : ℕ) (left wide : ℕ) (v : Value) → left ≡ wide → ValueFine (info_among ds) wide v → widths_at ds left (placed_driver p k v) ≡ []
  driver_widths p k left wide v e h = agree (p k) left _ _ (e ∙ sym (value_width p (suc k) wide v h)) (value_widths p (suc k) wide v h)

  line_widths : (p : ℕ → ℕ) (k : ℕ) (l : Line) → LineFine (info_among ds) l → widths_in_item ds (placed_line p k l) ≡ []
  line_widths p k (Wire width x) h = refl
  line_widths p k (Net width x v) h = driver_widths p (suc (suc (suc (suc (suc (suc (suc k))))))) _ h.wide v (has_width ds x _ h.wide h.target) h.value
  line_widths p k (Reg width x) h = refl
  line_widths p k (Array width x bits) h = refl
  line_widths p k (Assign x s) h = driver_widths p _ _ h.wide (Copy s) (has_width ds x _ h.wide h.target) h.source
  line_widths p k (Next x s) h = driver_widths p _ _ h.wide (Copy s) (has_width ds x _ h.wide h.target) h.source
  line_widths p k (Reset x width start s) h = agree _ _ width _ (has_width ds x _ width h.target) (driver_widths p _ _ width (Copy s) (has_width ds x _ width h.target) h.source)
  line_widths p k (Write e x i s) h =
      agree _ _ 1 _ (reads_width e 1 h.enable)
      (agree _ _ _ _ (reads_width i h.bits h.index ∙ sym (has_index x _ h.wide h.bits h.target h.index_bits))
      (driver_widths p _ _ h.wide (Copy s) (has_width ds x _ h.wide h.target) h.source))

  -- each line is fine
  pub lines_widths : (p : ℕ → ℕ) (k : ℕ) (ls : List Line) → Each (LineFine (info_among ds)) ls → widths_in_items ds (placed_lines p k ls) ≡ []
  lines_widths p k [] h = refl
  lines_widths p k (l ∷ ls) h = λ i. line_widths p k l h.0 i ++ lines_widths p (behind_line k l) ls h.1 i
