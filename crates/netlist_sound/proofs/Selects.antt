-- Fifth rule: fine lines select bits of names.
use Rattle.std.proofs.Common.{◌≡◌, ℕ, suc, ◌<◌, ◌≤◌, Bool, true, not, ltb, leb, ◌&&◌, ◌++◌, List, [], ◌∷◌, Option, Some, None, refl, ap, ◌∙◌, arith}
use Rattle.std.proofs.lemmas.Bool.Decides.{nat_tests}
use Rattle.verilog_tree.specs.declared.expr.Expr.TheBlock.{shape-the_row-Expr-0, hidden-the_row-Expr-0, shape-the_row-Expr-1, hidden-the_row-Expr-1}
use denote.Hole.Carrier.{hidden}
use Rattle.verilog_mean.specs.declared.refusal.MeanRefusal.TheVariants.{SelectOutside}
use Rattle.verilog_mean.specs.Look.{put_if}
use Rattle.verilog_mean.specs.Declarations.{Declaration, declaration_of, width_among, declared_width}
use Rattle.verilog_mean.specs.Widths.{selects_in, selects_in_item, selects_in_items}
use Rattle.verilog_netlist.specs.Netlist.{Value, Line}
use Rattle.verilog_netlist.specs.Netlist.Value.{Constant, Copy, Bits, Cell, Not, Both, Choice, Join}
use Rattle.verilog_netlist.specs.Netlist.Line.{Wire, Net, Reg, Array, Assign, Next, Reset, Write}
use Rattle.verilog_netlist.specs.Places.{placed_value, placed_line, behind_line, placed_lines}
use Rattle.netlist_sound.proofs.Fine.{Info, info_of, infos, info_among, Has, BitsFine, ValueFine, LineFine, Each}

declared_so : (o : Option Declaration) (i : Info) → infos o ≡ Some i → declared_width o ≡ i.width
declared_so None i h = absurd (cc)
declared_so (Some d) i h = let e : info_of d ≡ i = cc in ap (λ v. v.width) e

in_order : (high low width : ℕ) → low ≤ high → high < width → (leb low high && ltb high width) ≡ true
in_order high low width h l =
    let a : leb low high ≡ true = grind (arith, nat_tests) in
    let b : ltb high width ≡ true = grind (arith, nat_tests) in
    (λ i. a i && b i)

module _ (ds : List Declaration) where
  -- the width of a declared name
  pub has_width : (x : List ℕ) (test : Info → Bool) (wide : ℕ) → Has (info_among ds) x test wide → width_among ds x ≡ wide
  has_width x test wide h = declared_so (declaration_of ds x) h.info h.is ∙ h.width

  bits_inside : (at : ℕ) (x : List ℕ) (high low wide : ℕ) → BitsFine (info_among ds) wide x high low
      → put_if (not (leb low high && ltb high (width_among ds x))) (SelectOutside at high low (width_among ds x)) [] ≡ []
  bits_inside at x high low wide h =
      let w = width_among ds x in
      let e : w ≡ h.from = has_width x _ h.from h.selects.has in
      let l : high < w = omega (arith, h.within) in
      ap (λ v. put_if (not v) (SelectOutside at high low w) []) (in_order high low w h.order l)

  value_selects : (p : ℕ → ℕ) (k : ℕ) (wide : ℕ) (v : Value) → ValueFine (info_among ds) wide v → selects_in ds (placed_value p k v) ≡ []
  unfolding shape-the_row-Expr-0 hidden-the_row-Expr-0 shape-the_row-Expr-1 hidden-the_row-Expr-1 hidden
  value_selects p k wide (Constant width value) h = refl
  value_selects p k wide (Copy a) h = refl
  value_selects p k wide (Bits a high low) h = bits_inside (p k) a high low wide h
  value_selects p k wide (Cell a i) h = refl
  value_selects p k wide (Not a) h = refl
  value_selects p k wide (Both s a b) h = refl
  value_selects p k wide (Choice t a b) h = refl
  value_selects p k wide (Join a b) h = refl

  line_selects : (p : ℕ → ℕ) (k : ℕ) (l : Line) → LineFine (info_among ds) l → selects_in_item ds (placed_line p k l) ≡ []
  line_selects p k (Wire width x) h = refl
  line_selects p k (Net width x v) h = value_selects p (suc (suc (suc (suc (suc (suc (suc (suc k)))))))) h.wide v h.value
  line_selects p k (Reg width x) h = refl
  line_selects p k (Array width x bits) h = refl
  line_selects p k (Assign x s) h = refl
  line_selects p k (Next x s) h = refl
  line_selects p k (Reset x width start s) h = refl
  line_selects p k (Write e x i s) h = refl

  -- each line is fine
  pub lines_selects : (p : ℕ → ℕ) (k : ℕ) (ls : List Line) → Each (LineFine (info_among ds)) ls → selects_in_items ds (placed_lines p k ls) ≡ []
  lines_selects p k [] h = refl
  lines_selects p k (l ∷ ls) h = λ i. line_selects p k l h.0 i ++ lines_selects p (behind_line k l) ls h.1 i
