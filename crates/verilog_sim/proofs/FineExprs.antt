-- The expressions of a sound tree may become nodes, where each name has the place of its declaration.
use Rattle.std.proofs.Common.{◌≡◌, ℕ, ◌<◌, ◌≤◌, Bool, true, false, not, eqb, leb, ltb, ◌&&◌, List, [], Option, Some, None, is_some, refl, ap, sym, ◌∙◌, subst, arith}
use Rattle.std.proofs.lemmas.Bool.Decides.{nat_tests}
use Rattle.verilog_tree.specs.declared.expr.Ident.{Ident}
use Rattle.verilog_tree.specs.declared.expr.Pair.{Pair}
use Rattle.verilog_tree.specs.declared.expr.BinSign.{BinSign}
use Rattle.verilog_tree.specs.declared.expr.BinSign.TheVariants as sign
use Rattle.verilog_tree.specs.declared.expr.Expr as tree
use Rattle.verilog_tree.specs.declared.expr.Expr.{Cell', Paren', Not', Join', Binary', Choice', Row_of-Expr, end_of-Expr, more_of-Expr}
use Rattle.verilog_mean.specs.declared.class.Class.{Class}
use Rattle.verilog_mean.specs.declared.class.Class.TheVariants as class
use Rattle.verilog_mean.specs.declared.refusal.MeanRefusal.TheVariants.{KindDiffers, NameUnknown, SelectOutside, WidthDiffers}
use Rattle.verilog_mean.specs.Plain.{Expr, Exprs}
use Rattle.verilog_mean.specs.Plain.Expr.{Literal, Named, Select, Cell, Not, Join, Binary, Choice}
use Rattle.verilog_mean.specs.Plain.Exprs.{NoPart, Part}
use Rattle.verilog_mean.specs.Cycle.{width_of, width_of_parts, sign_width}
use Rattle.verilog_mean.specs.Look.{put_if}
use Rattle.verilog_mean.specs.Erase.{plain, plain_parts, range_width}
use Rattle.verilog_mean.specs.Bounds.{IsWritten, AreWritten, HasPart}
use Rattle.verilog_mean.specs.Declarations.{Declaration, declaration_of, declared_width, width_among}
use Rattle.verilog_mean.specs.Names.{Refusals, is_among, unknown_in, unknown_in_parts}
use Rattle.verilog_mean.specs.Kinds.{kinds_in, kinds_in_parts, is_array, declared_passes, is_clock}
use Rattle.verilog_mean.specs.Widths.{selects_in, selects_in_parts, widths_in, widths_in_parts, width, index_width_of}
use Rattle.verilog_resolve.specs.declared.names.Place.{Place}
use Rattle.verilog_resolve.specs.Names.{place_width, IsNet, IsArray}
use Rattle.verilog_resolve.specs.Fine.{IsFine, AreFine, wide, HasPart as HasOne}
use Rattle.verilog_sim.specs.Targets.{class_place, declared_place, target}
use Rattle.verilog_sim.proofs.Sound.{both_empty, put_empty, not_false, not_true, and_first, and_second}

-- ---- places by declarations

class_width : (c : Class) (w : ℕ) → place_width (class_place c w) ≡ w
class_width (class.Array cells) w = refl
class_width class.Input w = refl
class_width class.Output w = refl
class_width (class.Wired inline) w = refl
class_width class.Register w = refl

pub declared_wide : (o : Option Declaration) → place_width (declared_place o) ≡ declared_width o
declared_wide None = refl
declared_wide (Some d) = class_width d.class (range_width d.range)

class_net : (c : Class) (w : ℕ) → is_array c ≡ false → IsNet (class_place c w)
class_net (class.Array cells) w h = absurd cc
class_net class.Input w h = tt
class_net class.Output w h = tt
class_net (class.Wired inline) w h = tt
class_net class.Register w h = tt

class_cells : (c : Class) (w : ℕ) → is_array c ≡ true → IsArray (class_place c w)
class_cells (class.Array cells) w h = tt
class_cells class.Input w h = absurd cc
class_cells class.Output w h = absurd cc
class_cells (class.Wired inline) w h = absurd cc
class_cells class.Register w h = absurd cc

pub net_of : (o : Option Declaration) (p : Declaration → Bool) → is_some o ≡ true → declared_passes p o ≡ true → ((d : Declaration) → p d ≡ true → is_array d.class ≡ false) → IsNet (declared_place o)
net_of None p s h f = absurd cc
net_of (Some d) p s h f = class_net d.class (range_width d.range) (f d h)

pub cells_of : (o : Option Declaration) → is_some o ≡ true → declared_passes (λ d. is_array d.class) o ≡ true → IsArray (declared_place o)
cells_of None s h = absurd cc
cells_of (Some d) s h = class_cells d.class (range_width d.range) h

range_pos : (r : Option Pair) → 0 < range_width r
range_pos None = omega arith
range_pos (Some p) = omega arith

class_pos_net : (c : Class) (w : ℕ) → 0 < w → 0 < place_width (class_place c w)
class_pos_net c w h = subst (λ k. 0 < k) (sym (class_width c w)) h

net_pos : (o : Option Declaration) → IsNet (declared_place o) → 0 < place_width (declared_place o)
net_pos None h = absurd h
net_pos (Some d) h = class_pos_net d.class (range_width d.range) (range_pos d.range)

cells_pos : (o : Option Declaration) → IsArray (declared_place o) → 0 < place_width (declared_place o)
cells_pos None h = absurd h
cells_pos (Some d) h = class_pos_net d.class (range_width d.range) (range_pos d.range)

sign_pos : (s : BinSign) (w : ℕ) → 0 < w → 0 < sign_width s w
sign_pos sign.Or w h = h
sign_pos sign.Xor w h = h
sign_pos sign.And w h = h
sign_pos sign.Equal w h = omega arith
sign_pos sign.Less w h = omega arith
sign_pos sign.Plus w h = h
sign_pos sign.Minus w h = h

one_part : (es : Exprs) → HasPart es → HasOne es
one_part NoPart h = h
one_part (Part e es) h = tt

test_le : (a b w : ℕ) → (leb a b && ltb b w) ≡ true → a ≤ b
test_le a b w h = let q = and_first (leb a b) (ltb b w) h in grind (arith, nat_tests)

test_lt : (a b w : ℕ) → (leb a b && ltb b w) ≡ true → b < w
test_lt a b w h = let q = and_second (leb a b) (ltb b w) h in grind (arith, nat_tests)

pub wide_same : (ds : List Declaration) → ◌≡◌ {A = List ℕ → ℕ} (λ x. place_width (target ds x)) (width_among ds)
wide_same ds = λ i x. declared_wide (declaration_of ds x) i

module _ (ds : List Declaration) (narrow : (x : List ℕ) → width_among ds x ≤ 64) where
  abbrev G : List ℕ → Place
  G = target ds

  pub target_wide : ◌≡◌ {A = List ℕ → ℕ} (λ x. place_width (target ds x)) (width_among ds)
  target_wide = wide_same ds

  -- an expression has a bit
  mutual
    pub wide_pos : (e : Expr) → IsWritten e → IsFine (target ds) e → 0 < wide (target ds) e
    wide_pos (Literal w value) q f = let h = q.0 in omega (arith, h)
    wide_pos (Named x) q f = net_pos (declaration_of ds x) f
    wide_pos (Select x high low) q f = let h = f.1 in omega (arith, h)
    wide_pos (Cell x index) q f = cells_pos (declaration_of ds x) f.0
    wide_pos (Not inner) q f = wide_pos inner q f
    wide_pos (Join parts) q f = parts_pos parts q.0 q.1 f.1.0
    wide_pos (Binary s left right) q f = sign_pos s (wide (target ds) left) (wide_pos left q.0 f.0)
    wide_pos (Choice test first second) q f = wide_pos first q.1.0 f.1.0

    parts_pos : (es : Exprs) → HasPart es → AreWritten es → AreFine (target ds) es → 0 < width_of_parts (λ x. place_width (target ds x)) es
    parts_pos NoPart h q f = absurd h
    parts_pos (Part e es) h q f = let k = f.0 in omega (arith, k)

  module _ (known : List (List ℕ)) (declared : (x : List ℕ) → is_among x known ≡ true → is_some (declaration_of ds x) ≡ true) where
    found : (i : Ident) (rest : Refusals) → put_if (not (is_among i.text known)) (NameUnknown i.at) rest ≡ [] → is_some (declaration_of ds i.text) ≡ true
    found i rest h = declared i.text (not_false (is_among i.text known) (put_empty (not (is_among i.text known)) (NameUnknown i.at) rest h).0)

    -- a name that passes a test
    passed : (t : Declaration → Bool) (i : Ident) (rest : Refusals) → put_if (not (not (is_clock ds i) && declared_passes t (declaration_of ds i.text))) (KindDiffers i.at) rest ≡ []
        → declared_passes t (declaration_of ds i.text) ≡ true
    passed t i rest h =
        let b = not (is_clock ds i) && declared_passes t (declaration_of ds i.text) in
        and_second (not (is_clock ds i)) (declared_passes t (declaration_of ds i.text)) (not_false b (put_empty (not b) (KindDiffers i.at) rest h).0)

    read_ok : (i : Ident) → put_if (not (is_among i.text known)) (NameUnknown i.at) [] ≡ []
        → put_if (not (not (is_clock ds i) && declared_passes (λ d. not (is_array d.class)) (declaration_of ds i.text))) (KindDiffers i.at) [] ≡ [] → IsNet (target ds i.text)
    read_ok i u k = net_of (declaration_of ds i.text) (λ d. not (is_array d.class)) (found i [] u) (passed (λ d. not (is_array d.class)) i [] k) (λ d q. not_true (is_array d.class) q)

    select_ok : (i : Ident) (high low : ℕ) → put_if (not (is_among i.text known)) (NameUnknown i.at) [] ≡ []
        → put_if (not (not (is_clock ds i) && declared_passes (λ d. not (is_array d.class) && is_some d.range) (declaration_of ds i.text))) (KindDiffers i.at) [] ≡ []
        → put_if (not (leb low high && ltb high (width_among ds i.text))) (SelectOutside i.at high low (width_among ds i.text)) [] ≡ []
        → IsNet (target ds i.text) × (low ≤ high) × (high < 64)
    select_ok i high low u k s =
        let b = leb low high && ltb high (width_among ds i.text) in
        let t = not_false b (put_empty (not b) (SelectOutside i.at high low (width_among ds i.text)) [] s).0 in
        let n = narrow i.text in
        let l = test_lt low high (width_among ds i.text) t in (
          net_of (declaration_of ds i.text) (λ d. not (is_array d.class) && is_some d.range) (found i [] u) (passed (λ d. not (is_array d.class) && is_some d.range) i [] k)
              (λ d q. not_true (is_array d.class) (and_first (not (is_array d.class)) (is_some d.range) q)),
          test_le low high (width_among ds i.text) t,
          omega (arith, n, l),
        )

    same_wide : (a b : Expr) (at : ℕ) (rest : Refusals) → put_if (not (eqb (width_of (width_among ds) a) (width_of (width_among ds) b))) (WidthDiffers at (width_of (width_among ds) a) (width_of (width_among ds) b)) rest ≡ []
        → (wide (target ds) a ≡ wide (target ds) b) × (rest ≡ [])
    same_wide a b at rest h =
        let u = width_of (width_among ds) a in let v = width_of (width_among ds) b in
        let p = put_empty (not (eqb u v)) (WidthDiffers at u v) rest h in
        let q : eqb u v ≡ true = not_false (eqb u v) p.0 in
        let e : u ≡ v = grind (arith, nat_tests) in
        (ap (λ w. width_of w a) target_wide ∙ e ∙ sym (ap (λ w. width_of w b) target_wide), p.1)

    mutual
      pub fine_expr : (e : tree.Expr) → unknown_in known e ≡ [] → kinds_in ds e ≡ [] → selects_in ds e ≡ [] → widths_in ds e ≡ [] → IsWritten (plain e) → IsFine (target ds) (plain e)
      fine_expr (tree.Literal l) u k s w q = (q.1.0, q.1.1)
      fine_expr (tree.Named i) u k s w q = read_ok i u k
      fine_expr (tree.Select i bits) u k s w q = select_ok i bits.first.value bits.second.value u k s
      fine_expr (Cell' i at t (more_of-Expr index end_of-Expr)) u k s w q =
          let pu = put_empty (not (is_among i.text known)) (NameUnknown i.at) (unknown_in known index) u in
          let b = not (is_clock ds i) && declared_passes (λ d. is_array d.class) (declaration_of ds i.text) in
          let pk = put_empty (not b) (KindDiffers i.at) (kinds_in ds index) k in
          let pw = put_empty (not (eqb (width ds index) (index_width_of ds i))) (WidthDiffers at (width ds index) (index_width_of ds i)) (widths_in ds index) w in
          (cells_of (declaration_of ds i.text) (found i (unknown_in known index) u) (passed (λ d. is_array d.class) i (kinds_in ds index) k), fine_expr index pu.1 pk.1 s pw.1 q)
      fine_expr (Paren' at t (more_of-Expr inner end_of-Expr)) u k s w q = fine_expr inner u k s w q
      fine_expr (Not' at t (more_of-Expr inner end_of-Expr)) u k s w q = fine_expr inner u k s w q
      fine_expr (Join' at t parts) u k s w q =
          let sum = width_of_parts (width_among ds) (plain_parts parts) in
          let p = put_empty (not (leb sum 64)) (WidthDiffers at sum 64) (widths_in_parts ds parts) w in
          let b : leb sum 64 ≡ true = not_false (leb sum 64) p.0 in
          let l : sum ≤ 64 = grind (arith, nat_tests) in
          (one_part (plain_parts parts) q.0, (fine_parts parts u k s p.1 q.1, subst (λ w. width_of_parts w (plain_parts parts) ≤ 64) (sym target_wide) l))
      fine_expr (Binary' sign at t (more_of-Expr left end_of-Expr) t' (more_of-Expr right end_of-Expr)) u k s w q =
          let pu = both_empty (unknown_in known left) (unknown_in known right) u in
          let pk = both_empty (kinds_in ds left) (kinds_in ds right) k in
          let ps = both_empty (selects_in ds left) (selects_in ds right) s in
          let pw = both_empty (widths_in ds left) _ w in
          let e = same_wide (plain left) (plain right) at (widths_in ds right) pw.1 in
          (fine_expr left pu.0 pk.0 ps.0 pw.0 q.0, (fine_expr right pu.1 pk.1 ps.1 e.1 q.1, e.0))
      fine_expr (Choice' at at' t (more_of-Expr test end_of-Expr) t' (more_of-Expr first end_of-Expr) t'' (more_of-Expr second end_of-Expr)) u k s w q =
          let pu = both_empty (unknown_in known test) _ u in let pv = both_empty (unknown_in known first) (unknown_in known second) pu.1 in
          let pk = both_empty (kinds_in ds test) _ k in let pl = both_empty (kinds_in ds first) (kinds_in ds second) pk.1 in
          let ps = both_empty (selects_in ds test) _ s in let pt = both_empty (selects_in ds first) (selects_in ds second) ps.1 in
          let pw = both_empty (widths_in ds test) _ w in
          let px = put_empty (not (eqb (width ds test) 1)) (WidthDiffers at (width ds test) 1) _ pw.1 in
          let py = both_empty (widths_in ds first) _ px.1 in
          let e = same_wide (plain first) (plain second) at' (widths_in ds second) py.1 in
          (fine_expr test pu.0 pk.0 ps.0 pw.0 q.0, (fine_expr first pv.0 pl.0 pt.0 py.0 q.1.0, (fine_expr second pv.1 pl.1 pt.1 e.1 q.1.1, e.0)))

      fine_parts : {n : _} (es : Row_of-Expr n) → unknown_in_parts known es ≡ [] → kinds_in_parts ds es ≡ [] → selects_in_parts ds es ≡ [] → widths_in_parts ds es ≡ [] → AreWritten (plain_parts es) → AreFine (target ds) (plain_parts es)
      fine_parts end_of-Expr u k s w q = tt
      fine_parts (more_of-Expr e rest) u k s w q =
          let pu = both_empty (unknown_in known e) (unknown_in_parts known rest) u in
          let pk = both_empty (kinds_in ds e) (kinds_in_parts ds rest) k in
          let ps = both_empty (selects_in ds e) (selects_in_parts ds rest) s in
          let pw = both_empty (widths_in ds e) (widths_in_parts ds rest) w in
          let f = fine_expr e pu.0 pk.0 ps.0 pw.0 q.0 in
          (wide_pos (plain e) q.0 f, (f, fine_parts rest pu.1 pk.1 ps.1 pw.1 q.1))
