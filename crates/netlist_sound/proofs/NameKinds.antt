-- Fourth rule: fine lines use names as what they are.
use Rattle.std.proofs.Common.{◌≡◌, ℕ, suc, Bool, true, false, not, ◌&&◌, ◌++◌, List, [], ◌∷◌, Option, Some, None, refl, ap, ◌∙◌}
use Rattle.std.specs.Prelude.{codes, is_some}
use Rattle.std.proofs.lemmas.Cmp.{nat_list_eq_equiv}
use Rattle.core_words.specs.Names.{same_name}
use Rattle.verilog_tree.specs.declared.expr.Ident.{Ident}
use Rattle.verilog_tree.specs.declared.expr.Expr.TheBlock.{shape-the_row-Expr-0, hidden-the_row-Expr-0, shape-the_row-Expr-1, hidden-the_row-Expr-1}
use denote.Hole.Carrier.{hidden}
use Rattle.verilog_mean.specs.declared.refusal.MeanRefusal.TheVariants.{KindDiffers}
use Rattle.verilog_mean.specs.Look.{put_if}
use Rattle.verilog_mean.specs.Names.{Refusals}
use Rattle.verilog_mean.specs.Kinds.{is_array, is_register, is_assignable, declared_passes, passes, is_clock, may_be_read, may_be_selected, may_be_indexed, unless, kinds_in, kinds_in_item, kinds_in_items}
use Rattle.verilog_mean.specs.Declarations.{Declaration, declaration_of}
use Rattle.verilog_netlist.specs.Netlist.{Value, Line}
use Rattle.verilog_netlist.specs.Netlist.Value.{Constant, Copy, Bits, Cell, Not, Both, Choice, Join}
use Rattle.verilog_netlist.specs.Netlist.Line.{Wire, Net, Reg, Array, Assign, Next, Reset, Write}
use Rattle.verilog_netlist.specs.Places.{named, word, placed_value, placed_line, behind_line, placed_lines}
use Rattle.netlist_sound.proofs.Fine.{Info, info_of, infos, info_among, Has, Reads, Selects, Indexes, ValueFine, LineFine, Each, none}

passes_so : (test : Declaration → Bool) (seen : Info → Bool) → ((d : Declaration) → test d ≡ seen (info_of d)) → (o : Option Declaration) (i : Info)
    → infos o ≡ Some i → seen i ≡ true → declared_passes test o ≡ true
passes_so test seen same None i h t = refl
passes_so test seen same (Some d) i h t = let e : info_of d ≡ i = cc in same d ∙ ap seen e ∙ t

both : (a b : Bool) → a ≡ false → b ≡ true → (not a && b) ≡ true
both a b h k = (λ i. not (h i) && (k i))

module _ (ds : List Declaration) where
  unless_true : (test : Bool) (i : Ident) (rest : Refusals) → test ≡ true → unless ds test i rest ≡ rest
  unless_true test i rest h = ap (λ v. put_if (not v) (KindDiffers i.at) rest) h

  has_passes : (test : Declaration → Bool) (seen : Info → Bool) → ((d : Declaration) → test d ≡ seen (info_of d)) → (x : List ℕ) (wide : ℕ)
      → Has (info_among ds) x seen wide → declared_passes test (declaration_of ds x) ≡ true
  has_passes test seen same x wide h = passes_so test seen same (declaration_of ds x) h.info h.is h.passes

  -- a name in an expression passes a test
  taken : (test : Declaration → Bool) (seen : Info → Bool) → ((d : Declaration) → test d ≡ seen (info_of d)) → (at : ℕ) (x : List ℕ) (wide : ℕ) (rest : Refusals)
      → same_name x (codes "clk") ≡ false → Has (info_among ds) x seen wide → unless ds (not (is_clock ds (named at x)) && passes ds test (named at x)) (named at x) rest ≡ rest
  taken test seen same at x wide rest clock h =
      unless_true (not (is_clock ds (named at x)) && passes ds test (named at x)) (named at x) rest
      (both (same_name x (codes "clk")) (passes ds test (named at x)) clock (has_passes test seen same x wide h))

  read : (at : ℕ) (x : List ℕ) (wide : ℕ) (rest : Refusals) → Reads (info_among ds) x wide → unless ds (may_be_read ds (named at x)) (named at x) rest ≡ rest
  read at x wide rest h = taken (λ d. not (is_array d.class)) (λ i. not i.array) (λ d. refl) at x wide rest h.clock h.has

  selected : (at : ℕ) (x : List ℕ) (wide : ℕ) (rest : Refusals) → Selects (info_among ds) x wide → unless ds (may_be_selected ds (named at x)) (named at x) rest ≡ rest
  selected at x wide rest h = taken (λ d. not (is_array d.class) && is_some d.range) (λ i. not i.array && i.ranged) (λ d. refl) at x wide rest h.clock h.has

  indexed : (at : ℕ) (x : List ℕ) (wide bits : ℕ) (rest : Refusals) → Indexes (info_among ds) x wide bits → unless ds (may_be_indexed ds (named at x)) (named at x) rest ≡ rest
  indexed at x wide bits rest h = taken (λ d. is_array d.class) (λ i. i.array) (λ d. refl) at x wide rest h.clock h.has

  word_kind : (at : ℕ) (x : List ℕ) (wide : ℕ) → Reads (info_among ds) x wide → kinds_in ds (word at x) ≡ []
  word_kind at x wide h = read at x wide [] h

  value_kinds : (p : ℕ → ℕ) (k : ℕ) (wide : ℕ) (v : Value) → ValueFine (info_among ds) wide v → kinds_in ds (placed_value p k v) ≡ []
  unfolding shape-the_row-Expr-0 hidden-the_row-Expr-0 shape-the_row-Expr-1 hidden-the_row-Expr-1 hidden
  value_kinds p k wide (Constant width value) h = refl
  value_kinds p k wide (Copy a) h = word_kind (p k) a wide h
  value_kinds p k wide (Bits a high low) h = selected (p k) a h.from [] h.selects
  value_kinds p k wide (Cell a i) h = ap (λ r. unless ds (may_be_indexed ds (named (p k) a)) (named (p k) a) r) (word_kind (p (suc (suc k))) i h.bits h.index) ∙ indexed (p k) a wide h.bits [] h.indexes
  value_kinds p k wide (Not a) h = word_kind (p (suc k)) a wide h
  value_kinds p k wide (Both s a b) h = λ i. word_kind (p k) a h.from h.left i ++ word_kind (p (suc (suc k))) b h.from h.right i
  value_kinds p k wide (Choice t a b) h = λ i. word_kind (p k) t 1 h.test i ++ (word_kind (p (suc (suc k))) a wide h.first i ++ word_kind (p (suc (suc (suc (suc k))))) b wide h.second i)
  value_kinds p k wide (Join a b) h = λ i. word_kind (p (suc k)) a h.high h.first i ++ (word_kind (p (suc (suc (suc k)))) b h.low h.second i ++ [])

  -- what is assigned, and what stands behind it
  aimed : (at : ℕ) (x : List ℕ) (wide : ℕ) (test : Declaration → Bool) (seen : Info → Bool) → ((d : Declaration) → test d ≡ seen (info_of d))
      → Has (info_among ds) x seen wide → (rest : Refusals) → rest ≡ [] → unless ds (passes ds test (named at x)) (named at x) rest ≡ []
  aimed at x wide test seen same h rest e = unless_true (passes ds test (named at x)) (named at x) rest (has_passes test seen same x wide h) ∙ e

  again : (at at' : ℕ) (x : List ℕ) (wide : ℕ) → Has (info_among ds) x (λ i. i.register) wide → (rest : Refusals) → rest ≡ []
      → unless ds (passes ds (λ c. is_register c.class) (named at x)) (named at x) (unless ds (passes ds (λ c. is_register c.class) (named at' x) && same_name x x) (named at' x) rest) ≡ []
  again at at' x wide h rest e =
      aimed at x wide (λ c. is_register c.class) (λ i. i.register) (λ d. refl) h (unless ds (passes ds (λ c. is_register c.class) (named at' x) && same_name x x) (named at' x) rest)
      (unless_true (passes ds (λ c. is_register c.class) (named at' x) && same_name x x) (named at' x) rest
      (λ i. has_passes (λ c. is_register c.class) (λ i. i.register) (λ d. refl) x wide h i && nat_list_eq_equiv.refl x i) ∙ e)

  line_kinds : (p : ℕ → ℕ) (k : ℕ) (l : Line) → LineFine (info_among ds) l → kinds_in_item ds (placed_line p k l) ≡ []
  line_kinds p k (Wire width x) h = refl
  line_kinds p k (Net width x v) h = value_kinds p (suc (suc (suc (suc (suc (suc (suc (suc k)))))))) h.wide v h.value
  line_kinds p k (Reg width x) h = refl
  line_kinds p k (Array width x bits) h = refl
  line_kinds p k (Assign x s) h = aimed _ x h.wide (λ c. is_assignable c.class) (λ i. i.assignable) (λ d. refl) h.target _ (word_kind _ s h.wide h.source)
  line_kinds p k (Next x s) h = aimed _ x h.wide (λ c. is_register c.class) (λ i. i.register) (λ d. refl) h.target _ (word_kind _ s h.wide h.source)
  line_kinds p k (Reset x width start s) h = again _ _ x width h.target _ (word_kind _ s width h.source)
  line_kinds p k (Write e x i s) h =
      none _ _ (word_kind _ e 1 h.enable)
      (aimed _ x h.wide (λ c. is_array c.class) (λ i. i.array) (λ d. refl) h.target _ (none _ _ (word_kind _ i h.bits h.index) (word_kind _ s h.wide h.source)))

  -- each line is fine
  pub lines_kinds : (p : ℕ → ℕ) (k : ℕ) (ls : List Line) → Each (LineFine (info_among ds)) ls → kinds_in_items ds (placed_lines p k ls) ≡ []
  lines_kinds p k [] h = refl
  lines_kinds p k (l ∷ ls) h = λ i. line_kinds p k l h.0 i ++ lines_kinds p (behind_line k l) ls h.1 i
