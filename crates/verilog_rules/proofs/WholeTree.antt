-- The rules over a whole tree.
use Rattle.std.proofs.Common.{◌≡◌, ℕ, ◌+◌, ◌≤◌, Bool, true, false, not, eqb, leb, List, [], ◌∷◌, ◌++◌, ◌∙◌, refl, ap, Option, Some, None, arith}
use Rattle.std.proofs.lemmas.Bool.Decides.{nat_tests}
use Rattle.core_words.specs.Names.{same_name}
use Rattle.verilog_tree.specs.declared.expr.Pair.{Pair}
use Rattle.verilog_tree.specs.declared.tree.Item.{Item}
use Rattle.verilog_mean.specs.declared.refusal.MeanRefusal.{MeanRefusal}
use Rattle.verilog_mean.specs.declared.refusal.MeanRefusal.TheVariants.{BadSize}
use Rattle.verilog_mean.specs.declared.class.Class.{Class}
use Rattle.verilog_mean.specs.declared.class.Class.TheVariants.{Input, Output, Wired, Register, Array}
use Rattle.verilog_mean.specs.Look.{put_if, pick_if}
use Rattle.verilog_mean.specs.Erase.{range_width}
use Rattle.verilog_mean.specs.Declarations.{Declaration, declaration_of, declared_width, width_among, index_width}
use Rattle.verilog_mean.specs.Names.{bad_range, bad_cells, bad_sizes_in, Refusals}
use Rattle.verilog_mean.specs.Kinds.{kinds_in_items}
use Rattle.verilog_mean.specs.Widths.{selects_in_items, widths_in_items}
use Rattle.verilog_rules.specs.Narrow.{IsNarrow}
use Rattle.verilog_rules.specs.Shut.{kinds_by_item, selects_by_item, widths_by_item}
use Rattle.verilog_rules.specs.First.{in_each}

pub kinds_whole : (ds : List Declaration) (is : List Item) → in_each (kinds_by_item ds) is ≡ kinds_in_items ds is
unfolding kinds_by_item
kinds_whole ds [] = refl
kinds_whole ds (i ∷ is) = ap (λ rs. kinds_by_item ds i ++ rs) (kinds_whole ds is)

pub selects_whole : (ds : List Declaration) (is : List Item) → in_each (selects_by_item ds) is ≡ selects_in_items ds is
unfolding selects_by_item
selects_whole ds [] = refl
selects_whole ds (i ∷ is) = ap (λ rs. selects_by_item ds i ++ rs) (selects_whole ds is)

pub widths_whole : (ds : List Declaration) (is : List Item) → in_each (widths_by_item ds) is ≡ widths_in_items ds is
unfolding widths_by_item
widths_whole ds [] = refl
widths_whole ds (i ∷ is) = ap (λ rs. widths_by_item ds i ++ rs) (widths_whole ds is)

two_ok : (a b : Bool) (r s : MeanRefusal) (rest : Refusals) → put_if (not a) r (put_if b s rest) ≡ [] → (a ≡ true) × (rest ≡ [])
two_ok false b r s rest h = cc
two_ok true true r s rest h = cc
two_ok true false r s rest h = (refl, h)

at_most : (n : ℕ) → leb n 63 ≡ true → n + 1 ≤ 64
at_most n h = grind (arith, nat_tests)

range_ok : (range : Option Pair) (rest : Refusals) → bad_range range rest ≡ [] → (range_width range ≤ 64) × (rest ≡ [])
range_ok None rest h = (omega arith, h)
range_ok (Some p) rest h =
    let k = two_ok (leb p.first.value 63) (not (eqb p.second.value 0)) (BadSize p.first.at p.first.value) (BadSize p.second.at p.second.value) rest h in
    (at_most p.first.value k.0, k.1)

cells_ok : (class : Class) (rest : Refusals) → bad_cells class rest ≡ [] → rest ≡ []
cells_ok (Array p) rest h =
    let k = two_ok (eqb p.first.value 0) (eqb (index_width p.second.value) 0) (BadSize p.first.at p.first.value) (BadSize p.second.at p.second.value) rest h in k.1
cells_ok Input rest h = h
cells_ok Output rest h = h
cells_ok (Wired inline) rest h = h
cells_ok Register rest h = h

pick_ok : (b : Bool) (d : Declaration) (o : Option Declaration) → range_width d.range ≤ 64 → declared_width o ≤ 64 → declared_width (pick_if b d o) ≤ 64
pick_ok true d o h k = h
pick_ok false d o h k = k

narrow_among : (ds : List Declaration) → bad_sizes_in ds ≡ [] → (x : List ℕ) → width_among ds x ≤ 64
narrow_among [] h x = omega arith
narrow_among (d ∷ ds) h x =
    let r = range_ok d.range (bad_cells d.class (bad_sizes_in ds)) h in
    pick_ok (same_name d.name.text x) d (declaration_of ds x) r.0 (narrow_among ds (cells_ok d.class (bad_sizes_in ds) r.1) x)

pub small : (ds es : List Declaration) → es ≡ ds → bad_sizes_in ds ≡ [] → IsNarrow es
small ds es e h = record { narrow = λ x. narrow_among es (ap bad_sizes_in e ∙ h) x }
