-- What each rule of soundness says of the names and the items of a tree.
use Rattle.std.proofs.Common.{◌≡◌, ℕ, ◌+◌, ◌≤◌, Bool, true, false, not, eqb, leb, ◌&&◌, List, [], ◌∷◌, ◌++◌, Option, Some, None, refl, arith}
use Rattle.std.proofs.lemmas.Bool.Decides.{nat_tests}
use Rattle.core_words.specs.Names.{same_name}
use Rattle.verilog_tree.specs.declared.expr.Ident.{Ident}
use Rattle.verilog_tree.specs.declared.expr.Pair.{Pair}
use Rattle.verilog_tree.specs.declared.tree.Item as tree
use Rattle.verilog_mean.specs.declared.class.Class.{Class}
use Rattle.verilog_mean.specs.declared.class.Class.TheVariants.{Input, Output, Wired, Register, Array}
use Rattle.verilog_mean.specs.declared.refusal.MeanRefusal.{MeanRefusal}
use Rattle.verilog_mean.specs.declared.refusal.MeanRefusal.TheVariants.{NameTwice, DriverTwice, BadSize}
use Rattle.verilog_mean.specs.Look.{look, put, put_if, pick_if}
use Rattle.verilog_mean.specs.Erase.{range_width}
use Rattle.verilog_mean.specs.Declarations.{Declaration, by_name, declaration_of, declared_width, width_among, index_width}
use Rattle.verilog_mean.specs.Names.{Refusals, is_among, repeated, bad_range, bad_cells, bad_sizes_in}
use Rattle.verilog_mean.specs.Drivers.{driven_again, item_target, targets}
use Rattle.verilog_sim.proofs.Once.{AreNew, IsNew, AllFind, GivesOwn, after, once_found}

-- ---- empty lists of refusals

pub both_empty : (a b : Refusals) → a ++ b ≡ [] → (a ≡ []) × (b ≡ [])
both_empty [] b h = (refl, h)
both_empty (x ∷ a) b h = absurd cc

pub put_empty : (b : Bool) (r : MeanRefusal) (rest : Refusals) → put_if b r rest ≡ [] → (b ≡ false) × (rest ≡ [])
put_empty true r rest h = absurd cc
put_empty false r rest h = (refl, h)

pub not_false : (b : Bool) → not b ≡ false → b ≡ true
not_false true h = refl
not_false false h = cc

pub and_first : (a b : Bool) → (a && b) ≡ true → a ≡ true
and_first true b h = refl
and_first false b h = cc

pub and_second : (a b : Bool) → (a && b) ≡ true → b ≡ true
and_second true b h = h
and_second false b h = cc

pub not_true : (b : Bool) → not b ≡ true → b ≡ false
not_true true h = cc
not_true false h = refl

-- ---- names are declared once

pub declared_name : Declaration → Option (List ℕ)
declared_name d = Some d.name.text

declared_new : (seen : List (List ℕ)) (ds : List Declaration) → repeated seen ds ≡ [] → AreNew (λ d. Some d.name.text) seen ds
declared_new seen [] h = tt
declared_new seen (d ∷ ds) h =
    let p = put_empty (is_among d.name.text seen) (NameTwice d.name.at) (repeated (d.name.text ∷ seen) ds) h in (p.0, declared_new (d.name.text ∷ seen) ds p.1)

-- each declaration is the one of its name
pub each_declared : (ds : List Declaration) → repeated [] ds ≡ [] → AllFind (declaration_of ds) by_name ds
each_declared ds h = once_found (λ d. Some d.name.text) by_name (λ d. refl) ds (declared_new [] ds h)

-- ---- names are driven once

abbrev pub text_in : Option Ident → Option (List ℕ)
text_in None = None
text_in (Some i) = Some i.text

target_step : (seen : List (List ℕ)) (items : List tree.Item) (o : Option Ident)
    → ((s : List (List ℕ)) → driven_again s (targets items) ≡ [] → AreNew (λ i. text_in (item_target i)) s items)
    → driven_again seen (put o (targets items)) ≡ [] → IsNew seen (text_in o) × AreNew (λ i. text_in (item_target i)) (after seen (text_in o)) items
target_step seen items None rest h = (tt, rest seen h)
target_step seen items (Some t) rest h =
    let p = put_empty (is_among t.text seen) (DriverTwice t.at) (driven_again (t.text ∷ seen) (targets items)) h in (p.0, rest (t.text ∷ seen) p.1)

pub target_new : (seen : List (List ℕ)) (items : List tree.Item) → driven_again seen (targets items) ≡ [] → AreNew (λ i. text_in (item_target i)) seen items
target_new seen [] h = tt
target_new seen (i ∷ items) h = target_step seen items (item_target i) (λ s k. target_new s items k) h

pub each_driven : {B : Type 0} (gives : tree.Item → Option (List ℕ × B)) → ((i : tree.Item) → GivesOwn (text_in (item_target i)) (gives i)) → (items : List tree.Item)
    → driven_again [] (targets items) ≡ [] → AllFind (look gives items) gives items
each_driven gives own items h = once_found (λ i. text_in (item_target i)) gives own items (target_new [] items h)

-- ---- sizes

two_ok : (a b : Bool) (r s : MeanRefusal) (rest : Refusals) → put_if (not a) r (put_if b s rest) ≡ [] → (a ≡ true) × (rest ≡ [])
two_ok a b r s rest h = let p = put_empty (not a) r (put_if b s rest) h in let q = put_empty b s rest p.1 in (not_false a p.0, q.1)

at_most : (n : ℕ) → leb n 63 ≡ true → n + 1 ≤ 64
at_most n h = grind (arith, nat_tests)

pub range_ok : (range : Option Pair) (rest : Refusals) → bad_range range rest ≡ [] → (range_width range ≤ 64) × (rest ≡ [])
range_ok None rest h = (omega arith, h)
range_ok (Some p) rest h =
    let k = two_ok (leb p.first.value 63) (not (eqb p.second.value 0)) (BadSize p.first.at p.first.value) (BadSize p.second.at p.second.value) rest h in
    (at_most p.first.value k.0, k.1)

pub cells_ok : (class : Class) (rest : Refusals) → bad_cells class rest ≡ [] → rest ≡ []
cells_ok (Array p) rest h =
    let k = two_ok (eqb p.first.value 0) (eqb (index_width p.second.value) 0) (BadSize p.first.at p.first.value) (BadSize p.second.at p.second.value) rest h in k.1
cells_ok Input rest h = h
cells_ok Output rest h = h
cells_ok (Wired inline) rest h = h
cells_ok Register rest h = h

pick_ok : (b : Bool) (d : Declaration) (o : Option Declaration) → range_width d.range ≤ 64 → declared_width o ≤ 64 → declared_width (pick_if b d o) ≤ 64
pick_ok true d o h k = h
pick_ok false d o h k = k

pub narrow_among : (ds : List Declaration) → bad_sizes_in ds ≡ [] → (x : List ℕ) → width_among ds x ≤ 64
narrow_among [] h x = omega arith
narrow_among (d ∷ ds) h x =
    let r = range_ok d.range (bad_cells d.class (bad_sizes_in ds)) h in
    pick_ok (same_name d.name.text x) d (declaration_of ds x) r.0 (narrow_among ds (cells_ok d.class (bad_sizes_in ds) r.1) x)
