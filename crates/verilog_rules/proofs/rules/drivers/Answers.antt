use Rattle.std.proofs.Common.{◌≡◌, ◌++◌, ◌∙◌, sym, ap, inr, map, [], List, ℕ}
use Rattle.verilog_tree.specs.declared.tree.Item.{Item}
use Rattle.verilog_rules.specs.Collected.{declaration}
use Rattle.verilog_mean.specs.Drivers.{drivers_twice, drivers_missing, driven_again, undriven, targets, texts_of}
use Rattle.verilog_mean.specs.Declarations.{Declaration}
use Rattle.verilog_rules.specs.SameNames.{SameNames}
use Rattle.verilog_rules.proofs.KnownItems.{none_is}
use Rattle.verilog_mean.specs.Names.{Refusals}
use Rattle.verilog_rules.specs.First.{first}
use Rattle.verilog_rules.proofs.First.{undriven_same}
use Rattle.verilog_rules.proofs.rules.drivers.Goals as goal

-- the names that the loop has seen are the ones of the tree
missing_is : (tree items : List Item) (driven : List (List ℕ)) (ds all : List Declaration) → items ≡ tree → ds ≡ all → SameNames driven (texts_of (targets items))
    → undriven driven ds ≡ undriven (texts_of (targets tree)) all
missing_is tree items driven ds all same e names =
    undriven_same driven (texts_of (targets items)) names ds ∙ (λ i. undriven (texts_of (targets (same i))) (e i))

pub returns-in-Some-clause-refused : goal.returns-in-Some-clause-refused
returns-in-Some-clause-refused c =
    let same : c.as_slice.result.now ≡ c.args.tree.now.items = c.as_slice.ensures.value ∙ c.items.ensures in
    let once : drivers_twice c.args.tree.now ≡ [] = ap (λ (is : List Item). driven_again [] (targets is)) (sym same) ∙ c.in-Ok.ensures.sound in
    inr (ap (λ (rs : Refusals). first (rs ++ drivers_missing c.args.tree.now)) once
    ∙ ap first (sym (missing_is c.args.tree.now.items c.as_slice.result.now c.in-Ok.driven (map declaration c.args.all.now) _ same c.requires c.in-Ok.ensures.names))
    ∙ sym c.in-Some.ensures)

pub returns-clause-driven : goal.returns-clause-driven
returns-clause-driven c =
    let same : c.as_slice.result.now ≡ c.args.tree.now.items = c.as_slice.ensures.value ∙ c.items.ensures in
    sym (missing_is c.args.tree.now.items c.as_slice.result.now c.in-Ok.driven (map declaration c.args.all.now) _ same c.requires c.in-Ok.ensures.names)
    ∙ none_is _ c.in-None.ensures
