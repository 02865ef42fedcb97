-- The refusals of a tree by the nine rules of soundness.
use Rattle.std.specs.Prelude.{◌≡◌, ◌⊎◌, [], ◌++◌}
use Rattle.verilog_tree.specs.declared.tree.Tree.{Tree}
use Rattle.verilog_mean.specs.Names.{Refusals, names_twice, bad_sizes, names_unknown}
use Rattle.verilog_mean.specs.Kinds.{kinds_differ}
use Rattle.verilog_mean.specs.Widths.{selects_outside, widths_differ}
use Rattle.verilog_mean.specs.Drivers.{drivers_twice, drivers_missing}
use Rattle.verilog_mean.specs.declared.refusal.MeanRefusal.{MeanRefusal}
use Rattle.verilog_rules.specs.First.{Refuses}
use Rattle.verilog_rules.specs.LoopPlace.{IsLoop}

-- those of the first eight rules, each rule's behind those of the rules before it
unfoldable pub refusals : Tree → Refusals
refusals t = names_twice t ++ (bad_sizes t ++ (names_unknown t ++ (kinds_differ t ++ (selects_outside t ++ (widths_differ t ++ (drivers_twice t ++ drivers_missing t))))))

-- memory ran out, or this is the first refusal of the first rule that has one
abbrev pub IsFirstRefusal : Tree → MeanRefusal → Type 0
IsFirstRefusal t r = Refuses r (refusals t) ⊎ ((refusals t ≡ []) × IsLoop t r)
