use Rattle.std.proofs.Common.{◌≡◌, [], ◌++◌, drop}
use Rattle.verilog_mean.specs.Drivers.{driven_again, targets, texts_of}
use Rattle.verilog_rules.specs.SameNames.{SameNames}
use Rattle.verilog_rules.proofs.drivers.driven_of.Given as goal

abbrev pub invariant-loop-item : goal.invariant-loop-item
invariant-loop-item l = (driven_again l.names (targets (drop l.item-index l.items)) ≡ driven_again [] (targets l.items)) × SameNames (l.names ++ texts_of (targets (drop l.item-index l.items))) (texts_of (targets l.items))
