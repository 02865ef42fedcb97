use Rattle.std.proofs.Common.{◌∙◌, subst}
use Rattle.verilog_mean.specs.Erase.{plain_tree}
use Rattle.verilog_rules.specs.Collected.{declaration}
use Rattle.verilog_rules.specs.LoopPlace.{NoneBack}
use Rattle.verilog_rules.proofs.LoopPlaces.{some_back}
use Rattle.std.proofs.Common.{ap, map}
use Rattle.verilog_rules.proofs.loops.loop_of.Goals as goal

pub unreachable-requires : goal.unreachable-requires
unreachable-requires c =
    let none = rw c.in-None.is at c.in_ok-at.ensures in
    some_back c.args.tree.now c.args.edges.now c.requires.known c.requires.graph c.requires.looped
    (subst (NoneBack (plain_tree c.args.tree.now)) (ap (map declaration) c.as_slice-2.ensures.value ∙ c.in_ok-all.ensures) none)
