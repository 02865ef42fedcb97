use Rattle.std.proofs.Common.{ℕ, length, map}
use Rattle.verilog_mean.specs.Erase.{plain_tree}
use Rattle.verilog_mean.specs.Loops.{FirstLoop}
use Rattle.verilog_rules.specs.Collected.{declaration}
use Rattle.verilog_rules.specs.LoopPlace.{NoneBack}
use Rattle.verilog_rules.proofs.loops.first_back.Given as goal

-- what is said of the declarations that are left is said of all of them
abbrev pub invariant-loop-rest : goal.invariant-loop-rest
invariant-loop-rest l = (NoneBack (plain_tree l.tree) (map declaration l.rest) → NoneBack (plain_tree l.tree) (map declaration l.all))
    × ((at : ℕ) → FirstLoop (plain_tree l.tree) (map declaration l.rest) at → FirstLoop (plain_tree l.tree) (map declaration l.all) at)

abbrev pub decreases-loop-rest : goal.decreases-loop-rest
decreases-loop-rest l = length l.rest
