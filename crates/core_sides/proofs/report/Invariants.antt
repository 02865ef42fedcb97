use Rattle.std.proofs.Common.{◌<◌, ◌^◌, length}
use Rattle.core_sides.proofs.report.Given as goal

abbrev pub invariant-loop-stages : goal.invariant-loop-stages
invariant-loop-stages g l = length l.plugs.items < 2 ^ 32

abbrev pub invariant-loop-bypass : goal.invariant-loop-bypass
invariant-loop-bypass g l = length l.plugs.items < 2 ^ 32
