-- How many outputs have a driver.
use Rattle.std.proofs.Common.{◌≤◌, List, [], ◌∷◌, length, Option, Some, None, arith}
use Rattle.hw_expr.specs.declared.net.Net.{Net}
use Rattle.module_netlist.specs.Written.{out_count}

pub out_few : (outs : List (Option Net)) → out_count outs ≤ length outs
out_few [] = omega arith
out_few (None ∷ rest) = omega (arith, out_few rest)
out_few (Some net ∷ rest) = omega (arith, out_few rest)
