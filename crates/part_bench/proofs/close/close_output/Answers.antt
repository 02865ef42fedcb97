use Rattle.std.proofs.Common.{length, ap}
use Rattle.hw_module.specs.Scope.{scope_of}
use Rattle.hw_module.proofs.Scopes.{fits_of}
use Rattle.part_bench.proofs.Steps.{behind, grown, more_nodes}
use Rattle.part_bench.proofs.close.close_output.Goals as goal

pub output-requires-clause-fits : goal.output-requires-clause-fits
output-requires-clause-fits c = fits_of _ _ _ (c.lit-zero.ensures.scope (scope_of c.args.m.now))

pub returns : goal.returns
returns c =
    let a = more_nodes c.args.m.now c.args.pool.now c.lit-zero.new.pool 1 c.lit-zero.ensures.adds c.lit-zero.ensures.kept c.requires.drivers in
    let b = grown c.args.m.now c.output.new.self c.lit-zero.new.pool 1 c.output.ensures.grows (ap length c.output.ensures.wires) (c.output.ensures.drivers a.drivers) in
    behind _ _ _ _ _ _ a b
