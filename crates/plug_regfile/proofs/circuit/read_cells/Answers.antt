use Rattle.plug_kit.specs.Bounds.{no_scope}
use Rattle.plug_kit.proofs.Carries.{carry_on}
use Rattle.plug_regfile.proofs.circuit.read_cells.Goals as goal

pub returns-clause-a : goal.returns-clause-a
returns-clause-a c = carry_on no_scope c.args.b.now.design _ _ 6 32 2 _ _ c.read_cell-right.ensures.adds c.read_cell-left.ensures.net
