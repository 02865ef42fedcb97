use Rattle.isa_table.proofs.rows_are_disjoint.Goals as goal
use Rattle.isa_table.proofs.Disjoint.{one_row}

pub returns : goal.returns
returns c = one_row
