use Rattle.isa_table.specs.Rows.{lui, table}
use Rattle.isa_table.proofs.Places.{Entry, same_at}
use Rattle.isa_table.proofs.row.row_name.Goals as goal

pub returns : goal.returns
returns c = same_at (λ (x : Entry). x.0.now) (λ r. r.name) c.rows.result.now table _ lui c.args.index c.rows.ensures.names c.requires
