use Rattle.isa_table.specs.Rows.{lui, table}
use Rattle.isa_table.proofs.Places.{Entry, same_at}
use Rattle.isa_table.proofs.row.row_at.Goals as goal

pub returns-clause-mask : goal.returns-clause-mask
returns-clause-mask c = same_at (λ (x : Entry). x.1) (λ r. r.mask) c.rows.result.now table _ lui c.args.index c.rows.ensures.masks c.requires

pub returns-clause-value : goal.returns-clause-value
returns-clause-value c = same_at (λ (x : Entry). x.2) (λ r. r.value) c.rows.result.now table _ lui c.args.index c.rows.ensures.values c.requires

pub returns-clause-group : goal.returns-clause-group
returns-clause-group c = same_at (λ (x : Entry). x.3) (λ r. r.group) c.rows.result.now table _ lui c.args.index c.rows.ensures.groups c.requires

pub returns-clause-uses_a : goal.returns-clause-uses_a
returns-clause-uses_a c = same_at (λ (x : Entry). x.4.a) (λ r. r.uses_a) c.rows.result.now table _ lui c.args.index c.rows.ensures.uses_a c.requires

pub returns-clause-uses_b : goal.returns-clause-uses_b
returns-clause-uses_b c = same_at (λ (x : Entry). x.4.b) (λ r. r.uses_b) c.rows.result.now table _ lui c.args.index c.rows.ensures.uses_b c.requires

pub returns-clause-has_value : goal.returns-clause-has_value
returns-clause-has_value c = same_at (λ (x : Entry). x.4.value) (λ r. r.has_value) c.rows.result.now table _ lui c.args.index c.rows.ensures.has_value c.requires
