use Rattle.std.proofs.Common.{◌∙◌}
use Rattle.verilog_rules.proofs.Tables.{added}
use Rattle.verilog_rules.proofs.table.Table.add.Goals as goal

pub returns : goal.returns
returns c = added _ _ _ _ _ (c.as_bytes-name.ensures.value ∙ c.text.ensures) c.self.view_is c.in_ok-insert.ensures.entries c.requires
