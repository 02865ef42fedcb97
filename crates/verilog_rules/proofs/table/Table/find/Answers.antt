use Rattle.std.proofs.Common.{◌∙◌, ap}
use Rattle.verilog_rules.specs.Collected.{shape_in}
use Rattle.verilog_rules.proofs.Tables.{found}
use Rattle.verilog_rules.proofs.table.Table.find.Goals as goal

pub returns-in-Some : goal.returns-in-Some
returns-in-Some c = ap shape_in c.in-Some.ensures.value ∙ found _ _ c.self.inside.by_name.entries _ (c.as_bytes.ensures.value ∙ c.text.ensures) c.self.view_is

pub returns-in-None : goal.returns-in-None
returns-in-None c = ap shape_in c.in-None.ensures.value ∙ found _ _ c.self.inside.by_name.entries _ (c.as_bytes.ensures.value ∙ c.text.ensures) c.self.view_is
