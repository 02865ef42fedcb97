use Rattle.std.proofs.Common.{◌∙◌}
use Rattle.verilog_rules.proofs.Keys.{knows}
use Rattle.verilog_rules.proofs.names.Names.knows.Goals as goal

pub returns : goal.returns
returns c = c.contains.ensures ∙ knows _ _ _ _ (c.as_bytes.ensures.value ∙ c.text.ensures) c.self.view_is
