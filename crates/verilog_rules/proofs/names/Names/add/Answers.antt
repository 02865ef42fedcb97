use Rattle.std.proofs.Common.{◌∙◌}
use Rattle.verilog_rules.proofs.Keys.{added}
use Rattle.verilog_rules.proofs.names.Names.add.Goals as goal

pub returns : goal.returns
returns c = let u = c.in_ok-insert.ensures.updates in added _ _ _ _ _ (c.as_bytes.ensures.value ∙ c.text.ensures) c.self.view_is u.0
