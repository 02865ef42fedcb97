use Rattle.std.proofs.Common.{◌∙◌}
use Rattle.verilog_rules.specs.Sources.{givers}
use Rattle.verilog_rules.proofs.SourceForms.{noted}
use Rattle.verilog_rules.proofs.sources.Sources.add.Goals as goal

pub returns-in_ok-insert-in-None : goal.returns-in_ok-insert-in-None
returns-in_ok-insert-in-None c = let u = c.in_ok-insert-in-None.ensures.updates in λ x.
    noted _ c.args.name.now.text x c.args.number (givers c.args.self.now) (givers (record { by_name = c.insert.new.self }) x)
    (c.as_str-text.ensures.value ∙ c.text.ensures) c.in-None.ensures.value (u.0 (record { ref_ptr = (0, 0); now = x }))
