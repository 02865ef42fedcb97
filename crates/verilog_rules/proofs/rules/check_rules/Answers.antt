use Rattle.std.proofs.Common.{◌++◌}
use Rattle.std.proofs.lemmas.Result.{IfErr-weaker}
use Rattle.verilog_mean.specs.Drivers.{drivers_twice, drivers_missing}
use Rattle.verilog_rules.specs.First.{Refuses}
use Rattle.verilog_rules.specs.Refusals.{refusals}
use Rattle.verilog_rules.proofs.KnownItems.{none_is}
use Rattle.verilog_rules.proofs.Refused.{by_names, by_sizes, by_unknown, by_kinds, by_selects, by_widths, by_drivers}
use Rattle.verilog_rules.proofs.rules.check_rules.Goals as goal

pub returns-in-Err-clause-refused : goal.returns-in-Err-clause-refused
returns-in-Err-clause-refused c = by_names _ _ c.in-Err.ensures.refused

pub returns-in-Some-clause-refused : goal.returns-in-Some-clause-refused
returns-in-Some-clause-refused c = by_sizes _ _ c.in-Ok.ensures.sound c.in-Some.ensures

pub returns-in-Err-names_unknown-clause-refused : goal.returns-in-Err-names_unknown-clause-refused
returns-in-Err-names_unknown-clause-refused c =
    by_unknown _ _ c.in-Ok.ensures.sound (none_is _ c.in-None.ensures) c.in-Err-names_unknown.ensures.refused

pub returns-in-Some-kinds_differ-clause-refused : goal.returns-in-Some-kinds_differ-clause-refused
returns-in-Some-kinds_differ-clause-refused c =
    by_kinds _ _ c.in-Ok.ensures.sound (none_is _ c.in-None.ensures) c.in-Ok-names_unknown.ensures.sound c.in-Some-kinds_differ.ensures

pub returns-in-Some-selects_outside-clause-refused : goal.returns-in-Some-selects_outside-clause-refused
returns-in-Some-selects_outside-clause-refused c =
    by_selects _ _ c.in-Ok.ensures.sound (none_is _ c.in-None.ensures) c.in-Ok-names_unknown.ensures.sound
    (none_is _ c.in-None-kinds_differ.ensures) c.in-Some-selects_outside.ensures

pub returns-in-Some-widths_differ-clause-refused : goal.returns-in-Some-widths_differ-clause-refused
returns-in-Some-widths_differ-clause-refused c =
    by_widths _ _ c.in-Ok.ensures.sound (none_is _ c.in-None.ensures) c.in-Ok-names_unknown.ensures.sound
    (none_is _ c.in-None-kinds_differ.ensures) (none_is _ c.in-None-selects_outside.ensures) c.in-Some-widths_differ.ensures

pub returns-clause-refused : goal.returns-clause-refused
returns-clause-refused c =
    IfErr-weaker c.drivers.result (λ r. Refuses r (drivers_twice c.args.tree.now ++ drivers_missing c.args.tree.now)) (λ r. Refuses r (refusals c.args.tree.now))
    (λ r h. by_drivers c.args.tree.now r c.in-Ok.ensures.sound (none_is _ c.in-None.ensures) c.in-Ok-names_unknown.ensures.sound
    (none_is _ c.in-None-kinds_differ.ensures) (none_is _ c.in-None-selects_outside.ensures) (none_is _ c.in-None-widths_differ.ensures) h)
    c.drivers.ensures.refused
