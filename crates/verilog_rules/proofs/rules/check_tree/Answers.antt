use Rattle.verilog_rules.proofs.Refused.{is_sound, not_sound}
use Rattle.verilog_rules.proofs.rules.check_tree.Goals as goal

pub returns-in-Err-clause-refused : goal.returns-in-Err-clause-refused
returns-in-Err-clause-refused c = not_sound c.args.tree c.in-Err.refusal c.in-Err.ensures.refused

pub returns-in-Ok-order_items-clause-checked : goal.returns-in-Ok-order_items-clause-checked
returns-in-Ok-order_items-clause-checked c = record {
  bounded = c.requires;
  sound = is_sound c.args.tree c.in-Ok.ensures.sound c.in-Ok-order_items.ensures.no_loop;
  ordered = c.in-Ok-order_items.ensures.order;
}
