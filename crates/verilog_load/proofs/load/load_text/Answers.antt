use Rattle.std.proofs.Common.{◌∙◌, ap, sym, subst}
use Rattle.verilog_load.specs.Told.{IsTold, unread_as, unsound_as}
use Rattle.verilog_load.proofs.Reading.{sound_refused, unsound_told}
use Rattle.verilog_load.proofs.load.load_text.Goals as goal

pub returns-in-Err-clause-told : goal.returns-in-Err-clause-told
returns-in-Err-clause-told c = subst (λ e. IsTold c.args.bytes.now e) (sym c.unread.ensures) c.in-Err.ensures.told

pub returns-in-Err-clause-refused : goal.returns-in-Err-clause-refused
returns-in-Err-clause-refused c = λ t short reads sound. c.unread.ensures ∙ ap unread_as (c.in-Err.ensures.refused t short reads)

pub returns-in-Err-check_tree-clause-told : goal.returns-in-Err-check_tree-clause-told
returns-in-Err-check_tree-clause-told c = subst (λ e. IsTold c.args.bytes.now e) (sym c.unsound.ensures)
    (unsound_told c.args.bytes.now c.in-Ok.tree c.in-Ok.ensures.short c.in-Ok.ensures.read c.in-Err-check_tree.refusal c.in-Err-check_tree.ensures.first c.in-Err-check_tree.ensures.refused)

pub returns-in-Err-check_tree-clause-refused : goal.returns-in-Err-check_tree-clause-refused
returns-in-Err-check_tree-clause-refused c = λ t short reads sound. c.unsound.ensures ∙ ap unsound_as
    (sound_refused c.args.bytes.now c.in-Ok.tree t c.in-Err-check_tree.refusal c.in-Ok.ensures.read reads sound c.in-Err-check_tree.ensures.refused)
