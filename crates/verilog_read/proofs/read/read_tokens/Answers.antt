use Rattle.std.proofs.Common.{sym}
use Rattle.verilog_tree.specs.Readers.{Wrong, Deep}
use Rattle.verilog_read.specs.Seen.{seen}
use Rattle.verilog_read.proofs.Whole.{found_tree, only_tree, some_left, refused}
use Rattle.verilog_read.proofs.Places.{by_error, by_left}
use Rattle.verilog_read.proofs.read.read_tokens.Goals as goal

pub returns-in-Err-Wrong-clause-only : goal.returns-in-Err-Wrong-clause-only
returns-in-Err-Wrong-clause-only c = λ t h.
    let stop = rw c.in-Err-Wrong.field-0-is at c.in-Err-Wrong.ensures in
    absurd (refused c.args.tokens.now (Wrong (seen c.module_of.new.cursor.tokens.now)) t stop h)

pub returns-in-Err-Deep-clause-only : goal.returns-in-Err-Deep-clause-only
returns-in-Err-Deep-clause-only c = λ t h.
    let stop = rw c.in-Err-Deep.field-0-is at c.in-Err-Deep.ensures in
    absurd (refused c.args.tokens.now (Deep (seen c.module_of.new.cursor.tokens.now)) t stop h)

pub returns-then-not-is_empty-clause-only : goal.returns-then-not-is_empty-clause-only
returns-then-not-is_empty-clause-only c = λ t h. absurd (some_left c.args.tokens.now c.module_of.new.cursor.tokens.now c.in-Ok.tree t c.in-Ok.ensures (sym c.if-not-is_empty.ensures) h)

pub returns-clause-found : goal.returns-clause-found
returns-clause-found c = found_tree c.args.tokens.now c.module_of.new.cursor.tokens.now c.in-Ok.tree c.in-Ok.ensures (sym c.if-not-is_empty.ensures)

pub returns-clause-only : goal.returns-clause-only
returns-clause-only c = λ t h. only_tree c.args.tokens.now c.module_of.new.cursor.tokens.now c.in-Ok.tree t c.in-Ok.ensures (sym c.if-not-is_empty.ensures) h

pub returns-in-Err-Wrong-clause-stops : goal.returns-in-Err-Wrong-clause-stops
returns-in-Err-Wrong-clause-stops c =
    let stop = rw c.in-Err-Wrong.field-0-is at c.in-Err-Wrong.ensures in
    by_error c.args.tokens.now c.args.end c.args.form c.refusal.result (Wrong (seen c.module_of.new.cursor.tokens.now)) stop c.refusal.ensures

pub returns-in-Err-Deep-clause-stops : goal.returns-in-Err-Deep-clause-stops
returns-in-Err-Deep-clause-stops c =
    let stop = rw c.in-Err-Deep.field-0-is at c.in-Err-Deep.ensures in
    by_error c.args.tokens.now c.args.end c.args.form c.too_deep.result (Deep (seen c.module_of.new.cursor.tokens.now)) stop c.too_deep.ensures.same

pub returns-then-not-is_empty-clause-stops : goal.returns-then-not-is_empty-clause-stops
returns-then-not-is_empty-clause-stops c = by_left c.args.tokens.now c.args.end c.args.form c.refusal-then-not-is_empty.result c.module_of.new.cursor.tokens.now c.in-Ok.tree c.in-Ok.ensures
    (sym c.if-not-is_empty.ensures) c.refusal-then-not-is_empty.ensures
