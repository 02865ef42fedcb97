use Rattle.std.proofs.Common.{◌≡◌, ◌≤◌, ◌+◌, ◌-◌, ◌*◌, [], length}
use Rattle.verilog_tree.specs.Depth.{depth_of, deepest_of}
use Rattle.verilog_tree.specs.Parse.{parse, goes_on}
use Rattle.verilog_read.specs.Seen.{seen}
use Rattle.verilog_read.specs.Expressions.{parts_from}
use Rattle.verilog_read.proofs.expr.+expr.Given as goal

abbrev pub decreases-paren : goal.decreases-paren
decreases-paren l = 4 * l.depth + 1

abbrev pub decreases-negated : goal.decreases-negated
decreases-negated l = 4 * l.depth + 1

abbrev pub decreases-cell : goal.decreases-cell
decreases-cell l = 4 * l.depth + 1

abbrev pub decreases-named : goal.decreases-named
decreases-named l = 4 * l.depth + 2

abbrev pub decreases-choice : goal.decreases-choice
decreases-choice l = 4 * l.depth + 1

abbrev pub decreases-parse : goal.decreases-parse
decreases-parse l = 4 * l.depth

abbrev pub decreases-start : goal.decreases-start
decreases-start l = 4 * l.depth + 3

abbrev pub decreases-joined : goal.decreases-joined
decreases-joined l = 4 * l.depth + 2

abbrev pub decreases-all_parts : goal.decreases-all_parts
decreases-all_parts l = 4 * l.depth + 1

abbrev pub decreases-operation : goal.decreases-operation
decreases-operation l = 4 * l.depth + 1

abbrev pub decreases-goes_on : goal.decreases-goes_on
decreases-goes_on l = 4 * l.depth + 2

abbrev pub invariant-all_parts-loop-turn : goal.invariant-all_parts-loop-turn
invariant-all_parts-loop-turn l = record {
  read : parts_from (parse l.depth) (length l.fn.cursor.tokens.now) [] (seen l.fn.cursor.tokens.now) ≡ parts_from (parse l.depth) (l._turn-end - l._turn) l.items (seen l.cursor.tokens.now);
  deepest : l.deepest ≡ deepest_of l.items;
  bound : l.deepest ≤ l.depth;
}

abbrev pub invariant-goes_on-loop-turn : goal.invariant-goes_on-loop-turn
invariant-goes_on-loop-turn l = record {
  read : goes_on (parse l.depth) l.depth l.level (l.depth + 1) l.fn.left.expr (seen l.fn.cursor.tokens.now) ≡ goes_on (parse l.depth) l.depth l.level (l._turn-end - l._turn) l.left.expr (seen l.cursor.tokens.now);
  depth : l.left.depth ≡ depth_of l.left.expr;
  bound : l.left.depth ≤ l.depth + 1;
}
