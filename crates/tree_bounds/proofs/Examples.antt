-- Trees and texts that are computed: what is written and what is not, and how many parts a tree has.
use Rattle.std.proofs.Common.{◌≡◌, ℕ, ◌^◌, ◌<◌, ◌≤◌, List, [], ◌∷◌, length, Option, Some, None, refl, arith}
use Rattle.std.specs.Prelude.{codes}
use Rattle.verilog_tree.specs.Lex.{token_at}
use Rattle.verilog_tree.specs.TokensOf.{tokens_of}
use Rattle.verilog_tree.specs.Words.{is_reserved, grammar_words, unsupported_words}
use Rattle.verilog_tree.specs.Parse.{parse, goes_on, operation, choice, selection, cell, paren, negated, joined, parts}
use Rattle.verilog_tree.specs.Read.{read_text, module_of, pair, range, expr, driver, driven, optional_wire, port_of, port, ports, wire, reg, assign, next_value, reset_behind, write_behind, conditional, stmt, always, item, items}
use Rattle.verilog_tree.specs.declared.expr.Expr.{Expr, Literal}
use Rattle.verilog_tree.specs.declared.expr.Expr.TheVariants.{Join}
use Rattle.verilog_tree.specs.declared.expr.Expr.TheBlock.{shape-the_row-Expr-0, hidden-the_row-Expr-0, shape-the_row-Expr-1, hidden-the_row-Expr-1}
use denote.Hole.Carrier.{hidden}
use Rattle.verilog_tree.specs.declared.tree.Item.TheVariants.{Assign}
use Rattle.verilog_tree.specs.declared.tree.Tree.{Tree}
use Rattle.verilog_mean.specs.Bounds.{AreWrittenItems, tree_size}

-- ---- trees

-- a module with one assignment
abbrev assigned : Expr → Tree
assigned e = record {
  at = 0;
  name = record { at = 7; text = codes "m" };
  ports = [];
  items = Assign 12 (record { at = 19; text = codes "a" }) (record { sign_at = 20; value = e }) ∷ [];
}

abbrev literal : (width value : ℕ) → Expr
literal width value = Literal (record { at = 21; width = width; value = value })

-- 15 fits 4 bits, and 16 does not
fifteen_fits : AreWrittenItems (assigned (literal 4 15)).items
fifteen_fits = ((omega arith, (omega arith, omega arith)), tt)

sixteen_does_not : AreWrittenItems (assigned (literal 4 16)).items → ⊥
sixteen_does_not h = let below : 16 < 2 ^ 4 = h.0.1.1 in omega arith

no_bits : AreWrittenItems (assigned (literal 0 0)).items → ⊥
no_bits h = let positive : 1 ≤ 0 = h.0.0 in omega arith

too_many_bits : AreWrittenItems (assigned (literal 65 0)).items → ⊥
too_many_bits h = let small : 65 ≤ 64 = h.0.1.0 in omega arith

join_of_none : AreWrittenItems (assigned (Join 21 [])).items → ⊥
unfolding shape-the_row-Expr-1 hidden-the_row-Expr-1 hidden
join_of_none h = h.0.0

-- ---- texts

abbrev size_of_tree : Option Tree → Option ℕ
size_of_tree None = None
size_of_tree (Some t) = Some (tree_size t)

-- how many ports, items and expressions the tree of a text has; none where it has no tree
abbrev text_size : List ℕ → Option ℕ
text_size text = size_of_tree (read_text text)

record AreSized : Type 0 where
  -- a port, an item and a name in 36 bytes
  one_name : text_size (codes "module m(input a);wire b=a;endmodule") ≡ Some 3
  bytes : length (codes "module m(input a);wire b=a;endmodule") ≡ 36
  -- a parenthesis is no part, and a range is none
  parts : text_size (codes "module m(input a);wire [1:0] b={(a),~a};endmodule") ≡ Some 6
  fifteen : text_size (codes "module m(input a);wire [3:0] b=4'hf;endmodule") ≡ Some 3
  -- no texts: 16 in 4 bits, no bits, 65 bits, a join of no parts
  sixteen : text_size (codes "module m(input a);wire [3:0] b=4'h10;endmodule") ≡ None
  no_bits : text_size (codes "module m(input a);wire b=0'h0;endmodule") ≡ None
  too_many_bits : text_size (codes "module m(input a);wire b=65'h0;endmodule") ≡ None
  no_parts : text_size (codes "module m(input a);wire b={};endmodule") ≡ None

are_sized : AreSized
unfolding token_at tokens_of is_reserved grammar_words unsupported_words parse goes_on operation choice selection cell paren negated joined parts module_of pair range expr driver driven optional_wire port_of port ports wire reg assign next_value reset_behind write_behind conditional stmt always item items shape-the_row-Expr-0 hidden-the_row-Expr-0 shape-the_row-Expr-1 hidden-the_row-Expr-1 hidden read_text
are_sized = record { one_name = refl; bytes = refl; parts = refl; fifteen = refl; sixteen = refl; no_bits = refl; too_many_bits = refl; no_parts = refl }
