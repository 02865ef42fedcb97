-- Small texts and their refusals: what each rule refuses, and what stands next to it and is taken.
use Rattle.std.proofs.Common.{◌≡◌, ℕ, List, [], ◌∷◌, Option, Some, None, refl}
use Rattle.std.specs.Prelude.{codes}
use Rattle.verilog_tree.specs.declared.tree.Tree.{Tree}
use Rattle.verilog_tree.specs.Lex.{token_at}
use Rattle.verilog_tree.specs.TokensOf.{tokens_of}
use Rattle.verilog_tree.specs.Words.{is_reserved, grammar_words, unsupported_words}
use Rattle.verilog_tree.specs.Parse.{parse, goes_on, operation, choice, selection, cell, paren, negated, joined, parts}
use Rattle.verilog_tree.specs.Read.{read_text, module_of, pair, range, expr, driver, driven, optional_wire, port_of, port, ports, wire, reg, assign, next_value, reset_behind, write_behind, conditional, stmt, always, item, items}
use Rattle.verilog_tree.specs.declared.expr.Expr.TheBlock.{shape-the_row-Expr-0, hidden-the_row-Expr-0, shape-the_row-Expr-1, hidden-the_row-Expr-1}
use denote.Hole.Carrier.{hidden}
use Rattle.verilog_mean.specs.declared.refusal.MeanRefusal.TheVariants.{NameTwice, BadSize, NameUnknown, KindDiffers, SelectOutside, WidthDiffers, DriverTwice, DriverMissing}
use Rattle.verilog_mean.specs.Names.{Refusals, names_twice, bad_sizes, names_unknown}
use Rattle.verilog_mean.specs.Kinds.{kinds_differ}
use Rattle.verilog_mean.specs.Widths.{selects_outside, widths_differ}
use Rattle.verilog_mean.specs.Drivers.{drivers_twice, drivers_missing}

-- the refusals of a text by one rule; none of its own where the text has no tree
abbrev pub of_tree : (Tree → Refusals) → Option Tree → Option Refusals
of_tree rule None = None
of_tree rule (Some t) = Some (rule t)

abbrev pub refusals : (Tree → Refusals) → List ℕ → Option Refusals
refusals rule text = of_tree rule (read_text text)

-- each text with the rule that is asked, and its refusals
record AreRefused : Type 0 where
  -- no clk and no reset
  no_clock : refusals names_unknown (codes "module m(input a);endmodule") ≡ Some (NameUnknown 7 ∷ [])
  -- a reset of its own
  own_reset : refusals names_unknown (codes "module m(input clk);wire reset=1'h0;reg r;always@(posedge clk)if(reset)r<=1'h1;else r<=1'h0;endmodule") ≡ Some (NameUnknown 7 ∷ [])
  -- a reset of two bits
  wide_reset : refusals names_unknown (codes "module m(input clk,input [1:0] reset);endmodule") ≡ Some (NameUnknown 7 ∷ [])
  declared_twice : refusals names_twice (codes "module m(input clk,input reset);wire a;wire a;endmodule") ≡ Some (NameTwice 44 ∷ [])
  bad_numbers : refusals bad_sizes (codes "module m(input clk,input reset);wire [7:1] a;wire [64:0] b;reg [7:0] c [1:3];reg d [0:4];reg e [0:0];endmodule") ≡ Some (BadSize 40 1 ∷ BadSize 51 64 ∷ BadSize 72 1 ∷ BadSize 86 4 ∷ BadSize 98 0 ∷ [])
  -- arrays of 256 cells and of 2
  good_numbers : refusals bad_sizes (codes "module m(input clk,input reset);reg [7:0] m [0:255];reg [63:0] n [0:1];endmodule") ≡ Some ([])
  used_before : refusals names_unknown (codes "module m(input clk,input reset);wire w=a;wire a=w;endmodule") ≡ Some (NameUnknown 39 ∷ [])
  -- a wire is known in its own driver
  used_in_its_driver : refusals names_unknown (codes "module m(input clk,input reset);wire a=a;endmodule") ≡ Some ([])
  clock_read : refusals kinds_differ (codes "module m(input clk,input reset);wire w=clk;endmodule") ≡ Some (KindDiffers 39 ∷ [])
  -- bits of a name without a range
  bit_of_a_bit : refusals kinds_differ (codes "module m(input clk,input reset);wire w=reset[0:0];endmodule") ≡ Some (KindDiffers 39 ∷ [])
  bit_of_a_range : refusals kinds_differ (codes "module m(input clk,input reset);wire [0:0] v=reset;wire w=v[0:0];endmodule") ≡ Some ([])
  -- an array without an index, an index on a bit, an assignment to an input and to a wire with a driver
  other_kinds : refusals kinds_differ (codes "module m(input clk,input reset);reg m [0:1];wire w=m;wire v=reset[1'h0];assign reset=w;assign w=v;endmodule") ≡ Some (KindDiffers 51 ∷ KindDiffers 60 ∷ KindDiffers 79 ∷ KindDiffers 94 ∷ [])
  -- a reset of one register with the value of another
  two_names : refusals kinds_differ (codes "module m(input clk,input reset);reg r;reg s;always@(posedge clk)if(reset)r<=1'h0;else s<=1'h0;endmodule") ≡ Some (KindDiffers 86 ∷ [])
  bits_outside : refusals selects_outside (codes "module m(input clk,input reset);wire [7:0] a=8'h0;wire b=a[8:8];wire [1:0] c=a[0:1];endmodule") ≡ Some (SelectOutside 57 8 8 8 ∷ SelectOutside 77 0 1 8 ∷ [])
  wide_join : refusals widths_differ (codes "module m(input clk,input reset);wire w={40'h0,40'h0}=={40'h0,40'h0};endmodule") ≡ Some (WidthDiffers 39 80 64 ∷ WidthDiffers 54 80 64 ∷ [])
  -- a sum is as wide as its operands, and a condition has one bit
  other_widths : refusals widths_differ (codes "module m(input clk,input reset);wire [8:0] a=8'h1+8'h1;wire b=2'h1?1'h0:2'h1;endmodule") ≡ Some (WidthDiffers 44 9 8 ∷ WidthDiffers 66 2 1 ∷ WidthDiffers 71 1 2 ∷ [])
  write_widths : refusals widths_differ (codes "module m(input clk,input reset);reg [7:0] m [0:3];always@(posedge clk)if(2'h1)m[1'h0]<=4'h0;endmodule") ≡ Some (WidthDiffers 72 2 1 ∷ WidthDiffers 79 1 2 ∷ WidthDiffers 85 8 4 ∷ [])
  two_drivers : refusals drivers_twice (codes "module m(input clk,input reset);wire a;assign a=reset;assign a=reset;endmodule") ≡ Some (DriverTwice 61 ∷ [])
  no_drivers : refusals drivers_missing (codes "module m(input clk,input reset,output q);wire a;reg r;reg [7:0] m [0:1];endmodule") ≡ Some (DriverMissing 38 ∷ DriverMissing 46 ∷ DriverMissing 52 ∷ DriverMissing 64 ∷ [])

are_refused : AreRefused
unfolding token_at tokens_of is_reserved grammar_words unsupported_words parse goes_on operation choice selection cell paren negated joined parts module_of pair range expr driver driven optional_wire port_of port ports wire reg assign next_value reset_behind write_behind conditional stmt always item items shape-the_row-Expr-0 hidden-the_row-Expr-0 shape-the_row-Expr-1 hidden-the_row-Expr-1 hidden read_text
are_refused = record { no_clock = refl; own_reset = refl; wide_reset = refl; declared_twice = refl; bad_numbers = refl; good_numbers = refl; used_before = refl; used_in_its_driver = refl; clock_read = refl; bit_of_a_bit = refl; bit_of_a_range = refl; other_kinds = refl; two_names = refl; bits_outside = refl; wide_join = refl; other_widths = refl; write_widths = refl; two_drivers = refl; no_drivers = refl }
