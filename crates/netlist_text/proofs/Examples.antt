-- A small netlist with each kind of line and of value: its text byte for byte, and the tree that is read from it.
use Rattle.std.proofs.Common.{◌≡◌, ℕ, Bool, true, false, List, [], ◌∷◌, ◌++◌, length, Some, refl, subst, arith}
use Rattle.std.specs.Prelude.{codes, not, ◌&&◌, nat_le}
use Rattle.std.proofs.lemmas.Bool.{leb-true}
use Rattle.verilog_tree.specs.Bytes.{is_letter, is_word_byte}
use Rattle.verilog_tree.specs.Module.{HasOneReading}
use Rattle.std.specs.Fmt.{digits}
use Rattle.verilog_tree.specs.declared.expr.BinSign.TheVariants as bin
use Rattle.verilog_tree.specs.Lex.{token_at}
use Rattle.verilog_tree.specs.TokensOf.{tokens_of}
use Rattle.verilog_tree.specs.Words.{is_reserved, grammar_words, unsupported_words}
use Rattle.verilog_tree.specs.Parse.{parse, goes_on, operation, choice, selection, cell, paren, negated, joined, parts}
use Rattle.verilog_tree.specs.Read.{read_text, module_of, pair, range, expr, driver, driven, optional_wire, port_of, port, ports, wire, reg, assign, next_value, reset_behind, write_behind, conditional, stmt, always, item, items}
use Rattle.verilog_netlist.specs.Netlist.{Netlist}
use Rattle.verilog_netlist.specs.Netlist.Value.{Constant, Copy, Bits, Cell, Not, Both, Choice, Join}
use Rattle.verilog_netlist.specs.Netlist.Line.{Wire, Net, Reg, Array, Assign, Next, Reset, Write}
use Rattle.verilog_netlist.specs.Text.{text_of}
use Rattle.verilog_netlist.specs.Places.{text_tree}
use Rattle.verilog_netlist.specs.Writable.{AreWordBytes, IsFree, IsWidth, IsWritable}
use Rattle.netlist_text.proofs.Reading.{netlist_reads}

abbrev small : Netlist
small = record {
  name = codes "part";
  ports =
      record { input = true; width = 1; name = codes "clk" }
      ∷ record { input = true; width = 1; name = codes "reset" }
      ∷ record { input = true; width = 8; name = codes "a" }
      ∷ record { input = false; width = 32; name = codes "q" } ∷ [];
  lines =
      Wire 1 (codes "w0")
      ∷ Reg 8 (codes "s_r0")
      ∷ Array 8 (codes "s_a0") 4
      ∷ Net 8 (codes "n0") (Constant 8 31)
      ∷ Net 8 (codes "n1") (Copy (codes "a"))
      ∷ Net 4 (codes "n2") (Bits (codes "n1") 5 2)
      ∷ Net 8 (codes "n3") (Cell (codes "s_a0") (codes "n2"))
      ∷ Net 8 (codes "n4") (Not (codes "n3"))
      ∷ Net 8 (codes "n5") (Both bin.Plus (codes "n3") (codes "n4"))
      ∷ Net 1 (codes "n6") (Both bin.Equal (codes "n3") (codes "n4"))
      ∷ Net 8 (codes "n7") (Choice (codes "n6") (codes "n4") (codes "n5"))
      ∷ Net 32 (codes "n8") (Join (codes "n7") (codes "n5"))
      ∷ Assign (codes "q") (codes "n8")
      ∷ Next (codes "s_r0") (codes "n5")
      ∷ Reset (codes "s_r0") 8 31 (codes "n2")
      ∷ Write (codes "n6") (codes "s_a0") (codes "n2") (codes "n3") ∷ [];
}

abbrev rows : List ℕ
rows =
    codes "module part(\n" ++ (
    codes "  input clk,\n" ++ (
    codes "  input reset,\n" ++ (
    codes "  input [7:0] a,\n" ++ (
    codes "  output [31:0] q\n" ++ (
    codes ");\n" ++ (
    codes "  wire [0:0] w0;\n" ++ (
    codes "  reg [7:0] s_r0;\n" ++ (
    codes "  reg [7:0] s_a0 [0:15];\n" ++ (
    codes "  wire [7:0] n0 = 8'h1f;\n" ++ (
    codes "  wire [7:0] n1 = a;\n" ++ (
    codes "  wire [3:0] n2 = n1[5:2];\n" ++ (
    codes "  wire [7:0] n3 = s_a0[n2];\n" ++ (
    codes "  wire [7:0] n4 = ~n3;\n" ++ (
    codes "  wire [7:0] n5 = n3 + n4;\n" ++ (
    codes "  wire [0:0] n6 = n3 == n4;\n" ++ (
    codes "  wire [7:0] n7 = n6 ? n4 : n5;\n" ++ (
    codes "  wire [31:0] n8 = {n7, n5};\n" ++ (
    codes "  assign q = n8;\n" ++ (
    codes "  always @(posedge clk) s_r0 <= n5;\n" ++ (
    codes "  always @(posedge clk) if (reset) s_r0 <= 8'h1f; else s_r0 <= n2;\n" ++ (
    codes "  always @(posedge clk) if (n6) s_a0[n2] <= n3;\n" ++
    codes "endmodule\n")))))))))))))))))))))

small_text : text_of small ≡ rows
unfolding text_of digits
small_text = refl

small_tree : read_text rows ≡ Some (text_tree small)
unfolding digits read_text tokens_of token_at is_reserved grammar_words unsupported_words parse goes_on operation choice selection cell paren negated joined parts module_of pair range expr driver driven optional_wire port_of port ports wire reg assign next_value reset_behind write_behind conditional stmt always item items
small_tree = refl

-- ---- the netlist can be written, so that the laws speak of it

abbrev all_word : List ℕ → Bool
all_word [] = true
all_word (b ∷ bs) = is_word_byte b && all_word bs

abbrev is_name : List ℕ → Bool
is_name [] = false
is_name (b ∷ bs) = is_letter b && (all_word bs && (nat_le (length (b ∷ bs)) 24 && not (is_reserved (b ∷ bs))))

both : (a b : Bool) → (a && b) ≡ true → (a ≡ true) × (b ≡ true)
both true b h = (refl, h)
both false b h = absurd cc

not_true : (a : Bool) → not a ≡ true → a ≡ false
not_true true h = absurd cc
not_true false h = refl

all_words : (bs : List ℕ) → all_word bs ≡ true → AreWordBytes bs
all_words [] h = tt
all_words (b ∷ bs) h = let k = both (is_word_byte b) (all_word bs) h in (k.0, all_words bs k.1)

free_by_test : (x : List ℕ) → is_name x ≡ true → IsFree x
free_by_test [] h = absurd cc
free_by_test (b ∷ bs) h =
    let first = both (is_letter b) (all_word bs && (nat_le (length (b ∷ bs)) 24 && not (is_reserved (b ∷ bs)))) h in
    let others = both (all_word bs) (nat_le (length (b ∷ bs)) 24 && not (is_reserved (b ∷ bs))) first.1 in
    let last = both (nat_le (length (b ∷ bs)) 24) (not (is_reserved (b ∷ bs))) others.1 in
    record { word = (first.0, all_words bs others.0); short = leb-true (length (b ∷ bs)) 24 last.0; free = not_true (is_reserved (b ∷ bs)) last.1 }

width : (n : ℕ) → nat_le 1 n ≡ true → nat_le n 64 ≡ true → IsWidth n
width n h k = (leb-true 1 n h, leb-true n 64 k)

small_writable : IsWritable small
unfolding is_reserved grammar_words unsupported_words
small_writable =
    let name : (x : List ℕ) → is_name x ≡ true → IsFree x = free_by_test in
    record {
      name = name (codes "part") refl;
      some = omega arith;
      ports = (width 1 refl refl, name (codes "clk") refl, (width 1 refl refl, name (codes "reset") refl, (width 8 refl refl, name (codes "a") refl, (width 32 refl refl, name (codes "q") refl, tt))));
      lines = (
        (width 1 refl refl, name (codes "w0") refl),
        (
          (width 8 refl refl, name (codes "s_r0") refl),
          (
            (width 8 refl refl, name (codes "s_a0") refl, omega arith),
            (
              (width 8 refl refl, name (codes "n0") refl, (width 8 refl refl, omega arith)),
              (
                (width 8 refl refl, name (codes "n1") refl, name (codes "a") refl),
                (
                  (width 4 refl refl, name (codes "n2") refl, (name (codes "n1") refl, omega arith, omega arith)),
                  (
                    (width 8 refl refl, name (codes "n3") refl, (name (codes "s_a0") refl, name (codes "n2") refl)),
                    (
                      (width 8 refl refl, name (codes "n4") refl, name (codes "n3") refl),
                      (
                        (width 8 refl refl, name (codes "n5") refl, (name (codes "n3") refl, name (codes "n4") refl)),
                        (
                          (width 1 refl refl, name (codes "n6") refl, (name (codes "n3") refl, name (codes "n4") refl)),
                          (
                            (width 8 refl refl, name (codes "n7") refl, (name (codes "n6") refl, name (codes "n4") refl, name (codes "n5") refl)),
                            (
                              (width 32 refl refl, name (codes "n8") refl, (name (codes "n7") refl, name (codes "n5") refl)),
                              (
                                (name (codes "q") refl, name (codes "n8") refl),
                                (
                                  (name (codes "s_r0") refl, name (codes "n5") refl),
                                  (
                                    (name (codes "s_r0") refl, width 8 refl refl, omega arith, name (codes "n2") refl),
                                    ((name (codes "n6") refl, name (codes "s_a0") refl, name (codes "n2") refl, name (codes "n3") refl), tt),
                                  ),
                                ),
                              ),
                            ),
                          ),
                        ),
                      ),
                    ),
                  ),
                ),
              ),
            ),
          ),
        ),
      );
    }

-- what the law says of it, and what is computed, are the same
small_reads : HasOneReading rows (text_tree small)
small_reads = subst (λ (text : List ℕ). HasOneReading text (text_tree small)) small_text (netlist_reads small small_writable)
