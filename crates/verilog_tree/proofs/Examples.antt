-- Texts that are computed: what reads as which tree, and what does not read.
use Rattle.std.proofs.Common.{◌≡◌, ℕ, zero, suc, ◌+◌, ◌^◌, ◌<◌, Bool, true, false, List, [], ◌∷◌, ◌++◌, length, Option, Some, None, Result, Ok, Err, refl, arith}
use Rattle.std.specs.Prelude.{codes}
use Rattle.verilog_tree.specs.Signs as sign
use Rattle.verilog_tree.specs.Lexemes.{Lexeme, Word, Number, Sized, Mark, Placed}
use Rattle.verilog_tree.specs.Blanks.{Between, skipped}
use Rattle.verilog_tree.specs.Lex.{token_at, HasTokens}
use Rattle.verilog_tree.specs.TokensOf.{tokens_of}
use Rattle.verilog_tree.specs.TokensAhead.{tokens_ahead}
use Rattle.verilog_tree.specs.Hex.{literal_bytes}
use Rattle.verilog_tree.specs.Words.{is_reserved, grammar_words, unsupported_words}
use Rattle.verilog_tree.specs.Readers.{Stop}
use Rattle.verilog_tree.specs.Parse.{parse, goes_on, operation, choice, selection, cell, paren, negated, joined, parts}
use Rattle.verilog_tree.specs.Read.{read_text, module_of, pair, range, expr, driver, driven, optional_wire, port_of, port, ports, wire, reg, assign, next_value, reset_behind, write_behind, conditional, stmt, always, item, items}
use Rattle.verilog_tree.specs.declared.expr.BinSign.TheVariants as bin
use Rattle.verilog_tree.specs.declared.expr.Ident.{Ident}
use Rattle.verilog_tree.specs.declared.expr.Lit.{Lit}
use Rattle.verilog_tree.specs.declared.expr.Pair.{Pair}
use Rattle.verilog_tree.specs.declared.expr.Expr.{Expr, Literal, Named, Select}
use Rattle.verilog_tree.specs.declared.expr.Expr.TheVariants.{Cell, Paren, Not, Join, Binary, Choice}
use Rattle.verilog_tree.specs.declared.expr.Expr.TheBlock.{shape-the_row-Expr-0, hidden-the_row-Expr-0, shape-the_row-Expr-1, hidden-the_row-Expr-1}
use denote.Hole.Carrier.{hidden}
use Rattle.verilog_tree.specs.declared.token.TokenKind.TheVariants as kind
use Rattle.verilog_tree.specs.declared.token.Token.{Token}
use Rattle.verilog_tree.specs.TokenText.{token_text, IsTokenOf}
use Rattle.verilog_tree.specs.declared.tree.Driver.{Driver}
use Rattle.verilog_tree.specs.declared.tree.PortDecl.{PortDecl}
use Rattle.verilog_tree.specs.declared.tree.Stmt.TheVariants.{Reset, Write}
use Rattle.verilog_tree.specs.declared.tree.Item.TheVariants.{Wire, Reg, Assign, Always}
use Rattle.verilog_tree.specs.declared.tree.Tree.{Tree}
use Rattle.verilog_tree.specs.Module.{Reads, HasOneReading}
use Rattle.verilog_tree.proofs.Pieces.{tokens_ahead-append}
use Rattle.verilog_tree.proofs.Readings.{read_text-reads, read_text-none, read_around-reads}

abbrev pub ident : ℕ → List ℕ → Ident
ident at text = record { at = at; text = text }

abbrev pub lit : ℕ → ℕ → ℕ → Lit
lit at width value = record { at = at; width = width; value = value }

-- two numbers in brackets, each with its place
abbrev pub span : ℕ → ℕ → ℕ → ℕ → ℕ → Pair
span at first_at first second_at second = record { at = at; first = record { at = first_at; value = first }; second = record { at = second_at; value = second } }

abbrev pub gives : ℕ → Expr → Driver
gives at value = record { sign_at = at; value = value }

-- input or output, where its name stands and what it is
abbrev pub declared : ℕ → Bool → Option Pair → Ident → PortDecl
declared at input range name = record { at = at; input = input; range = range; name = name }

-- ---- a module, and its tree

abbrev text : List ℕ
text =
    codes "module m(input clk, input reset, input wire [7:0] a, output [7:0] q);\n" ++ (
    codes "  // the sum so far\n" ++ (
    codes "  reg [7:0] r; /* sixteen bytes */\n" ++ (
    codes "  reg [7:0] c [0:15];\n" ++ (
    codes "  wire [7:0] w = a & 8'hf0 == r ? a - r - 8'd1 : {r[3:0], c[a[3:0]]};\n" ++ (
    codes "  wire t;\n" ++ (
    codes "  assign t = ~(a < r);\n" ++ (
    codes "  assign q = w;\n" ++ (
    codes "  always @(posedge clk) if (reset) r <= 8'b0000_0000; else r <= r + w;\n" ++ (
    codes "  always @(posedge clk) if (t) c[r[3:0]] <= w;\n" ++ (
    codes "endmodule\n"))))))))))

abbrev tree : Tree
tree = record {
  at = 0;
  name = ident 7 (codes "m");
  ports =
      declared 9 true None (ident 15 (codes "clk")) ∷
      declared 20 true None (ident 26 (codes "reset")) ∷
      declared 33 true (Some (span 44 45 7 47 0)) (ident 50 (codes "a")) ∷
      declared 53 false (Some (span 60 61 7 63 0)) (ident 66 (codes "q")) ∷ [];
  items =
      Reg 92 (Some (span 96 97 7 99 0)) (ident 102 (codes "r")) None ∷
      Reg 127 (Some (span 131 132 7 134 0)) (ident 137 (codes "c")) (Some (span 139 140 0 142 15)) ∷
      Wire 149 (Some (span 154 155 7 157 0)) (ident 160 (codes "w")) (Some (gives 162
      (Choice 179 194
      (Binary bin.And 166 (Named (ident 164 (codes "a"))) (Binary bin.Equal 174 (Literal (lit 168 8 240)) (Named (ident 177 (codes "r")))))
      (Binary bin.Minus 187 (Binary bin.Minus 183 (Named (ident 181 (codes "a"))) (Named (ident 185 (codes "r")))) (Literal (lit 189 8 1)))
      (Join 196 (Select (ident 197 (codes "r")) (span 198 199 3 201 0) ∷ Cell (ident 205 (codes "c")) 206 (Select (ident 207 (codes "a")) (span 208 209 3 211 0)) ∷ []))))) ∷
      Wire 219 None (ident 224 (codes "t")) None ∷
      Assign 229 (ident 236 (codes "t")) (gives 238 (Not 240 (Paren 241 (Binary bin.Less 244 (Named (ident 242 (codes "a"))) (Named (ident 246 (codes "r"))))))) ∷
      Assign 252 (ident 259 (codes "q")) (gives 261 (Named (ident 263 (codes "w")))) ∷
      Always 268 (Reset 290 (ident 301 (codes "r")) 303 (lit 306 8 0) (ident 325 (codes "r")) (gives 327 (Binary bin.Plus 332 (Named (ident 330 (codes "r"))) (Named (ident 334 (codes "w")))))) ∷
      Always 339 (Write 361 364 (Named (ident 365 (codes "t"))) (ident 368 (codes "c")) 369 (Select (ident 370 (codes "r")) (span 371 372 3 374 0)) (gives 378 (Named (ident 381 (codes "w"))))) ∷ [];
}

computed : read_text text ≡ Some tree
unfolding tokens_of token_at is_reserved grammar_words unsupported_words parse goes_on operation choice selection cell paren negated joined parts module_of pair range expr driver driven optional_wire port_of port ports wire reg assign next_value reset_behind write_behind conditional stmt always item items shape-the_row-Expr-0 hidden-the_row-Expr-0 shape-the_row-Expr-1 hidden-the_row-Expr-1 hidden read_text
computed = refl

has_one_reading : HasOneReading text tree
has_one_reading = read_text-reads text tree computed

-- ---- neighbours: each pair of texts differs in little, and the first alone reads

-- in a module of its own
abbrev in_module : List ℕ → List ℕ
in_module bytes = codes "module m(input clk, input reset, output q);\n" ++ (bytes ++ codes "\nendmodule")

abbrev some_tree : Option Tree → Bool
some_tree None = false
some_tree (Some t) = true

abbrev item_reads : List ℕ → Bool
item_reads bytes = some_tree (read_text (in_module bytes))

abbrev value_reads : List ℕ → Bool
value_reads bytes = item_reads (codes "wire [7:0] w = " ++ (bytes ++ codes ";"))

abbrev both : Bool → Bool → Bool × Bool
both a b = (a, b)

abbrev first_alone : Bool × Bool
first_alone = (true, false)

values :
    -- a value must be below 2 to the power of its size
    (both (value_reads (codes "8'hff")) (value_reads (codes "8'h1ff")) ≡ first_alone)
    -- there are no shifts
    × (both (value_reads (codes "reset<2'h1")) (value_reads (codes "reset<<2")) ≡ first_alone)
    -- "~" stands before a primary
    × (both (value_reads (codes "~(~reset)")) (value_reads (codes "~~reset")) ≡ first_alone)
    -- a join has a part
    × (both (value_reads (codes "{reset}")) (value_reads (codes "{}")) ≡ first_alone)
    × (both (value_reads (codes "{reset, 7'h0}")) (value_reads (codes "{reset, 7'h0, }")) ≡ first_alone)
    -- a number stands in brackets alone
    × (both (value_reads (codes "reset[1:0]")) (value_reads (codes "reset[1]")) ≡ first_alone)
    × (both (value_reads (codes "4'd10")) (value_reads (codes "10")) ≡ first_alone)
    -- signs of two bytes
    × (both (value_reads (codes "reset & ~reset")) (value_reads (codes "reset & & reset")) ≡ first_alone)
    × (both (value_reads (codes "reset & ~reset")) (value_reads (codes "reset && reset")) ≡ first_alone)
unfolding tokens_of token_at is_reserved grammar_words unsupported_words parse goes_on operation choice selection cell paren negated joined parts module_of pair range expr driver driven optional_wire port_of port ports wire reg assign next_value reset_behind write_behind conditional stmt always item items shape-the_row-Expr-0 hidden-the_row-Expr-0 shape-the_row-Expr-1 hidden-the_row-Expr-1 hidden read_text
values = (refl, refl, refl, refl, refl, refl, refl, refl, refl)

items_and_modules :
    -- a name is no reserved word; "clk" and "reset" are names
    (both (item_reads (codes "wire four = reset;")) (item_reads (codes "wire for = reset;")) ≡ first_alone)
    × (both (item_reads (codes "wire clk;")) (item_reads (codes "wire wire;")) ≡ first_alone)
    -- a number has nine digits at most
    × (both (item_reads (codes "reg m [0:123456789];")) (item_reads (codes "reg m [0:1234567890];")) ≡ first_alone)
    -- a reset begins with a literal
    × (both (item_reads (codes "always @(posedge clk) if (reset) r <= 1'h0; else r <= q;")) (item_reads (codes "always @(posedge clk) if (reset) r <= q; else r <= q;")) ≡ first_alone)
    -- only "reset" alone is one
    × (both (item_reads (codes "always @(posedge clk) if (reset) r <= 1'h0; else r <= q;")) (item_reads (codes "always @(posedge clk) if ((reset)) r <= 1'h0; else r <= q;")) ≡ first_alone)
    × (both (item_reads (codes "always @(posedge clk) if (reset) m[q] <= q;")) (item_reads (codes "always @(posedge clk) if (q) m <= q;")) ≡ first_alone)
    -- a comment ends
    × (both (item_reads (codes "/* wire w; */")) (item_reads (codes "/* wire w; /")) ≡ first_alone)
    × (both (item_reads (codes "/*/ wire w */")) (item_reads (codes "/*/ wire w;")) ≡ first_alone)
    -- "endmodule" is the last word
    × (both (some_tree (read_text (codes "module m(input a); endmodule // m"))) (some_tree (read_text (codes "module m(input a);"))) ≡ first_alone)
    × (both (some_tree (read_text (codes "module m(input a); endmodule"))) (some_tree (read_text (codes "module m(input a); endmodule;"))) ≡ first_alone)
    -- a module has a port
    × (both (some_tree (read_text (codes "module m(input a); endmodule"))) (some_tree (read_text (codes "module m(); endmodule"))) ≡ first_alone)
unfolding tokens_of token_at is_reserved grammar_words unsupported_words parse goes_on operation choice selection cell paren negated joined parts module_of pair range expr driver driven optional_wire port_of port ports wire reg assign next_value reset_behind write_behind conditional stmt always item items shape-the_row-Expr-0 hidden-the_row-Expr-0 shape-the_row-Expr-1 hidden-the_row-Expr-1 hidden read_text
items_and_modules = (refl, refl, refl, refl, refl, refl, refl, refl, refl, refl, refl)

-- some bytes n times
abbrev repeated : ℕ → List ℕ → List ℕ
repeated zero bytes = []
repeated (suc n) bytes = bytes ++ repeated n bytes

abbrev in_parentheses : ℕ → List ℕ
in_parentheses n = repeated n (codes "(") ++ (codes "reset" ++ repeated n (codes ")"))

-- a name in 63 parentheses is 64 deep
depth : both (value_reads (in_parentheses 63)) (value_reads (in_parentheses 64)) ≡ first_alone
unfolding tokens_of token_at is_reserved grammar_words unsupported_words parse goes_on operation choice selection cell paren negated joined parts module_of pair range expr driver driven optional_wire port_of port ports wire reg assign next_value reset_behind write_behind conditional stmt always item items shape-the_row-Expr-0 hidden-the_row-Expr-0 shape-the_row-Expr-1 hidden-the_row-Expr-1 hidden read_text
depth = refl

-- the words that are no names
word_counts : (length grammar_words ≡ 11) × (length unsupported_words ≡ 40)
unfolding grammar_words unsupported_words
word_counts = (refl, refl)

-- what is not computed has no tree
none_with_for : (t : Tree) → Reads (in_module (codes "wire for = reset;")) t → ⊥
unfolding tokens_of token_at is_reserved grammar_words unsupported_words parse goes_on operation choice selection cell paren negated joined parts module_of pair range expr driver driven optional_wire port_of port ports wire reg assign next_value reset_behind write_behind conditional stmt always item items shape-the_row-Expr-0 hidden-the_row-Expr-0 shape-the_row-Expr-1 hidden-the_row-Expr-1 hidden read_text
none_with_for = read_text-none (in_module (codes "wire for = reset;")) refl

-- ---- how operators group

abbrev only : Result (Expr × List Placed) Stop → Option Expr
only (Ok (e, [])) = Some e
only (Ok (e, (t ∷ ts))) = None
only (Err s) = None

abbrev on_tokens : Option (List Placed) → Option Expr
on_tokens None = None
on_tokens (Some ts) = only (expr ts)

abbrev expr_of : List ℕ → Option Expr
expr_of bytes = on_tokens (tokens_of (suc (length bytes)) (length bytes) bytes)

abbrev a : ℕ → Expr
a at = Named (ident at (codes "a"))

grouping :
    (expr_of (codes "a & a == a") ≡ Some (Binary bin.And 2 (a 0) (Binary bin.Equal 6 (a 4) (a 9))))
    × (expr_of (codes "a == a & a") ≡ Some (Binary bin.And 7 (Binary bin.Equal 2 (a 0) (a 5)) (a 9)))
    × (expr_of (codes "a - a - a") ≡ Some (Binary bin.Minus 6 (Binary bin.Minus 2 (a 0) (a 4)) (a 8)))
    × (expr_of (codes "a + a < a") ≡ Some (Binary bin.Less 6 (Binary bin.Plus 2 (a 0) (a 4)) (a 8)))
    × (expr_of (codes "a | a ^ a") ≡ Some (Binary bin.Or 2 (a 0) (Binary bin.Xor 6 (a 4) (a 8))))
    × (expr_of (codes "~a + a") ≡ Some (Binary bin.Plus 3 (Not 0 (a 1)) (a 5)))
    × (expr_of (codes "a ? a : a ? a : a") ≡ Some (Choice 2 6 (a 0) (a 4) (Choice 10 14 (a 8) (a 12) (a 16))))
unfolding tokens_of token_at is_reserved grammar_words unsupported_words parse goes_on operation choice selection cell paren negated joined parts module_of pair range expr driver driven optional_wire port_of port ports wire reg assign next_value reset_behind write_behind conditional stmt always item items shape-the_row-Expr-0 hidden-the_row-Expr-0 shape-the_row-Expr-1 hidden-the_row-Expr-1 hidden read_text
grouping = (refl, refl, refl, refl, refl, refl, refl)

-- ---- tokens

abbrev lexemes : List Placed → List Lexeme
lexemes [] = []
lexemes (t ∷ ts) = t.lexeme ∷ lexemes ts

abbrev said : Option (List Placed) → Option (List Lexeme)
said None = None
said (Some ts) = Some (lexemes ts)

abbrev lexemes_of : List ℕ → Option (List Lexeme)
lexemes_of bytes = said (tokens_of (suc (length bytes)) (length bytes) bytes)

abbrev b : Lexeme
b = Word (codes "b")

signs :
    (lexemes_of (codes "b<=b") ≡ Some (b ∷ Mark sign.LessEqual ∷ b ∷ []))
    × (lexemes_of (codes "b<b") ≡ Some (b ∷ Mark sign.Less ∷ b ∷ []))
    × (lexemes_of (codes "b<<b") ≡ None)
    × (lexemes_of (codes "b==b") ≡ Some (b ∷ Mark sign.Equal ∷ b ∷ []))
    × (lexemes_of (codes "b<==b") ≡ Some (b ∷ Mark sign.LessEqual ∷ Mark sign.Assign ∷ b ∷ []))
    × (lexemes_of (codes "b===b") ≡ None)
    × (lexemes_of (codes "b^~b") ≡ None)
    × (lexemes_of (codes "b^ ~b") ≡ Some (b ∷ Mark sign.Xor ∷ Mark sign.Not ∷ b ∷ []))
    × (lexemes_of (codes "~|b") ≡ None)
    × (lexemes_of (codes "b*b") ≡ None)
unfolding tokens_of token_at
signs = (refl, refl, refl, refl, refl, refl, refl, refl, refl, refl)

numbers :
    (lexemes_of (codes "12'h0_fF") ≡ Some (Sized 12 255 ∷ []))
    × (lexemes_of (codes "8'b12") ≡ Some (Sized 8 1 ∷ Number 2 ∷ []))
    × (lexemes_of (codes "3'O7 4'D10") ≡ Some (Sized 3 7 ∷ Sized 4 10 ∷ []))
    × (lexemes_of (codes "64'hffffffffffffffff") ≡ Some (Sized 64 18446744073709551615 ∷ []))
    × (lexemes_of (codes "65'h1") ≡ None)
    × (lexemes_of (codes "08'h1") ≡ None)
    × (lexemes_of (codes "8'_1") ≡ None)
    × (lexemes_of (codes "8 'h1") ≡ None)
    × (lexemes_of (codes "007b") ≡ Some (Number 7 ∷ b ∷ []))
unfolding tokens_of token_at
numbers = (refl, refl, refl, refl, refl, refl, refl, refl, refl)

words :
    (lexemes_of (codes "_b$1 $") ≡ None)
    × (lexemes_of (codes "_b$1") ≡ Some (Word (codes "_b$1") ∷ []))
    × (lexemes_of (repeated 255 (codes "b")) ≡ Some (Word (repeated 255 (codes "b")) ∷ []))
    × (lexemes_of (repeated 256 (codes "b")) ≡ None)
unfolding tokens_of token_at
words = (refl, refl, refl, refl)

blanks :
    (skipped Between (codes " \t\n\r/* * / **/b") ≡ Some (codes "b"))
    × (skipped Between (codes "// b\n b") ≡ Some (codes "b"))
    × (skipped Between (codes "// b") ≡ Some [])
    × (skipped Between (codes "/*/b") ≡ None)
    × (skipped Between (codes "/*/b*/") ≡ Some [])
    × (skipped Between (codes "/ /b") ≡ Some (codes "/ /b"))
blanks = (refl, refl, refl, refl, refl, refl)

-- ---- a text with a variable inside

-- 230 bytes, several tokens and lines, and a space at the end
abbrev before : List ℕ
before =
    codes "module counter(input clk, input reset, output [31:0] pc_out);\n" ++ (
    codes "  // counts in fours, from a value that is set once\n" ++ (
    codes "  reg [31:0] pc;\n" ++ (
    codes "  wire [31:0] next_pc = pc + 32'd4;\n" ++ (
    codes "  assign pc_out = pc;\n" ++ (
    codes "  always @(posedge clk) if (reset) pc <= ")))))

abbrev after : List ℕ
after =
    codes "; else pc <= next_pc;\n" ++ (
    codes "endmodule\n")

abbrev counter : ℕ → Tree
counter v = record {
  at = 0;
  name = ident 7 (codes "counter");
  ports =
      declared 15 true None (ident 21 (codes "clk")) ∷
      declared 26 true None (ident 32 (codes "reset")) ∷
      declared 39 false (Some (span 46 47 31 50 0)) (ident 53 (codes "pc_out")) ∷ [];
  items =
      Reg 116 (Some (span 120 121 31 124 0)) (ident 127 (codes "pc")) None ∷
      Wire 133 (Some (span 138 139 31 142 0)) (ident 145 (codes "next_pc")) (Some (gives 153 (Binary bin.Plus 158 (Named (ident 155 (codes "pc"))) (Literal (lit 160 32 4))))) ∷
      Assign 169 (ident 176 (codes "pc_out")) (gives 183 (Named (ident 185 (codes "pc")))) ∷
      Always 191 (Reset 213 (ident 224 (codes "pc")) 227 (lit 230 32 v) (ident 249 (codes "pc")) (gives 252 (Named (ident 255 (codes "next_pc"))))) ∷ [];
}

-- the text has this tree whatever the value is
any_value : (v : ℕ) → v < 2 ^ 32 → HasOneReading (before ++ (literal_bytes v ++ after)) (counter v)
unfolding tokens_of token_at is_reserved grammar_words unsupported_words parse goes_on operation choice selection cell paren negated joined parts module_of pair range expr driver driven optional_wire port_of port ports wire reg assign next_value reset_behind write_behind conditional stmt always item items shape-the_row-Expr-0 hidden-the_row-Expr-0 shape-the_row-Expr-1 hidden-the_row-Expr-1 hidden read_text tokens_ahead
any_value v lt = read_around-reads v before after (counter v) lt refl refl

abbrev some_tokens : Option (List Placed) → List Placed
some_tokens None = []
some_tokens (Some ts) = ts

abbrev tokens_before : List Placed
unfolding token_at tokens_ahead
tokens_before = some_tokens (tokens_ahead 230 230 before)

-- the tokens of the front stand before those of any rest
any_rest : (rest : List ℕ) (us : List Placed) → HasTokens (230 + length rest) rest us → HasTokens (230 + length rest) (before ++ rest) (tokens_before ++ us)
unfolding token_at tokens_ahead
any_rest rest us h = tokens_ahead-append 230 230 (230 + length rest) before rest tokens_before us (omega arith) refl refl h

-- ---- a token of the Rust type

abbrev size_token : Token
size_token = record { kind = kind.Literal; from = 5; to = 10 }

size_text : token_text (codes "a <= 8'h0f;") size_token ≡ codes "8'h0f"
size_text = refl

size_is : IsTokenOf (codes "a <= 8'h0f;") size_token (record { at = 5; lexeme = Sized 8 15 })
unfolding token_at
size_is = record { sort = refl; place = refl; inside = omega arith; stands = refl }
