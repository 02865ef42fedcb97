-- The text of pieces and of lines, and of more behind them.
use Rattle.std.proofs.Common.{◌≡◌, ℕ, zero, suc, ◌+◌, List, [], ◌∷◌, ◌++◌, Option, Some, None, refl, ap, sym, ◌∙◌, arith, append_assoc, append-nil, codes}
use Rattle.verilog_mean.specs.Look.{put}
use Rattle.verilog_tree.specs.Signs as sign
use Rattle.verilog_tree.specs.Lexemes.{Mark, Word}
use Rattle.verilog_netlist.specs.Netlist.{Value, Line}
use Rattle.verilog_netlist.specs.Netlist.Value.{Constant, Copy, Bits, Cell, Not, Both, Choice, Join}
use Rattle.verilog_netlist.specs.Netlist.Line.{Wire, Net, Reg, Array, Assign, Next, Reset, Write}
use Rattle.verilog_netlist.specs.Text.{Piece, spelled, joined, value_pieces, line_pieces, lines_pieces, range_pieces, tight, space, row}
use Rattle.module_netlist.specs.Names.{node_name}
use Rattle.module_netlist.specs.Lines.{spread}
use Rattle.verilog_write.specs.Sections.{line_text, lines_text, section}

pub joined-append : (ps qs : List Piece) (more : List ℕ) → joined (ps ++ qs) more ≡ joined ps [] ++ joined qs more
joined-append [] qs more = refl
joined-append (p ∷ ps) qs more =
    ap (λ l. p.gap ++ (spelled p.lexeme ++ l)) (joined-append ps qs more)
    ∙ ap (λ l. p.gap ++ l) (sym (append_assoc (spelled p.lexeme) (joined ps []) (joined qs more)))
    ∙ sym (append_assoc p.gap (spelled p.lexeme ++ joined ps []) (joined qs more))

value_more : (v : Value) (more : List Piece) → value_pieces v more ≡ value_pieces v [] ++ more
value_more (Constant width value) more = refl
value_more (Copy a) more = refl
value_more (Bits a high low) more = refl
value_more (Cell a i) more = refl
value_more (Not a) more = refl
value_more (Both s a b) more = refl
value_more (Choice t a b) more = refl
value_more (Join a b) more = refl

line_more : (l : Line) (more : List Piece) → line_pieces l more ≡ line_pieces l [] ++ more
line_more (Wire width x) more = refl
line_more (Net width x v) more =
    ap (λ l. row (Word (codes "wire")) ∷ range_pieces width (space (Word x) ∷ space (Mark sign.Assign) ∷ l))
    (value_more v (tight (Mark sign.Semicolon) ∷ more) ∙ sym (append_assoc (value_pieces v []) (tight (Mark sign.Semicolon) ∷ []) more)
    ∙ ap (λ l. l ++ more) (sym (value_more v (tight (Mark sign.Semicolon) ∷ []))))
line_more (Reg width x) more = refl
line_more (Array width x bits) more = refl
line_more (Assign x s) more = refl
line_more (Next x s) more = refl
line_more (Reset x width start s) more = refl
line_more (Write e x i s) more = refl

-- an operator's text, and that of the pieces behind it
pub value_end : (v : Value) (more : List Piece) → joined (value_pieces v more) [] ≡ joined (value_pieces v []) [] ++ joined more []
value_end v more = ap (λ ps. joined ps []) (value_more v more) ∙ joined-append (value_pieces v []) more []

-- the line of a node, as it is written
pub net_text : (k width : ℕ) (v : Value)
    → (codes "\n  wire" ++ joined (range_pieces width []) []) ++ ((codes " " ++ node_name k) ++ (codes " =" ++ (joined (value_pieces v []) [] ++ codes ";"))) ≡ line_text (Some (Net width (node_name k) v))
unfolding line_text
net_text k width v =
    sym (joined-append (row (Word (codes "wire")) ∷ range_pieces width []) (space (Word (node_name k)) ∷ space (Mark sign.Assign) ∷ value_pieces v (tight (Mark sign.Semicolon) ∷ [])) []
    ∙ ap (λ l. (codes "\n  wire" ++ joined (range_pieces width []) []) ++ (codes " " ++ (node_name k ++ (codes " =" ++ l)))) (value_end v (tight (Mark sign.Semicolon) ∷ [])))

lines_more : (l : Line) (ls : List Line) → lines_text (l ∷ ls) ≡ line_text (Some l) ++ lines_text ls
unfolding line_text
lines_more l ls = ap (λ ps. joined ps []) (line_more l (lines_pieces ls [])) ∙ joined-append (line_pieces l []) (lines_pieces ls []) []

put_more : (o : Option Line) (ls : List Line) → lines_text (put o ls) ≡ line_text o ++ lines_text ls
unfolding line_text
put_more None ls = refl
put_more (Some l) ls = lines_more l ls

-- a section, and the lines behind it
spread_more : (f : ℕ → Option Line) (n k : ℕ) (rest : List Line) → lines_text (spread f k n rest) ≡ lines_text (spread f k n []) ++ lines_text rest
spread_more f zero k rest = refl
spread_more f (suc n) k rest =
    put_more (f k) (spread f (suc k) n rest)
    ∙ ap (λ l. line_text (f k) ++ l) (spread_more f n (suc k) rest)
    ∙ sym (append_assoc (line_text (f k)) (lines_text (spread f (suc k) n [])) (lines_text rest))
    ∙ ap (λ l. l ++ lines_text rest) (sym (put_more (f k) (spread f (suc k) n [])))

pub section_more : (f : ℕ → Option Line) (n : ℕ) (rest : List Line) → lines_text (spread f 0 n rest) ≡ section f n ++ lines_text rest
unfolding section
section_more f n rest = spread_more f n 0 rest

spread_last : (f : ℕ → Option Line) (n k : ℕ) → lines_text (spread f k (suc n) []) ≡ lines_text (spread f k n []) ++ line_text (f (k + n))
spread_last f zero k = put_more (f k) [] ∙ append-nil (line_text (f k)) ∙ ap (λ j. line_text (f j)) (let e : k ≡ k + 0 = omega arith in e)
spread_last f (suc n) k =
    put_more (f k) (spread f (suc k) (suc n) [])
    ∙ ap (λ l. line_text (f k) ++ l) (spread_last f n (suc k))
    ∙ sym (append_assoc (line_text (f k)) (lines_text (spread f (suc k) n [])) (line_text (f (suc k + n))))
    ∙ ap (λ l. l ++ line_text (f (suc k + n))) (sym (put_more (f k) (spread f (suc k) n [])))
    ∙ ap (λ j. lines_text (put (f k) (spread f (suc k) n [])) ++ line_text (f j)) (let e : suc k + n ≡ k + suc n = omega arith in e)

-- nothing is written of no line
pub no_line : (f : ℕ → Option Line) (old : List ℕ) → old ≡ old ++ section f 0
unfolding section
no_line f old = sym (append-nil old)

-- one line more is written
pub section_suc : (f : ℕ → Option Line) (n : ℕ) → section f (n + 1) ≡ section f n ++ line_text (f n)
unfolding section
section_suc f n = ap (λ j. lines_text (spread f 0 j [])) (let e : n + 1 ≡ suc n = omega arith in e) ∙ spread_last f n 0 ∙ ap (λ j. lines_text (spread f 0 n []) ++ line_text (f j)) (let e : 0 + n ≡ n = omega arith in e)

-- a loop's step
pub one_more : (f : ℕ → Option Line) (n : ℕ) (old now new : List ℕ) → now ≡ old ++ section f n → new ≡ now ++ line_text (f n) → new ≡ old ++ section f (n + 1)
one_more f n old now new h k =
    k ∙ ap (λ l. l ++ line_text (f n)) h ∙ append_assoc old (section f n) (line_text (f n)) ∙ ap (λ l. old ++ l) (sym (section_suc f n))

lines_behind : (ls : List Line) (more : List Piece) → lines_pieces ls more ≡ lines_pieces ls [] ++ more
lines_behind [] more = refl
lines_behind (l ∷ ls) more =
    line_more l (lines_pieces ls more) ∙ ap (λ ps. line_pieces l [] ++ ps) (lines_behind ls more) ∙ sym (append_assoc (line_pieces l []) (lines_pieces ls []) more)
    ∙ ap (λ ps. ps ++ more) (sym (line_more l (lines_pieces ls [])))

-- lines, and pieces behind them
pub lines_then : (ls : List Line) (more : List Piece) (end : List ℕ) → joined (lines_pieces ls more) end ≡ lines_text ls ++ joined more end
lines_then ls more end = ap (λ ps. joined ps end) (lines_behind ls more) ∙ joined-append (lines_pieces ls []) more end
