-- The rows of a netlist's text are short: by the pieces of each row, whose words, numbers and literals are short.
use Rattle.std.proofs.Common.{◌≡◌, ℕ, zero, suc, ◌+◌, ◌*◌, ◌/◌, ◌%◌, ◌^◌, ◌<◌, ◌≤◌, Bool, true, false, cond, eqb, List, [], ◌∷◌, ◌++◌, length, refl, subst, arith, length-append}
use Rattle.std.specs.Prelude.{codes}
use Rattle.std.specs.Char.{digit_value}
use Rattle.std.specs.Str.Parse.{AllDigits}
use Rattle.std.specs.Fmt.{digit_glyph, digits_onto, digits, decimal}
use Rattle.std.proofs.lemmas.Fmt.{decimal_is_IsNumeral, digits_is_IsNumeral, length-decimal-le}
use Rattle.std.proofs.lemmas.Bool.Decides.{nat_tests}
use Rattle.std.proofs.Math.Pow.{pow_mono}
use Rattle.verilog_tree.specs.Bytes.{is_letter, is_word_byte}
use Rattle.verilog_tree.specs.Signs.{Sign}
use Rattle.verilog_tree.specs.Signs as sign
use Rattle.verilog_tree.specs.Lexemes.{Lexeme, Word, Number, Sized, Mark}
use Rattle.verilog_netlist.specs.Text.{Piece, sign_bytes, spelled, joined}
use Rattle.verilog_netlist.specs.Writable.{AreWordBytes, RowsBelow}
use Rattle.netlist_text.proofs.Rereads.{IsPrintable}
use Rattle.netlist_text.proofs.Tokens.{ArePrintable}

-- ---- how long numbers are

onto_by : (j n : ℕ) (acc longer : List ℕ) (d : ℕ) (t : Bool) → eqb (n / 16) 0 ≡ t → n < 16 ^ suc j → ((l : ℕ) → n / 16 < 16 ^ suc l → length longer ≤ suc l + length (d ∷ acc)) → length (cond t (d ∷ acc) longer) ≤ suc j + length acc
onto_by j n acc longer d true e h again = omega arith
onto_by zero n acc longer d false e h again = absurd (grind (arith, nat_tests))
onto_by (suc l) n acc longer d false e h again = omega (arith, again l (omega arith))

onto_short : (i j n : ℕ) (acc : List ℕ) → n < 16 ^ suc j → length (digits_onto i 16 false n acc) ≤ suc j + length acc
onto_short zero j n acc h = omega arith
onto_short (suc i) j n acc h =
    let d = digit_glyph false (n % 16) in
    onto_by j n acc (digits_onto i 16 false (n / 16) (d ∷ acc)) d (eqb (n / 16) 0) refl h (λ l k. onto_short i l (n / 16) (d ∷ acc) k)

pub hex_short : (width value : ℕ) → width ≤ 64 → value < 2 ^ width → length (digits 16 false value) ≤ 16
unfolding digits
hex_short width value h lt = omega (arith, onto_short 64 15 value [] (omega (arith, pow_mono {i = width} {j = 64} h)))

pub two_digits : (n : ℕ) → n ≤ 64 → length (decimal n) ≤ 2
two_digits n h = length-decimal-le 2 n (omega arith) (omega arith) (omega arith)

pub five_digits : (n : ℕ) → n < 65536 → length (decimal n) ≤ 5
five_digits n h = length-decimal-le 5 n (omega arith) (omega arith) (omega arith)

-- ---- bytes that are no line feed

abbrev NoFeed : List ℕ → Type 0
NoFeed [] = Unit {0}
NoFeed (b ∷ bs) = (eqb b 10 ≡ false) × NoFeed bs

no_feed-append : (xs ys : List ℕ) → NoFeed xs → NoFeed ys → NoFeed (xs ++ ys)
no_feed-append [] ys h k = k
no_feed-append (x ∷ xs) ys h k = (h.0, no_feed-append xs ys h.1 k)

word_byte-no_feed : (b : ℕ) → is_word_byte b ≡ true → eqb b 10 ≡ false
word_byte-no_feed b h = grind (arith, nat_tests)

letter-no_feed : (b : ℕ) → is_letter b ≡ true → eqb b 10 ≡ false
letter-no_feed b h = grind (arith, nat_tests)

digit-no_feed : (b : ℕ) → digit_value b < 16 → eqb b 10 ≡ false
digit-no_feed b h = grind (arith, nat_tests)

word_bytes-no_feed : (bs : List ℕ) → AreWordBytes bs → NoFeed bs
word_bytes-no_feed [] h = tt
word_bytes-no_feed (b ∷ bs) h = (word_byte-no_feed b h.0, word_bytes-no_feed bs h.1)

digits-no_feed : (base : ℕ) (ds : List ℕ) → base ≤ 16 → AllDigits base ds → NoFeed ds
digits-no_feed base [] l h = tt
digits-no_feed base (d ∷ ds) l h = (digit-no_feed d (omega (arith, h.0)), digits-no_feed base ds l h.1)

decimal-no_feed : (n : ℕ) → n < 2 ^ 64 → NoFeed (decimal n)
decimal-no_feed n h = digits-no_feed 10 (decimal n) (omega arith) (decimal_is_IsNumeral n h).0.1

sign-no_feed : (s : Sign) → NoFeed (sign_bytes s)
sign-no_feed sign.LessEqual = (refl, (refl, tt))
sign-no_feed sign.Equal = (refl, (refl, tt))
sign-no_feed sign.Open = (refl, tt)
sign-no_feed sign.Close = (refl, tt)
sign-no_feed sign.OpenBracket = (refl, tt)
sign-no_feed sign.CloseBracket = (refl, tt)
sign-no_feed sign.OpenBrace = (refl, tt)
sign-no_feed sign.CloseBrace = (refl, tt)
sign-no_feed sign.Comma = (refl, tt)
sign-no_feed sign.Semicolon = (refl, tt)
sign-no_feed sign.Colon = (refl, tt)
sign-no_feed sign.Question = (refl, tt)
sign-no_feed sign.Assign = (refl, tt)
sign-no_feed sign.Less = (refl, tt)
sign-no_feed sign.Plus = (refl, tt)
sign-no_feed sign.Minus = (refl, tt)
sign-no_feed sign.And = (refl, tt)
sign-no_feed sign.Or = (refl, tt)
sign-no_feed sign.Xor = (refl, tt)
sign-no_feed sign.Not = (refl, tt)
sign-no_feed sign.At = (refl, tt)

spelled-no_feed : (x : Lexeme) → IsPrintable x → NoFeed (spelled x)
spelled-no_feed (Word []) h = tt
spelled-no_feed (Word (b ∷ bs)) h = (letter-no_feed b h.0.0, word_bytes-no_feed bs h.0.1)
spelled-no_feed (Number n) h = decimal-no_feed n (omega arith)
spelled-no_feed (Sized width value) h =
    let x = digits_is_IsNumeral 16 false (omega arith) (omega arith) value (omega (arith, pow_mono {i = width} {j = 64} h.1, h.2)) in
    no_feed-append (decimal width) (codes "'h" ++ digits 16 false value) (decimal-no_feed width (omega (arith, h.1))) (refl, (refl, digits-no_feed 16 (digits 16 false value) (omega arith) x.0.1))
spelled-no_feed (Mark s) h = sign-no_feed s

-- ---- rows, by pieces

-- one of two statements
abbrev either_of : Bool → Type 0 → Type 0 → Type 0
either_of true A B = A
either_of false A B = B

-- A gap where this many bytes of a row are behind, and then what must hold of those behind it.
abbrev GapFits : (before : ℕ) → List ℕ → (ℕ → Type 0) → Type 0
GapFits before [] go = go before
GapFits before (g ∷ gs) go = either_of (eqb g 10) ((before < 160) × GapFits 0 gs go) (GapFits (suc before) gs go)

-- each row is short
abbrev pub RowsFit : (before : ℕ) → List Piece → Type 0
RowsFit before [] = before < 160
RowsFit before (q ∷ qs) = GapFits before q.gap (λ b. RowsFit (b + length (spelled q.lexeme)) qs)

byte_by : (before : ℕ) (bs : List ℕ) (t : Bool) → t ≡ false → RowsBelow 160 (suc before) bs → elim t as (λ (x : Bool). Type 0) [ true ↦ (before < 160) × RowsBelow 160 0 bs | false ↦ RowsBelow 160 (suc before) bs ]
byte_by before bs true h k = absurd cc
byte_by before bs false h k = k

byte_below : (before b : ℕ) (bs : List ℕ) → eqb b 10 ≡ false → RowsBelow 160 (suc before) bs → RowsBelow 160 before (b ∷ bs)
byte_below before b bs h k = byte_by before bs (eqb b 10) h k

run_below : (before : ℕ) (bs xs : List ℕ) → NoFeed bs → RowsBelow 160 (before + length bs) xs → RowsBelow 160 before (bs ++ xs)
run_below before [] xs h k = subst (λ (n : ℕ). RowsBelow 160 n xs) {x = before + 0} {y = before} (omega arith) k
run_below before (b ∷ bs) xs h k =
    byte_below before b (bs ++ xs) h.0 (run_below (suc before) bs xs h.1 (subst (λ (n : ℕ). RowsBelow 160 n xs) {x = before + suc (length bs)} {y = suc before + length bs} (omega arith) k))

gap_by : (before : ℕ) (gs xs : List ℕ) (go : ℕ → Type 0) (t : Bool) → either_of t ((before < 160) × GapFits 0 gs go) (GapFits (suc before) gs go) →
    ((b : ℕ) → GapFits b gs go → RowsBelow 160 b (gs ++ xs)) → elim t as (λ (x : Bool). Type 0) [ true ↦ (before < 160) × RowsBelow 160 0 (gs ++ xs) | false ↦ RowsBelow 160 (suc before) (gs ++ xs) ]
gap_by before gs xs go true k again = (k.0, again 0 k.1)
gap_by before gs xs go false k again = again (suc before) k

gap_below : (before : ℕ) (gap xs : List ℕ) (go : ℕ → Type 0) → ((b : ℕ) → go b → RowsBelow 160 b xs) → GapFits before gap go → RowsBelow 160 before (gap ++ xs)
gap_below before [] xs go f h = f before h
gap_below before (g ∷ gs) xs go f h = gap_by before gs xs go (eqb g 10) h (λ b k. gap_below b gs xs go f k)

pub rows_below : (before : ℕ) (qs : List Piece) → ArePrintable qs → RowsFit before qs → RowsBelow 160 before (joined qs (codes "\n"))
rows_below before [] p h = (h, omega arith)
rows_below before (q ∷ qs) p h =
    gap_below before q.gap (spelled q.lexeme ++ joined qs (codes "\n")) (λ b. RowsFit (b + length (spelled q.lexeme)) qs)
    (λ b k. run_below b (spelled q.lexeme) (joined qs (codes "\n")) (spelled-no_feed q.lexeme p.0) (rows_below (b + length (spelled q.lexeme)) qs p.1 k)) h

-- ---- how long the text is, by its rows

abbrev pub gap_feeds : List ℕ → ℕ
gap_feeds [] = 0
gap_feeds (g ∷ gs) = cond (eqb g 10) (suc (gap_feeds gs)) (gap_feeds gs)

abbrev pub feeds : List Piece → ℕ
feeds [] = 0
feeds (q ∷ qs) = gap_feeds q.gap + feeds qs

size_by : (before : ℕ) (gs : List ℕ) (go : ℕ → Type 0) (size others : ℕ) (t : Bool) → either_of t ((before < 160) × GapFits 0 gs go) (GapFits (suc before) gs go) →
    ((b : ℕ) → GapFits b gs go → b + (length gs + size) ≤ 160 * (1 + (gap_feeds gs + others))) → before + (suc (length gs) + size) ≤ 160 * (1 + (cond t (suc (gap_feeds gs)) (gap_feeds gs) + others))
size_by before gs go size others true k again = omega (arith, k.0, again 0 k.1)
size_by before gs go size others false k again = omega (arith, again (suc before) k)

gap_size : (before : ℕ) (gap : List ℕ) (go : ℕ → Type 0) (size others : ℕ) → ((b : ℕ) → go b → b + size ≤ 160 * (1 + others)) → GapFits before gap go → before + (length gap + size) ≤ 160 * (1 + (gap_feeds gap + others))
gap_size before [] go size others f h = omega (arith, f before h)
gap_size before (g ∷ gs) go size others f h = size_by before gs go size others (eqb g 10) h (λ b k. gap_size b gs go size others f k)

-- a text has at most 160 bytes for each row, with its line feed
pub rows_size : (before : ℕ) (qs : List Piece) → RowsFit before qs → before + length (joined qs (codes "\n")) ≤ 160 * (1 + feeds qs)
rows_size before [] h = omega arith
rows_size before (q ∷ qs) h =
    let rest = joined qs (codes "\n") in
    let both : length (spelled q.lexeme ++ rest) ≡ length (spelled q.lexeme) + length rest = length-append (spelled q.lexeme) rest in
    let all : length (q.gap ++ (spelled q.lexeme ++ rest)) ≡ length q.gap + length (spelled q.lexeme ++ rest) = length-append q.gap (spelled q.lexeme ++ rest) in
    omega (arith, gap_size before q.gap (λ b. RowsFit (b + length (spelled q.lexeme)) qs) (length (spelled q.lexeme ++ rest)) (feeds qs) (λ b k. omega (arith, rows_size (b + length (spelled q.lexeme)) qs k)) h)
