-- The text of pieces has their tokens, where each piece that stands right behind another one is told from it.
use Rattle.std.proofs.Common.{◌≡◌, ℕ, suc, ◌+◌, ◌^◌, ◌<◌, Bool, true, false, List, [], ◌∷◌, ◌++◌, length, Some, refl, sym, ap, subst, ◌∙◌, arith, length-append, eqb}
use Rattle.std.specs.Prelude.{◌&&◌, ◌||◌, codes}
use Rattle.std.specs.Char.{digit_value}
use Rattle.std.specs.Str.Parse.{IsNumeral}
use Rattle.std.specs.Fmt.{decimal}
use Rattle.std.proofs.lemmas.Fmt.{decimal_is_IsNumeral}
use Rattle.std.proofs.lemmas.Bool.Decides.{nat_tests}
use Rattle.verilog_tree.specs.Signs.{Sign}
use Rattle.verilog_tree.specs.Signs as sign
use Rattle.verilog_tree.specs.Bytes.{is_space, is_letter}
use Rattle.verilog_tree.specs.Blanks.{Between, skipped}
use Rattle.verilog_tree.specs.Lexemes.{Lexeme, Word, Number, Sized, Mark, Placed}
use Rattle.verilog_tree.specs.Lex.{HasTokens}
use Rattle.verilog_netlist.specs.Text.{Piece, sign_bytes, spelled, joined}
use Rattle.verilog_netlist.specs.Places.{place_in}
use Rattle.verilog_netlist.specs.Writable.{IsWord}
use Rattle.netlist_text.proofs.Rereads.{IsPrintable, Stops, is_second, joins, rereads, or_no}

-- ---- pieces that are told from each other

-- the signs that end any token before them
abbrev pub closes : Sign → Bool
closes sign.Open = true
closes sign.Close = true
closes sign.OpenBracket = true
closes sign.CloseBracket = true
closes sign.CloseBrace = true
closes sign.Comma = true
closes sign.Semicolon = true
closes sign.Colon = true
closes s = false

abbrev pub is_sign : Lexeme → Bool
is_sign (Mark s) = true
is_sign x = false

-- whether a token may stand right behind another one: such a sign behind any, a word or a number behind a sign
abbrev pub is_tight : (next before : Lexeme) → Bool
is_tight (Mark s) x = closes s
is_tight (Word w) x = is_sign x
is_tight (Number n) x = is_sign x
is_tight (Sized width value) x = false

-- or behind this gap
abbrev pub is_apart : (gap : List ℕ) (next before : Lexeme) → Bool
is_apart [] next before = is_tight next before
is_apart (g ∷ gs) next before = true

abbrev pub meets : Lexeme → List Piece → Bool
meets x [] = true
meets x (q ∷ qs) = is_apart q.gap q.lexeme x

abbrev pub is_gap : List ℕ → Bool
is_gap [] = true
is_gap (g ∷ gs) = is_space g && is_gap gs

abbrev pub spaced : List Piece → Bool
spaced [] = true
spaced (q ∷ qs) = is_gap q.gap && (meets q.lexeme qs && spaced qs)

abbrev pub ArePrintable : List Piece → Type 0
ArePrintable [] = Unit {0}
ArePrintable (q ∷ qs) = IsPrintable q.lexeme × ArePrintable qs

-- the tokens, with a place for each number from k on
abbrev pub laid : (ℕ → ℕ) → ℕ → List Piece → List Placed
laid p k [] = []
laid p k (q ∷ qs) = record { at = p k; lexeme = q.lexeme } ∷ laid p (suc k) qs

and_yes : (a b : Bool) → (a && b) ≡ true → (a ≡ true) × (b ≡ true)
and_yes true b h = (refl, h)
and_yes false b h = absurd cc

-- ---- gaps

past_gap : (gap xs : List ℕ) → is_gap gap ≡ true → skipped Between (gap ++ xs) ≡ skipped Between xs
past_gap [] xs h = refl
past_gap (g ∷ gs) xs h = let b = and_yes (is_space g) (is_gap gs) h in rw (b.0) (past_gap gs xs b.1)

past : (size : ℕ) (gap xs : List ℕ) (ts : List Placed) → is_gap gap ≡ true → HasTokens size xs ts → HasTokens size (gap ++ xs) ts
past size gap xs [] g h = past_gap gap xs g ∙ h
past size gap xs (t ∷ ts) g (b, bs, rest, h, at, scan, others) = (b, bs, rest, past_gap gap xs g ∙ h, at, scan, others)

-- nothing stands before a token's first byte
at_once : (b : ℕ) (bs : List ℕ) → (is_space b || eqb b 47) ≡ false → skipped Between (b ∷ bs) ≡ Some (b ∷ bs)
at_once b bs h =
    let no = or_no (is_space b) (eqb b 47) h in
    rw (no.0, no.1) refl

-- ---- the byte behind a token

space_ends : (t : Lexeme) (b : ℕ) → is_space b ≡ true → joins t b ≡ false
space_ends (Word w) b h = grind (arith, nat_tests)
space_ends (Number n) b h = grind (arith, nat_tests)
space_ends (Sized width value) b h = grind (arith, nat_tests)
space_ends (Mark s) b h = grind (arith, nat_tests)

letter_ends : (b : ℕ) → is_letter b ≡ true → is_second b ≡ false
letter_ends b h = grind (arith, nat_tests)

digit_ends : (b : ℕ) → digit_value b < 10 → is_second b ≡ false
digit_ends b h = grind (arith, nat_tests)

-- ( ) [ ] } , ; :
abbrev is_closing : ℕ → Bool
is_closing b = eqb b 40 || eqb b 41 || eqb b 91 || eqb b 93 || eqb b 125 || eqb b 44 || eqb b 59 || eqb b 58

closing_ends : (t : Lexeme) (b : ℕ) → is_closing b ≡ true → joins t b ≡ false
closing_ends (Word w) b h = grind (arith, nat_tests)
closing_ends (Number n) b h = grind (arith, nat_tests)
closing_ends (Sized width value) b h = grind (arith, nat_tests)
closing_ends (Mark s) b h = grind (arith, nat_tests)

sign_ends : (t : Lexeme) (s : Sign) (rest : List ℕ) → closes s ≡ true → Stops (joins t) (sign_bytes s ++ rest)
sign_ends t sign.Open rest h = closing_ends t 40 refl
sign_ends t sign.Close rest h = closing_ends t 41 refl
sign_ends t sign.OpenBracket rest h = closing_ends t 91 refl
sign_ends t sign.CloseBracket rest h = closing_ends t 93 refl
sign_ends t sign.CloseBrace rest h = closing_ends t 125 refl
sign_ends t sign.Comma rest h = closing_ends t 44 refl
sign_ends t sign.Semicolon rest h = closing_ends t 59 refl
sign_ends t sign.Colon rest h = closing_ends t 58 refl
sign_ends t _ rest h = absurd cc

word_ends : (s : Sign) (w rest : List ℕ) → IsWord w → Stops (joins (Mark s)) (w ++ rest)
word_ends s [] rest h = absurd h
word_ends s (b ∷ bs) rest h = letter_ends b h.0

digits_end : (s : Sign) (ds rest : List ℕ) → IsNumeral 10 ds → Stops (joins (Mark s)) (ds ++ rest)
digits_end s [] rest h = absurd (omega (arith, h.0))
digits_end s (d ∷ ds) rest h = digit_ends d h.1.0

-- a sign before a word or a number
sign_is : (t : Lexeme) → is_sign t ≡ true → (s : Sign) × (t ≡ Mark s)
sign_is (Mark s) h = (s, refl)
sign_is (Word w) h = absurd cc
sign_is (Number n) h = absurd cc
sign_is (Sized width value) h = absurd cc

tight_ends : (t x : Lexeme) (rest : List ℕ) → IsPrintable x → is_tight x t ≡ true → Stops (joins t) (spelled x ++ rest)
tight_ends t (Mark s) rest p h = sign_ends t s rest h
tight_ends t (Word w) rest p h = let s = sign_is t h in subst (λ (u : Lexeme). Stops (joins u) (w ++ rest)) (sym s.1) (word_ends s.0 w rest p.0)
tight_ends t (Number n) rest p h =
    let s = sign_is t h in
    let small : n < 2 ^ 64 = omega arith in
    subst (λ (u : Lexeme). Stops (joins u) (decimal n ++ rest)) (sym s.1) (digits_end s.0 (decimal n) rest (decimal_is_IsNumeral n small).0)
tight_ends t (Sized width value) rest p h = absurd cc

apart_ends : (t : Lexeme) (gap : List ℕ) (x : Lexeme) (rest : List ℕ) → IsPrintable x → is_gap gap ≡ true → is_apart gap x t ≡ true → Stops (joins t) (gap ++ (spelled x ++ rest))
apart_ends t [] x rest p g h = tight_ends t x rest p h
apart_ends t (b ∷ bs) x rest p g h = space_ends t b (and_yes (is_space b) (is_gap bs) g).0

-- what stands behind a token, up to the end of the text
behind_ends : (t : Lexeme) (qs : List Piece) → ArePrintable qs → spaced qs ≡ true → meets t qs ≡ true → Stops (joins t) (joined qs (codes "\n"))
behind_ends t [] p s h = space_ends t 10 refl
behind_ends t (q ∷ qs) p s h = apart_ends t q.gap q.lexeme (joined qs (codes "\n")) p.0 (and_yes (is_gap q.gap) (meets q.lexeme qs && spaced qs) s).0 h

-- ---- whole texts

-- The places are those where the tokens stand, of which the first stands behind this many bytes.
abbrev pub Stand : (p : ℕ → ℕ) (k before : ℕ) → List Piece → Type 0
Stand p k before [] = Unit {0}
Stand p k before (q ∷ qs) = (p k ≡ before + length q.gap) × Stand p (suc k) (before + (length q.gap + length (spelled q.lexeme))) qs

pub stand : (p : ℕ → ℕ) (k before : ℕ) (qs : List Piece) → ((j i : ℕ) → i ≡ k + j → p i ≡ before + place_in qs j) → Stand p k before qs
stand p k before [] h = tt
stand p k before (q ∷ qs) h = (h 0 k (omega arith), stand p (suc k) (before + (length q.gap + length (spelled q.lexeme))) qs (λ j i e. let at : p i ≡ before + place_in (q ∷ qs) (suc j) = h (suc j) i (omega arith) in omega arith))

-- one token before the others
first_token : (size at before : ℕ) (gap : List ℕ) (x : Lexeme) (rest : List ℕ) (ts : List Placed) → IsPrintable x → is_gap gap ≡ true → Stops (joins x) rest → at ≡ before + length gap → before + length (gap ++ (spelled x ++ rest)) ≡ size →
    HasTokens size rest ts → HasTokens size (gap ++ (spelled x ++ rest)) (record { at = at; lexeme = x } ∷ ts)
first_token size at before gap x rest ts p g e a s more =
    let r = rereads x p in
    let text : spelled x ++ rest ≡ r.first ∷ (r.others ++ rest) = ap (λ (l : List ℕ). l ++ rest) r.parts in
    let long : length (spelled x ++ rest) ≡ suc (length (r.others ++ rest)) = ap length text in
    past size gap (spelled x ++ rest) (record { at = at; lexeme = x } ∷ ts) g
    (r.first, r.others ++ rest, rest, ap (skipped Between) text ∙ at_once r.first (r.others ++ rest) r.begins, (omega (arith, length-append gap (spelled x ++ rest))), r.reads rest e, more)

pub pieces_tokens : (p : ℕ → ℕ) (size k before : ℕ) (qs : List Piece) → ArePrintable qs → spaced qs ≡ true → Stand p k before qs → before + length (joined qs (codes "\n")) ≡ size → HasTokens size (joined qs (codes "\n")) (laid p k qs)
pieces_tokens p size k before [] h s a e = refl
pieces_tokens p size k before (q ∷ qs) h s a e =
    let parts = and_yes (is_gap q.gap) (meets q.lexeme qs && spaced qs) s in
    let others = and_yes (meets q.lexeme qs) (spaced qs) parts.1 in
    let rest = joined qs (codes "\n") in
    first_token size (p k) before q.gap q.lexeme rest (laid p (suc k) qs) h.0 parts.0 (behind_ends q.lexeme qs h.1 others.1 others.0) a.0 e
    (pieces_tokens p size (suc k) (before + (length q.gap + length (spelled q.lexeme))) qs h.1 others.1 a.1 (omega (arith, length-append q.gap (spelled q.lexeme ++ rest), length-append (spelled q.lexeme) rest)))

-- the text of pieces has their tokens, each at its place
pub text_tokens : (qs : List Piece) → ArePrintable qs → spaced qs ≡ true → HasTokens (length (joined qs (codes "\n"))) (joined qs (codes "\n")) (laid (place_in qs) 0 qs)
text_tokens qs h s = pieces_tokens (place_in qs) (length (joined qs (codes "\n"))) 0 0 qs h s (stand (place_in qs) 0 0 qs (λ j i e. let same : i ≡ j = omega arith in let at : place_in qs i ≡ place_in qs j = ap (place_in qs) same in omega arith)) (omega arith)
