-- The tokens of a text as a function and as a relation: the one has what the other says.
use Rattle.std.proofs.Common.{◌≡◌, ℕ, zero, suc, ◌-◌, ◌<◌, ◌≤◌, List, [], ◌∷◌, length, Option, Some, None, refl, ap, subst, arith}
use Rattle.verilog_tree.specs.Lexemes.{Lexeme, Placed}
use Rattle.verilog_tree.specs.Blanks.{Mode, Between, Line, Opening, Block, Closing, mode_after, at_end, on_mode, skipped}
use Rattle.verilog_tree.specs.Lex.{Scan, token_at, HasTokens}
use Rattle.verilog_tree.specs.TokensOf.{with_token, on_scan, on_text, tokens_of}
use Rattle.verilog_tree.proofs.OneList.{some_is}
use Rattle.verilog_tree.proofs.Scans.{token_short}

-- what is skipped leaves no more than there was
at_end_short : (m : Mode) (left : List ℕ) → at_end m ≡ Some left → length left ≤ 0
at_end_short Between left h = let e : [] ≡ left = some_is [] left h in omega (arith, ap length e)
at_end_short Line left h = let e : [] ≡ left = some_is [] left h in omega (arith, ap length e)
at_end_short Opening left h = absurd cc
at_end_short Block left h = absurd cc
at_end_short Closing left h = absurd cc

on_mode_short : (m : Option Mode) (b : ℕ) (bs left : List ℕ) → ((n : Mode) → skipped n bs ≡ Some left → length left ≤ length bs) → on_mode m (b ∷ bs) (λ n. skipped n bs) ≡ Some left → length left ≤ suc (length bs)
on_mode_short None b bs left again h = let e : b ∷ bs ≡ left = some_is (b ∷ bs) left h in omega (arith, ap length e)
on_mode_short (Some n) b bs left again h = omega (arith, again n h)

pub skipped_short : (m : Mode) (bytes left : List ℕ) → skipped m bytes ≡ Some left → length left ≤ length bytes
skipped_short m [] left h = at_end_short m left h
skipped_short m (b ∷ bs) left h = on_mode_short (mode_after m b bs) b bs left (λ n k. skipped_short n bs left k) h

-- ---- what is computed is so

-- the first token and the others
record First (size : ℕ) (b : ℕ) (bs : List ℕ) (ts : List Placed) (go : List ℕ → Option (List Placed)) : Type 0 where
  lexeme : Lexeme
  rest : List ℕ
  others : List Placed
  scan : token_at b bs ≡ Some (lexeme, rest)
  parts : record { at = size - suc (length bs); lexeme = lexeme } ∷ others ≡ ts
  more : go rest ≡ Some others

first_of_scan : (size b : ℕ) (bs : List ℕ) (ts : List Placed) (go : List ℕ → Option (List Placed)) (s : Scan) → token_at b bs ≡ s → on_scan (size - suc (length bs)) s go ≡ Some ts → First size b bs ts go
first_of_scan size b bs ts go None e h = absurd cc
first_of_scan size b bs ts go (Some x) e h = by_more (go x.1) refl h
  where
    by_more : (out : Option (List Placed)) → go x.1 ≡ out → with_token (record { at = size - suc (length bs); lexeme = x.0 }) out ≡ Some ts → First size b bs ts go
    by_more None f k = absurd cc
    by_more (Some others) f k = record { lexeme = x.0; rest = x.1; others = others; scan = e; parts = some_is _ ts k; more = f }

-- what the function gives, where the text is no larger than its size
pub tokens_of-has : (n size : ℕ) (bytes : List ℕ) (ts : List Placed) → length bytes ≤ size → tokens_of n size bytes ≡ Some ts → HasTokens size bytes ts
unfolding tokens_of
tokens_of-has zero size bytes ts l h = absurd cc
tokens_of-has (suc n) size bytes ts l h = by_left (skipped Between bytes) refl h (λ rest us m k. tokens_of-has n size rest us m k)
  where
    by_left : (left : Option (List ℕ)) → skipped Between bytes ≡ left → on_text size left (λ rest. tokens_of n size rest) ≡ Some ts →
        ((rest : List ℕ) (us : List Placed) → length rest ≤ size → tokens_of n size rest ≡ Some us → HasTokens size rest us) → HasTokens size bytes ts
    by_left None e k again = absurd cc
    by_left (Some []) e k again = subst (HasTokens size bytes) (some_is [] ts k) e
    by_left (Some (b ∷ bs)) e k again =
        let f = first_of_scan size b bs ts (λ rest. tokens_of n size rest) (token_at b bs) refl k in
        let fits : suc (length bs) ≤ length bytes = skipped_short Between bytes (b ∷ bs) e in
        let left : length f.rest ≤ length bs = token_short b bs f.lexeme f.rest f.scan in
        subst (HasTokens size bytes) f.parts (b, bs, f.rest, e, (omega arith), f.scan, again f.rest f.others (omega arith) f.more)

-- ---- what is so is computed

pub tokens_of-is : (n size : ℕ) (bytes : List ℕ) (ts : List Placed) → HasTokens size bytes ts → length ts < n → tokens_of n size bytes ≡ Some ts
unfolding tokens_of
tokens_of-is zero size bytes ts h l = absurd (omega arith)
tokens_of-is (suc n) size bytes [] h l = rw h refl
tokens_of-is (suc n) size bytes (t ∷ ts) (b, bs, rest, e, at, scan, more) l =
    let place : size - suc (length bs) ≡ t.at = omega arith in
    rw (e, scan, tokens_of-is n size rest ts more (omega arith), place) refl
