-- A text is read by computing: its tokens, and then the module that they spell.
use Rattle.std.proofs.Common.{◌≡◌, ℕ, suc, ◌+◌, ◌^◌, ◌<◌, ◌≤◌, List, [], ◌∷◌, ◌++◌, length, Option, Some, None, Result, Ok, Err, refl, sym, subst, arith, length-append}
use Rattle.verilog_tree.specs.Lexemes.{Sized, Placed}
use Rattle.verilog_tree.specs.Blanks.{Between}
use Rattle.verilog_tree.specs.Lex.{HasTokens}
use Rattle.verilog_tree.specs.TokensOf.{tokens_of}
use Rattle.verilog_tree.specs.TokensAhead.{tokens_ahead}
use Rattle.verilog_tree.specs.Hex.{hex8, literal_bytes, EndsLiteral}
use Rattle.verilog_tree.specs.Readers.{Stop}
use Rattle.verilog_tree.specs.Read.{read, made, read_tokens, read_text}
use Rattle.verilog_tree.specs.declared.tree.Tree.{Tree}
use Rattle.verilog_tree.specs.Module.{Reads, HasOneReading}
use Rattle.verilog_tree.proofs.ModuleIsRead.{one_tree, read-is}
use Rattle.verilog_tree.proofs.ModuleIsSpelled.{read-spells}
use Rattle.verilog_tree.proofs.OneList.{some_is}
use Rattle.verilog_tree.proofs.TokenList.{skipped_short, tokens_of-has, tokens_of-is}
use Rattle.verilog_tree.proofs.Scans.{token_short}
use Rattle.verilog_tree.proofs.Pieces.{tokens_ahead-append}
use Rattle.verilog_tree.proofs.LiteralToken.{literal_token_law}

-- A text whose tokens are read has that tree and no other.
pub reads_by_tokens : (bytes : List ℕ) (ts : List Placed) (t : Tree) → HasTokens (length bytes) bytes ts → read ts ≡ Ok t → HasOneReading bytes t
reads_by_tokens bytes ts t h k =
    let reads : Reads bytes t = (ts, h, read-spells ts t k) in
    (reads, λ other r. one_tree bytes other t r reads)

-- The same, with the tokens computed.
pub reads_computed : (n : ℕ) (bytes : List ℕ) (ts : List Placed) (t : Tree) → tokens_of n (length bytes) bytes ≡ Some ts → read ts ≡ Ok t → HasOneReading bytes t
reads_computed n bytes ts t h k = reads_by_tokens bytes ts t (tokens_of-has n (length bytes) bytes ts (omega arith) h) k

-- each token has a byte of its own
has_short : (size : ℕ) (bytes : List ℕ) (ts : List Placed) → HasTokens size bytes ts → length ts ≤ length bytes
has_short size bytes [] h = omega arith
has_short size bytes (t ∷ ts) (b, bs, rest, e, at, scan, more) = omega (arith, skipped_short Between bytes (b ∷ bs) e, token_short b bs t.lexeme rest scan, has_short size rest ts more)

-- ---- the function and the relation agree

pub read_text-is : (bytes : List ℕ) (t : Tree) → Reads bytes t → read_text bytes ≡ Some t
unfolding read_text
read_text-is bytes t (ts, h, k) = rw (tokens_of-is (suc (length bytes)) (length bytes) bytes ts h (omega (arith, has_short (length bytes) bytes ts h)), read-is t ts k) refl

pub read_text-reads : (bytes : List ℕ) (t : Tree) → read_text bytes ≡ Some t → HasOneReading bytes t
unfolding read_text
read_text-reads bytes t h = by_tokens (tokens_of (suc (length bytes)) (length bytes) bytes) refl h
  where
    by_tree : (ts : List Placed) (out : Result Tree Stop) → tokens_of (suc (length bytes)) (length bytes) bytes ≡ Some ts → read ts ≡ out → made out ≡ Some t → HasOneReading bytes t
    by_tree ts (Ok u) e f k = subst (HasOneReading bytes) (some_is u t k) (reads_computed (suc (length bytes)) bytes ts u e f)
    by_tree ts (Err s) e f k = absurd cc

    by_tokens : (o : Option (List Placed)) → tokens_of (suc (length bytes)) (length bytes) bytes ≡ o → read_tokens o ≡ Some t → HasOneReading bytes t
    by_tokens None e k = absurd cc
    by_tokens (Some ts) e k = by_tree ts (read ts) e refl k

-- a text with no tree
pub read_text-none : (bytes : List ℕ) → read_text bytes ≡ None → (t : Tree) → Reads bytes t → ⊥
read_text-none bytes h t r = let e = read_text-is bytes t r in cc

-- ---- a text with a variable inside

abbrev pub literal_at : ℕ → ℕ → Placed
literal_at at v = record { at = at; lexeme = Sized 32 v }

-- A literal of any value, before the tokens of the rest.
pub literal-append : (size at v : ℕ) (rest : List ℕ) (us : List Placed) → v < 2 ^ 32 → EndsLiteral rest → at + (12 + length rest) ≡ size → HasTokens size rest us →
    HasTokens size (literal_bytes v ++ rest) (literal_at at v ∷ us)
literal-append size at v rest us lt ends place more = (51, 50 ∷ 39 ∷ 104 ∷ (hex8 v ++ rest), rest, refl, (omega arith), literal_token_law v lt rest ends, more)

-- A text with a literal of any value between two pieces that are computed.
pub reads_around : (n m v : ℕ) (front back : List ℕ) (ts us : List Placed) (t : Tree) → tokens_ahead n (length front) front ≡ Some ts → v < 2 ^ 32 → EndsLiteral back → tokens_of m (length front + (12 + length back)) back ≡ Some us →
    read (ts ++ (literal_at (length front) v ∷ us)) ≡ Ok t → HasOneReading (front ++ (literal_bytes v ++ back)) t
reads_around n m v front back ts us t h lt ends k r =
    let size = length front + (12 + length back) in
    let whole : length (front ++ (literal_bytes v ++ back)) ≡ size = omega (arith, length-append front (literal_bytes v ++ back)) in
    let behind : HasTokens size back us = tokens_of-has m size back us (omega arith) k in
    let middle : HasTokens size (literal_bytes v ++ back) (literal_at (length front) v ∷ us) = literal-append size (length front) v back us lt ends refl behind in
    let all : HasTokens size (front ++ (literal_bytes v ++ back)) (ts ++ (literal_at (length front) v ∷ us)) =
    tokens_ahead-append n (length front) size front (literal_bytes v ++ back) ts (literal_at (length front) v ∷ us) (omega arith) (omega arith) h middle in
    reads_by_tokens (front ++ (literal_bytes v ++ back)) (ts ++ (literal_at (length front) v ∷ us)) t (subst (λ (s : ℕ). HasTokens s (front ++ (literal_bytes v ++ back)) (ts ++ (literal_at (length front) v ∷ us))) (sym whole) all) r

-- What is computed of such a text: the tokens of both pieces, and the tree.
abbrev pub joined : Option (List Placed) → Placed → Option (List Placed) → Option (List Placed)
joined (Some ts) t (Some us) = Some (ts ++ (t ∷ us))
joined None t us = None
joined (Some ts) t None = None

abbrev pub read_around : ℕ → List ℕ → List ℕ → Option Tree
read_around v front back = read_tokens (joined (tokens_ahead (suc (length front)) (length front) front) (literal_at (length front) v) (tokens_of (suc (length back)) (length front + (12 + length back)) back))

pub read_around-reads : (v : ℕ) (front back : List ℕ) (t : Tree) → v < 2 ^ 32 → EndsLiteral back → read_around v front back ≡ Some t → HasOneReading (front ++ (literal_bytes v ++ back)) t
read_around-reads v front back t lt ends h = by_tokens (tokens_ahead (suc (length front)) (length front) front) (tokens_of (suc (length back)) (length front + (12 + length back)) back) refl refl h
  where
    by_tree : (ts us : List Placed) (out : Result Tree Stop) → tokens_ahead (suc (length front)) (length front) front ≡ Some ts → tokens_of (suc (length back)) (length front + (12 + length back)) back ≡ Some us →
        read (ts ++ (literal_at (length front) v ∷ us)) ≡ out → made out ≡ Some t → HasOneReading (front ++ (literal_bytes v ++ back)) t
    by_tree ts us (Ok u) e f g k = subst (HasOneReading (front ++ (literal_bytes v ++ back))) (some_is u t k) (reads_around (suc (length front)) (suc (length back)) v front back ts us u e lt ends f g)
    by_tree ts us (Err s) e f g k = absurd cc

    by_tokens : (o p : Option (List Placed)) → tokens_ahead (suc (length front)) (length front) front ≡ o → tokens_of (suc (length back)) (length front + (12 + length back)) back ≡ p →
        read_tokens (joined o (literal_at (length front) v) p) ≡ Some t → HasOneReading (front ++ (literal_bytes v ++ back)) t
    by_tokens None p e f k = absurd cc
    by_tokens (Some ts) None e f k = absurd cc
    by_tokens (Some ts) (Some us) e f k = by_tree ts us (read (ts ++ (literal_at (length front) v ∷ us))) e f refl k
