-- A text in pieces: the tokens of its front, computed alone, stand before those of the rest.
use Rattle.std.proofs.Common.{◌≡◌, ℕ, zero, suc, ◌+◌, ◌-◌, ◌≤◌, Bool, true, false, ◌&&◌, List, [], ◌∷◌, ◌++◌, length, Option, Some, None, refl, sym, ap, subst, ◌∙◌, arith, eqb, length-append}
use Rattle.verilog_tree.specs.Bytes.{choose, is_space, begins}
use Rattle.verilog_tree.specs.Lexemes.{Lexeme, Placed}
use Rattle.verilog_tree.specs.Blanks.{Mode, Between, Line, Opening, Block, Closing, mode_after, at_end, on_mode, skipped}
use Rattle.verilog_tree.specs.Lex.{Scan, token_at, HasTokens}
use Rattle.verilog_tree.specs.TokensOf.{with_token}
use Rattle.verilog_tree.specs.TokensAhead.{on_next, mode_behind, ahead_end, ahead_scan, ahead_text, tokens_ahead}
use Rattle.verilog_tree.proofs.Scans.{token_short, token_same}
use Rattle.verilog_tree.proofs.OneList.{some_is}
use Rattle.verilog_tree.proofs.TokenList.{skipped_short}

-- ---- spaces and comments

-- a mode goes by a byte and the next one
mode_same : (m : Mode) (b c : ℕ) (cs more : List ℕ) → mode_after m b (c ∷ cs) ≡ mode_after m b (c ∷ (cs ++ more))
mode_same Between b c cs more = refl
mode_same Line b c cs more = refl
mode_same Opening b c cs more = refl
mode_same Block b c cs more = refl
mode_same Closing b c cs more = refl

none_at_end : (m : Mode) (b : ℕ) (bs : List ℕ) → at_end m ≡ Some (b ∷ bs) → ⊥
none_at_end Between b bs h = cc
none_at_end Line b bs h = cc
none_at_end Opening b bs h = cc
none_at_end Block b bs h = cc
none_at_end Closing b bs h = cc

one_left : (m : Option Mode) (x b c : ℕ) (cs : List ℕ) → on_mode m (x ∷ []) (λ n. at_end n) ≡ Some (b ∷ c ∷ cs) → ⊥
one_left None x b c cs h = cc
one_left (Some n) x b c cs h = none_at_end n b (c ∷ cs) h

-- where a token of two bytes or more begins, it begins whatever stands behind
skipped_same : (more : List ℕ) (m : Mode) (bytes : List ℕ) (b c : ℕ) (cs : List ℕ) → skipped m bytes ≡ Some (b ∷ c ∷ cs) → skipped m (bytes ++ more) ≡ Some (b ∷ c ∷ (cs ++ more))
skipped_same more m [] b c cs h = absurd (none_at_end m b (c ∷ cs) h)
skipped_same more m (x ∷ []) b c cs h = absurd (one_left (mode_after m x []) x b c cs h)
skipped_same more m (x ∷ y ∷ ys) b c cs h = ap (λ (o : Option Mode). on_mode o (x ∷ y ∷ (ys ++ more)) (λ n. skipped n (y ∷ (ys ++ more)))) (sym (mode_same m x y ys more)) ∙ by_mode (mode_after m x (y ∷ ys)) h (λ n k. skipped_same more n (y ∷ ys) b c cs k)
  where
    by_mode : (o : Option Mode) → on_mode o (x ∷ y ∷ ys) (λ n. skipped n (y ∷ ys)) ≡ Some (b ∷ c ∷ cs) → ((n : Mode) → skipped n (y ∷ ys) ≡ Some (b ∷ c ∷ cs) → skipped n (y ∷ (ys ++ more)) ≡ Some (b ∷ c ∷ (cs ++ more))) →
        on_mode o (x ∷ y ∷ (ys ++ more)) (λ n. skipped n (y ∷ (ys ++ more))) ≡ Some (b ∷ c ∷ (cs ++ more))
    by_mode None k again = let e : x ∷ y ∷ ys ≡ b ∷ c ∷ cs = some_is _ _ k in ap (λ (l : List ℕ). Some (l ++ more)) e
    by_mode (Some n) k again = again n k

-- a byte that ends the blanks of the front ends them whatever stands behind
last_same : (m : Mode) (b : ℕ) (more : List ℕ) → mode_after m b [] ≡ Some Between → mode_after m b more ≡ Some Between
last_same Between b more h = by_space (is_space b) (eqb b 47) (begins 47 more) (begins 42 more) h
  where
    by_space : (s t p q : Bool) → choose s (λ _. Some Between) (λ _. choose (t && false) (λ _. Some Line) (λ _. choose (t && false) (λ _. Some Opening) (λ _. None))) ≡ Some Between →
        choose s (λ _. Some Between) (λ _. choose (t && p) (λ _. Some Line) (λ _. choose (t && q) (λ _. Some Opening) (λ _. None))) ≡ Some Between
    by_space true t p q k = refl
    by_space false true p q k = absurd cc
    by_space false false p q k = absurd cc
last_same Line b more h = h
last_same Opening b more h = absurd cc
last_same Block b more h = by_star (eqb b 42) h
  where
    by_star : (t : Bool) → choose (t && false) (λ _. Some Closing) (λ _. Some Block) ≡ Some Between → mode_after Block b more ≡ Some Between
    by_star true k = absurd cc
    by_star false k = absurd cc
last_same Closing b more h = refl

-- blanks are skipped
blanks_skipped : (more : List ℕ) (m : Mode) (bytes : List ℕ) → mode_behind m bytes ≡ Some Between → skipped m (bytes ++ more) ≡ skipped Between more
blanks_skipped more m [] h = ap (λ (n : Mode). skipped n more) (mode_is m h)
  where
    mode_is : (m : Mode) → ◌≡◌ {A = Option Mode} (Some m) (Some Between) → m ≡ Between
    mode_is m h = cc
blanks_skipped more m (x ∷ []) h = rw (last_same m x more (end_is (mode_after m x []) h)) refl
  where
    end_is : (o : Option Mode) → on_next o (λ n. Some n) ≡ Some Between → o ≡ Some Between
    end_is None k = absurd cc
    end_is (Some n) k = k
blanks_skipped more m (x ∷ y ∷ ys) h = ap (λ (o : Option Mode). on_mode o (x ∷ y ∷ (ys ++ more)) (λ n. skipped n (y ∷ (ys ++ more)))) (sym (mode_same m x y ys more)) ∙ by_mode (mode_after m x (y ∷ ys)) h (λ n k. blanks_skipped more n (y ∷ ys) k)
  where
    by_mode : (o : Option Mode) → on_next o (λ n. mode_behind n (y ∷ ys)) ≡ Some Between → ((n : Mode) → mode_behind n (y ∷ ys) ≡ Some Between → skipped n (y ∷ (ys ++ more)) ≡ skipped Between more) →
        on_mode o (x ∷ y ∷ (ys ++ more)) (λ n. skipped n (y ∷ (ys ++ more))) ≡ skipped Between more
    by_mode None k again = absurd cc
    by_mode (Some n) k again = again n k

-- ---- tokens

past : (size : ℕ) (bytes rest : List ℕ) (us : List Placed) → skipped Between bytes ≡ skipped Between rest → HasTokens size rest us → HasTokens size bytes us
past size bytes rest [] e h = e ∙ h
past size bytes rest (u ∷ us) e (b, bs, left, h, at, scan, more) = (b, bs, left, e ∙ h, at, scan, more)

end_parts : (o : Option Mode) (ts : List Placed) → ahead_end o ≡ Some ts → (o ≡ Some Between) × ([] ≡ ts)
end_parts (Some Between) ts h = (refl, some_is [] ts h)
end_parts (Some Line) ts h = absurd cc
end_parts (Some Opening) ts h = absurd cc
end_parts (Some Block) ts h = absurd cc
end_parts (Some Closing) ts h = absurd cc
end_parts None ts h = absurd cc

-- the first token of a front, and the others
record Ahead (at : ℕ) (scan : Scan) (ts : List Placed) (go : List ℕ → Option (List Placed)) : Type 0 where
  lexeme : Lexeme
  next : ℕ
  rest : List ℕ
  others : List Placed
  token : scan ≡ Some (lexeme, next ∷ rest)
  parts : record { at = at; lexeme = lexeme } ∷ others ≡ ts
  more : go (next ∷ rest) ≡ Some others

ahead_parts : (at : ℕ) (scan : Scan) (ts : List Placed) (go : List ℕ → Option (List Placed)) → ahead_scan at scan go ≡ Some ts → Ahead at scan ts go
ahead_parts at None ts go h = absurd cc
ahead_parts at (Some (t, [])) ts go h = absurd cc
ahead_parts at (Some (t, (r ∷ rs))) ts go h = by_more (go (r ∷ rs)) refl h
  where
    by_more : (out : Option (List Placed)) → go (r ∷ rs) ≡ out → with_token (record { at = at; lexeme = t }) out ≡ Some ts → Ahead at (Some (t, r ∷ rs)) ts go
    by_more None e k = absurd cc
    by_more (Some others) e k = record { lexeme = t; next = r; rest = rs; others = others; token = refl; parts = some_is _ ts k; more = e }

-- a token of the front, before the others and what is behind
ahead_first : (k size : ℕ) (front more : List ℕ) (b : ℕ) (bs : List ℕ) (t : Lexeme) (r : ℕ) (rs : List ℕ) (ts : List Placed) → length front ≤ k → size ≡ k + length more → skipped Between front ≡ Some (b ∷ bs) → token_at b bs ≡ Some (t, r ∷ rs) →
    HasTokens size (r ∷ (rs ++ more)) ts → HasTokens size (front ++ more) (record { at = k - suc (length bs); lexeme = t } ∷ ts)
ahead_first k size front more b [] t r rs ts l s e f h = absurd (omega (arith, token_short b [] t (r ∷ rs) f))
ahead_first k size front more b (c ∷ cs) t r rs ts l s e f h =
    let short : suc (length (c ∷ cs)) ≤ length front = skipped_short Between front (b ∷ c ∷ cs) e in
    (b, c ∷ (cs ++ more), r ∷ (rs ++ more), skipped_same more Between front b c cs e, (omega (arith, length-append cs more)), token_same more b (c ∷ cs) t r rs f, h)

-- The tokens of a front, then those of the rest. The size is that of the whole text.
pub tokens_ahead-append : (n k size : ℕ) (front rest : List ℕ) (ts us : List Placed) → length front ≤ k → size ≡ k + length rest → tokens_ahead n k front ≡ Some ts → HasTokens size rest us → HasTokens size (front ++ rest) (ts ++ us)
unfolding tokens_ahead
tokens_ahead-append zero k size front rest ts us l s h more = absurd cc
tokens_ahead-append (suc n) k size front rest ts us l s h more = by_left (skipped Between front) refl h (λ left vs m e. tokens_ahead-append n k size left rest vs us m s e more)
  where
    by_left : (left : Option (List ℕ)) → skipped Between front ≡ left → ahead_text k left (mode_behind Between front) (λ r. tokens_ahead n k r) ≡ Some ts →
        ((left : List ℕ) (vs : List Placed) → length left ≤ k → tokens_ahead n k left ≡ Some vs → HasTokens size (left ++ rest) (vs ++ us)) → HasTokens size (front ++ rest) (ts ++ us)
    by_left None e h again = absurd cc
    by_left (Some []) e h again =
        let end = end_parts (mode_behind Between front) ts h in
        subst (λ (l : List Placed). HasTokens size (front ++ rest) (l ++ us)) end.1 (past size (front ++ rest) rest us (blanks_skipped rest Between front end.0) more)
    by_left (Some (b ∷ bs)) e h again =
        let a = ahead_parts (k - suc (length bs)) (token_at b bs) ts (λ r. tokens_ahead n k r) h in
        let fits : suc (length bs) ≤ length front = skipped_short Between front (b ∷ bs) e in
        let left : length (a.next ∷ a.rest) ≤ length bs = token_short b bs a.lexeme (a.next ∷ a.rest) a.token in
        subst (λ (vs : List Placed). HasTokens size (front ++ rest) (vs ++ us)) a.parts
        (ahead_first k size front rest b bs a.lexeme a.next a.rest (a.others ++ us) l s e a.token (again (a.next ∷ a.rest) a.others (omega arith) a.more))
