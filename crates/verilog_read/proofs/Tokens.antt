-- The steps of the loop over a text.
use Rattle.std.proofs.Common.{◌≡◌, ℕ, ◌+◌, ◌<◌, List, [], ◌∷◌, ◌++◌, length, Option, Some, None, refl, sym, ap, subst, ◌∙◌, arith, append_assoc}
use Rattle.verilog_tree.specs.Lexemes.{Lexeme}
use Rattle.verilog_tree.specs.Lexemes.{Placed}
use Rattle.verilog_tree.specs.Blanks.{Between, skipped}
use Rattle.verilog_tree.specs.Lex.{token_at, Scan, HasTokens}
use Rattle.verilog_read.specs.Runs.{token_of}
use Rattle.verilog_read.specs.declared.token.Placed as code
use Rattle.verilog_read.specs.Seen.{placed_seen, seen}
use Rattle.verilog_read.specs.declared.refusal.UnsupportedForm.{UnsupportedForm}
use Rattle.verilog_read.specs.Faults.{fault_of}
use Rattle.verilog_read.specs.Forms.{form_at}
use Rattle.verilog_read.specs.Places.{EndsAt, HasFront}
use Rattle.verilog_read.specs.Tokens.{Extends}

-- what a token adds
pub forth : (size at : ℕ) (rest next behind : List ℕ) (t : Lexeme) (more : List Placed) → skipped Between rest ≡ Some next → 0 < length next → at + length next ≡ size → token_of next ≡ Some (t, behind) →
    HasTokens size behind more → HasTokens size rest (record { at = at; lexeme = t } ∷ more)
forth size at rest [] behind t more s l p h k = absurd (omega arith)
forth size at rest (b ∷ bs) behind t more s l p h k = (b, bs, behind, s, p, h, k)

pub forth_front : (size at : ℕ) (rest next behind : List ℕ) (t : Lexeme) (more : List Placed) (end : ℕ) (form : Option UnsupportedForm) → skipped Between rest ≡ Some next → 0 < length next → at + length next ≡ size
    → token_of next ≡ Some (t, behind) → HasFront size behind more end form → HasFront size rest (record { at = at; lexeme = t } ∷ more) end form
forth_front size at rest [] behind t more end form s l p h k = absurd (omega arith)
forth_front size at rest (b ∷ bs) behind t more end form s l p h k = (b, bs, behind, s, p, h, k)

some_is : {A : Type 0} (x y : A) → ◌≡◌ {A = Option A} (Some x) (Some y) → x ≡ y
some_is x y h = cc

pub record Goes (size at : ℕ) (behind : List ℕ) (t : Lexeme) (ts : List Placed) : Type 0 where
  pub more : List Placed
  pub parts : ts ≡ record { at = at; lexeme = t } ∷ more
  pub tokens : HasTokens size behind more

-- and nothing else can stand there
pub back : (size at : ℕ) (rest next behind : List ℕ) (t : Lexeme) (ts : List Placed) → skipped Between rest ≡ Some next → 0 < length next → at + length next ≡ size → token_of next ≡ Some (t, behind) →
    HasTokens size rest ts → Goes size at behind t ts
back size at rest [] behind t ts s l p h k = absurd (omega arith)
back size at rest (b ∷ bs) behind t [] s l p h k = absurd cc
back size at rest (b ∷ bs) behind t (u ∷ us) s l p h (b', bs', behind', s', p', h', k') =
    let same : b ∷ bs ≡ b' ∷ bs' = cc in
    let first : b ≡ b' = cc in
    let others : bs ≡ bs' = cc in
    let scans : ◌≡◌ {A = Scan} (Some (t, behind)) (Some (u.lexeme, behind')) = sym h ∙ (λ i. token_at (first i) (others i)) ∙ h' in
    let both : (t, behind) ≡ (u.lexeme, behind') = some_is (t, behind) (u.lexeme, behind') scans in
    let token : t ≡ u.lexeme = ap (λ (q : Lexeme × List ℕ). q.0) both in
    let left : behind ≡ behind' = ap (λ (q : Lexeme × List ℕ). q.1) both in
    let long : length bs ≡ length bs' = ap length others in
    let place : at ≡ u.at = omega arith in
    record {
      more = us;
      parts = λ i. record { at = sym place i; lexeme = sym token i } ∷ us;
      tokens = subst (λ (r : List ℕ). HasTokens size r us) (sym left) k';
    }

pub no_gap : (size : ℕ) (rest : List ℕ) (ts : List Placed) → skipped Between rest ≡ None → HasTokens size rest ts → ⊥
no_gap size rest [] s k = cc
no_gap size rest (t ∷ ts) s (b, bs, behind, s', p', h', k') = cc

pub no_token : (size : ℕ) (rest next : List ℕ) (ts : List Placed) → skipped Between rest ≡ Some next → 0 < length next → token_of next ≡ None → HasTokens size rest ts → ⊥
no_token size rest [] ts s l h k = omega arith
no_token size rest (b ∷ bs) [] s l h k = cc
no_token size rest (b ∷ bs) (t ∷ ts) s l h (b', bs', behind', s', p', h', k') =
    let same : b ∷ bs ≡ b' ∷ bs' = cc in
    let first : b ≡ b' = cc in
    let others : bs ≡ bs' = cc in
    let scans : ◌≡◌ {A = Scan} None (Some (t.lexeme, behind')) = sym h ∙ (λ i. token_at (first i) (others i)) ∙ h' in
    cc

pub at_end : (size : ℕ) (rest next : List ℕ) → skipped Between rest ≡ Some next → length next ≡ 0 → HasTokens size rest []
at_end size rest [] s l = s
at_end size rest (b ∷ bs) s l = absurd (omega arith)

pub only_end : (size : ℕ) (rest next : List ℕ) (ts : List Placed) → skipped Between rest ≡ Some next → length next ≡ 0 → HasTokens size rest ts → ts ≡ []
only_end size rest [] [] s l k = refl
only_end size rest [] (t ∷ ts) s l (b, bs, behind, s', p', h', k') = absurd cc
only_end size rest (b ∷ bs) ts s l k = absurd (omega arith)

-- ---- the invariant

pub begins : (size : ℕ) (bytes : List ℕ) → Extends size bytes [] bytes
begins size bytes = record { forth = λ more k. k; front = λ more end form k. k; back = λ ts k. (ts, refl, k) }

pub goes_on : (size at : ℕ) (bytes rest next behind : List ℕ) (found : List Placed) (t : Lexeme) → Extends size bytes found rest → skipped Between rest ≡ Some next → 0 < length next → at + length next ≡ size → token_of next ≡ Some (t, behind) →
    Extends size bytes (found ++ record { at = at; lexeme = t } ∷ []) behind
goes_on size at bytes rest next behind found t e s l p h = record {
  forth = λ more k. rw append_assoc (e.forth (record { at = at; lexeme = t } ∷ more) (forth size at rest next behind t more s l p h k));
  front = λ more end form k. rw append_assoc (e.front (record { at = at; lexeme = t } ∷ more) end form (forth_front size at rest next behind t more end form s l p h k));
  back = λ ts k.
      let (more, parts, k') = e.back ts k in
      let g = back size at rest next behind t more s l p h k' in
      (g.more, parts ∙ ap (λ (m : List Placed). found ++ m) g.parts ∙ sym (append_assoc found (record { at = at; lexeme = t } ∷ []) g.more), g.tokens);
}

append_nothing : (ts : List Placed) → ts ++ [] ≡ ts
append_nothing [] = refl
append_nothing (t ∷ ts) = ap (λ (l : List Placed). t ∷ l) (append_nothing ts)

-- ---- the end of the tokens

pub front_here : (size : ℕ) (bytes rest : List ℕ) (found : List Placed) (end : ℕ) (form : Option UnsupportedForm) → Extends size bytes found rest → EndsAt size (skipped Between rest) end form → HasFront size bytes found end form
front_here size bytes rest found end form e h = subst (λ ts. HasFront size bytes ts end form) (append_nothing found) (e.front [] end form h)

pub gap_front : (size : ℕ) (bytes rest : List ℕ) (found : List Placed) → Extends size bytes found rest → skipped Between rest ≡ None → HasFront size bytes found size None
gap_front size bytes rest found e s = front_here size bytes rest found size None e (subst (λ o. EndsAt size o size None) (sym s) (refl, refl))

pub end_front : (size end : ℕ) (bytes rest next : List ℕ) (found : List Placed) → Extends size bytes found rest → skipped Between rest ≡ Some next → length next ≡ 0 → end ≡ size → HasFront size bytes found end None
end_front size end bytes rest [] found e s l q = front_here size bytes rest found end None e (subst (λ o. EndsAt size o end None) (sym s) (q, refl))
end_front size end bytes rest (b ∷ bs) found e s l q = absurd (omega arith)

pub fault_front : (size end : ℕ) (bytes rest next : List ℕ) (found : List Placed) (form : Option UnsupportedForm) → Extends size bytes found rest → skipped Between rest ≡ Some next → 0 < length next → token_of next ≡ None
    → end + length next ≡ size + fault_of next → ((b : ℕ) (bs : List ℕ) → next ≡ b ∷ bs → form ≡ form_at b bs) → HasFront size bytes found end form
fault_front size end bytes rest [] found form e s l h p f = absurd (omega arith)
fault_front size end bytes rest (b ∷ bs) found form e s l h p f = front_here size bytes rest found end form e (subst (λ o. EndsAt size o end form) (sym s) (h, (p, f b bs refl)))

pub ends_found : (size : ℕ) (bytes rest next : List ℕ) (found : List Placed) → Extends size bytes found rest → skipped Between rest ≡ Some next → length next ≡ 0 → HasTokens size bytes found
ends_found size bytes rest next found e s l = subst (HasTokens size bytes) (append_nothing found) (e.forth [] (at_end size rest next s l))

pub ends_only : (size : ℕ) (bytes rest next : List ℕ) (found ts : List Placed) → Extends size bytes found rest → skipped Between rest ≡ Some next → length next ≡ 0 → HasTokens size bytes ts → found ≡ ts
ends_only size bytes rest next found ts e s l k =
    let (more, parts, k') = e.back ts k in
    let none : more ≡ [] = only_end size rest next more s l k' in
    sym (parts ∙ ap (λ (m : List Placed). found ++ m) none ∙ append_nothing found)

pub stops_gap : (size : ℕ) (bytes rest : List ℕ) (found ts : List Placed) → Extends size bytes found rest → skipped Between rest ≡ None → HasTokens size bytes ts → ⊥
stops_gap size bytes rest found ts e s k = let (more, parts, k') = e.back ts k in no_gap size rest more s k'

pub stops_token : (size : ℕ) (bytes rest next : List ℕ) (found ts : List Placed) → Extends size bytes found rest → skipped Between rest ≡ Some next → 0 < length next → token_of next ≡ None → HasTokens size bytes ts → ⊥
stops_token size bytes rest next found ts e s l h k = let (more, parts, k') = e.back ts k in no_token size rest next more s l h k'

pub seen-push : (found : List code.Placed) (p : code.Placed) → seen (found ++ p ∷ []) ≡ seen found ++ placed_seen p ∷ []
seen-push [] p = refl
seen-push (f ∷ found) p = ap (λ (l : List Placed). placed_seen f ∷ l) (seen-push found p)
