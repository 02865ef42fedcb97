-- The tokens of a text, as a function.
use Rattle.std.specs.Prelude.{ℕ, zero, suc, ◌-◌, List, [], ◌∷◌, length, Option, Some, None}
use Rattle.verilog_tree.specs.Lexemes.{Placed}
use Rattle.verilog_tree.specs.Blanks.{Between, skipped}
use Rattle.verilog_tree.specs.Lex.{token_at, Scan}

-- a token before the others
abbrev pub with_token : Placed → Option (List Placed) → Option (List Placed)
with_token t None = None
with_token t (Some ts) = Some (t ∷ ts)

-- a token at a place, and then the others
abbrev pub on_scan : ℕ → Scan → (List ℕ → Option (List Placed)) → Option (List Placed)
on_scan at None go = None
on_scan at (Some x) go = with_token (record { at = at; lexeme = x.0 }) (go x.1)

-- what begins a text behind its blanks: nothing, or a token
abbrev pub on_text : ℕ → Option (List ℕ) → (List ℕ → Option (List Placed)) → Option (List Placed)
on_text size None go = None
on_text size (Some []) go = Some []
on_text size (Some (b ∷ bs)) go = on_scan (size - suc (length bs)) (token_at b bs) go

-- The tokens of the rest of a text of this size, of which there are fewer than n; none where a token or a comment is malformed.
unfoldable pub tokens_of : ℕ → ℕ → List ℕ → Option (List Placed)
tokens_of zero size bytes = None
tokens_of (suc n) size bytes = on_text size (skipped Between bytes) (λ rest. tokens_of n size rest)
