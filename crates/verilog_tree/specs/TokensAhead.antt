-- The tokens of the front of a text, whatever stands behind it.
use Rattle.std.specs.Prelude.{ℕ, zero, suc, ◌-◌, List, [], ◌∷◌, length, Option, Some, None}
use Rattle.verilog_tree.specs.Lexemes.{Placed}
use Rattle.verilog_tree.specs.Blanks.{Mode, Between, mode_after, skipped}
use Rattle.verilog_tree.specs.Lex.{token_at, Scan}
use Rattle.verilog_tree.specs.TokensOf.{with_token}

-- what comes of a mode, if there is one
abbrev pub on_next : Option Mode → (Mode → Option Mode) → Option Mode
on_next None go = None
on_next (Some m) go = go m

-- where the byte behind these spaces and comments stands; none where a token begins among them
abbrev pub mode_behind : Mode → List ℕ → Option Mode
mode_behind m [] = Some m
mode_behind m (b ∷ bs) = on_next (mode_after m b bs) (λ n. mode_behind n bs)

-- no token more, where a token may begin behind the front
abbrev pub ahead_end : Option Mode → Option (List Placed)
ahead_end (Some Between) = Some []
ahead_end m = None

-- a token, but none at the end of the front, since it could be longer
abbrev pub ahead_scan : ℕ → Scan → (List ℕ → Option (List Placed)) → Option (List Placed)
ahead_scan at None go = None
ahead_scan at (Some (t, [])) go = None
ahead_scan at (Some (t, (r ∷ rs))) go = with_token (record { at = at; lexeme = t }) (go (r ∷ rs))

-- what begins a front behind its blanks: nothing, or a token
abbrev pub ahead_text : ℕ → Option (List ℕ) → Option Mode → (List ℕ → Option (List Placed)) → Option (List Placed)
ahead_text size None end go = None
ahead_text size (Some []) end go = ahead_end end
ahead_text size (Some (b ∷ bs)) end go = ahead_scan (size - suc (length bs)) (token_at b bs) go

-- The tokens of a front of this size, fewer than n; none where the front does not end behind a space or a whole comment.
unfoldable pub tokens_ahead : ℕ → ℕ → List ℕ → Option (List Placed)
tokens_ahead zero size bytes = None
tokens_ahead (suc n) size bytes = ahead_text size (skipped Between bytes) (mode_behind Between bytes) (λ rest. tokens_ahead n size rest)
